-- The machine accepts exactly the documents, and gives out their quads.
use Rattle.rdf_lines.proofs.Prelude.{◌≡◌, ℕ, Bool, true, List, [], ◌∷◌, ◌++◌, refl, ap, ◌∙◌, append_assoc, Option, Some, None, option_map, cond-true, IriRef, Dot, LineEnd, End, Token, Typed, Subject, Term, Literal, xsd_string, LineForm, NTriples, NQuads, Leaf, iri_of, Name, Ref, Lab, Object, Named, WithType, WithTag, Statement, Document, last, next, name_tokens, object_tokens, graph_tokens, statement_tokens, document_tokens, string_of, subject_of, term_of, graph_fits, name_bound, object_bound, graph_bound, GoodStatement, GoodDocument, Mode, Begin, AfterSubject, AfterPredicate, AfterString, AfterObject, AfterDot, Finished, goes, refuses, iri_refused, absolute, quad, Run, ran, with_quad, go_on, run}
use Rattle.rdf_tokens.specs.Leaves.{token}
use Rattle.rdf_lines.specs.Lines.{Plain, quad_of}
use Rattle.rdf_lines.proofs.PlainQuads.{plain_quads}
use Rattle.rdf_lines.specs.Lines as L

-- Complete: the run over a tree's tokens.

-- an IRI that passes is accepted
absolute_goes : (test : List ℕ → Bool) (i : List ℕ) (m : Mode) (more : Mode → Run) → test i ≡ true → go_on (absolute test i m) more ≡ more m
absolute_goes test i m more h = ap (λ x. go_on x more) (cond-true (test i) (goes m) (refuses (iri_refused i)) h)

-- the machine takes a subject
run_subject : (test : List ℕ → Bool) (f : LineForm) (n : Name) (ts : List Token) → name_bound test n →
    run test f Begin (name_tokens n ++ ts) ≡ run test f (AfterSubject (subject_of n)) ts
run_subject test f (Ref l) ts b = absolute_goes test (iri_of l) _ (λ m. run test f m ts) b
run_subject test f (Lab l) ts b = refl

-- after the object: a graph label, if any, and the dot
run_end : (test : List ℕ → Bool) (f : LineForm) (s : Subject) (p : List ℕ) (o : Term) (g : Option Name) (d : Leaf) (ts : List Token) →
    graph_bound test g → graph_fits f g →
    run test f (AfterObject s p o) (graph_tokens g ++ token Dot d ∷ ts) ≡ with_quad (quad s p o (option_map subject_of g)) (run test f AfterDot ts)
run_end test f s p o None d ts b h = refl
run_end test NTriples s p o (Some n) d ts b h = absurd (let e : Some n ≡ None = h in cc)
run_end test NQuads s p o (Some (Ref l)) d ts b h = absolute_goes test (iri_of l) _ (λ m. run test NQuads m (token Dot d ∷ ts)) b
run_end test NQuads s p o (Some (Lab l)) d ts b h = refl

-- the same after a plain string
run_plain : (test : List ℕ → Bool) (f : LineForm) (s : Subject) (p w : List ℕ) (g : Option Name) (d : Leaf) (ts : List Token) →
    run test f (AfterString s p w) (graph_tokens g ++ token Dot d ∷ ts) ≡ run test f (AfterObject s p (Literal w (Typed xsd_string)))
    (graph_tokens g ++ token Dot d ∷ ts)
run_plain test f s p w None d ts = refl
run_plain test f s p w (Some (Ref l)) d ts = refl
run_plain test f s p w (Some (Lab l)) d ts = refl

-- it takes an object, of one token or with its tag or type
run_object : (test : List ℕ → Bool) (f : LineForm) (s : Subject) (p : List ℕ) (o : Object) (g : Option Name) (d : Leaf) (ts : List Token) →
    object_bound test o →
    run test f (AfterPredicate s p) (object_tokens o ++ (graph_tokens g ++ token Dot d ∷ ts)) ≡ run test f (AfterObject s p (term_of o))
    (graph_tokens g ++ token Dot d ∷ ts)
run_object test f s p (Named (Ref l)) g d ts b = absolute_goes test (iri_of l) _ (λ m. run test f m (graph_tokens g ++ token Dot d ∷ ts)) b
run_object test f s p (Named (Lab l)) g d ts b = refl
run_object test f s p (Plain w) g d ts b = run_plain test f s p (string_of w) g d ts
run_object test f s p (WithType w c i) g d ts b = absolute_goes test (iri_of i) _ (λ m. run test f m (graph_tokens g ++ token Dot d ∷ ts)) b
run_object test f s p (WithTag w t) g d ts b = refl

-- a statement's tokens, and what follows, without brackets on the left
statement_split : (s : Statement) (ts : List Token) →
    statement_tokens s ++ ts ≡ name_tokens s.subject ++ (token IriRef s.predicate ∷ (object_tokens s.object ++ (graph_tokens s.graph ++ token Dot s.dot ∷ ts)))
statement_split s ts = simp append_assoc

-- the machine takes a statement, and gives out its quad at the dot
pub run_statement : (test : List ℕ → Bool) (f : LineForm) (s : Statement) (ts : List Token) → GoodStatement test f s →
    run test f Begin (statement_tokens s ++ ts) ≡ with_quad (quad_of s) (run test f AfterDot ts)
run_statement test f s ts g =
    let rest = object_tokens s.object ++ (graph_tokens s.graph ++ token Dot s.dot ∷ ts) in
    ap (run test f Begin) (statement_split s ts)
    ∙ (run_subject test f s.subject (token IriRef s.predicate ∷ rest) g.subject
    ∙ (absolute_goes test (iri_of s.predicate) (AfterPredicate (subject_of s.subject) (iri_of s.predicate)) (λ m. run test f m rest) g.predicate
    ∙ (run_object test f (subject_of s.subject) (iri_of s.predicate) s.object s.graph s.dot ts g.object
    ∙ run_end test f (subject_of s.subject) (iri_of s.predicate) (term_of s.object) s.graph s.dot ts g.graph g.labels)))

-- the machine takes each document, and gives out its quads
pub complete : (test : List ℕ → Bool) (f : LineForm) (d : Document) → GoodDocument test f d →
    run test f Begin (document_tokens d) ≡ ran Finished (plain_quads d)
complete test f (last L.empty e) g = refl
complete test f (last (L.one s) e) g = run_statement test f s (token End e ∷ []) g
complete test f (next L.empty e d) g = complete test f d g.1
complete test f (next (L.one s) e d) g = run_statement test f s (token LineEnd e ∷ document_tokens d) g.0 ∙ ap (with_quad (quad_of s)) (complete test f d g.1)

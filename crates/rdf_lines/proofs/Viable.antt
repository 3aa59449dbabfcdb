-- The machine accepts some tokens one by one exactly if some document begins with them: each mode has a completion.
use Rattle.rdf_lines.proofs.Prelude.{◌≡◌, ℕ, Bool, true, List, [], ◌∷◌, ◌++◌, refl, sym, ap, ◌∙◌, Some, None, codes, All, All-nil, All-cons, IriRef, Dot, End, Reason, Token, first_place, Marked, Viable, CompletedWith, Resource, Literal, Typed, Quad, xsd_string, has_scheme, LineForm, Leaf, leaf_of, IsDocument, document_quads, any_iri, IsClosing, BeginningsAreCompleted, Mode, Begin, AfterSubject, AfterPredicate, AfterString, AfterCarets, AfterObject, AfterGraph, AfterDot, Finished, refuses, quad, accept, ran, refused, go_on, run}
use Rattle.rdf_terms.specs.Classes.{has}
use Rattle.rdf_terms.specs.Terms.{Iri}
use Rattle.rdf_tokens.specs.Leaves.{token}
use Rattle.rdf_lines.proofs.LinesLemmas.{good_document, document_good}
use Rattle.rdf_lines.proofs.PlainQuads.{plain_quads}
use Rattle.rdf_lines.proofs.Sound.{sound}
use Rattle.rdf_lines.proofs.Runs.{run_document, run_append, run_one, with_quads, then, then_ran}

-- a token of the completion
abbrev leaf : List ℕ → Leaf
leaf w = record { text = w; at = first_place }

-- an absolute IRI
abbrev iri : Token
iri = token IriRef (leaf (codes "<a:>"))

-- what ends a statement and the document
abbrev ends : List Token
ends = token Dot (leaf (codes ".")) ∷ token End (leaf []) ∷ []

-- each mode has one completion
abbrev completion : Mode → List Token
completion Begin = token End (leaf []) ∷ []
completion (AfterSubject s) = iri ∷ iri ∷ ends
completion (AfterPredicate s p) = iri ∷ ends
completion (AfterString s p w) = ends
completion (AfterCarets s p w) = iri ∷ ends
completion (AfterObject s p o) = ends
completion (AfterGraph s p o g) = ends
completion AfterDot = token End (leaf []) ∷ []
completion Finished = []

-- the text of that IRI
abbrev word : List ℕ
word = codes "a:"

-- each mode has a completion that is accepted
completes : (test : List ℕ → Bool) (f : LineForm) → test word ≡ true → (m : Mode) → (qs : List Quad) × (run test f m (completion m) ≡ ran Finished qs)
unfolding has
completes test f h Begin = ([], refl)
completes test f h (AfterSubject s) = (quad s word (Resource (Iri word)) None ∷ [], simp h)
completes test f h (AfterPredicate s p) = (quad s p (Resource (Iri word)) None ∷ [], simp h)
completes test f h (AfterString s p w) = (quad s p (Literal w (Typed xsd_string)) None ∷ [], refl)
completes test f h (AfterCarets s p w) = (quad s p (Literal w (Typed word)) None ∷ [], simp h)
completes test f h (AfterObject s p o) = (quad s p o None ∷ [], refl)
completes test f h (AfterGraph s p o g) = (quad s p o (Some g) ∷ [], refl)
completes test f h AfterDot = ([], refl)
completes test f h Finished = ([], refl)

-- tokens that are accepted are completed to a document
completed_ran : (test : List ℕ → Bool) (f : LineForm) → test word ≡ true → (ts : List Token) (m : Mode) (qs : List Quad) → run test f Begin ts ≡ ran m qs →
    (all : List Marked) × IsDocument test f (ts ++ completion m) all
completed_ran test f h ts m qs e =
    let c = completes test f h m in
    let all : run test f Begin (ts ++ completion m) ≡ ran Finished (qs ++ c.0) =
    run_append test f ts (completion m) Begin ∙ (ap (λ r. then r (λ n. run test f n (completion m))) e ∙ ap (with_quads qs) c.1) in
    let d = sound test f (ts ++ completion m) (qs ++ c.0) all in
    (document_quads 0 d.0, good_document test f (ts ++ completion m) d.0 d.1 d.2)

-- so they begin one
pub viable_ran : (test : List ℕ → Bool) (f : LineForm) → test word ≡ true → (ts : List Token) (m : Mode) (qs : List Quad) →
    run test f Begin ts ≡ ran m qs → Viable (IsDocument test f) ts
viable_ran test f h ts m qs e = let d = completed_ran test f h ts m qs e in (completion m, d.0, d.1)

-- tokens that begin a document are accepted
pub ran_viable : (test : List ℕ → Bool) (f : LineForm) (ts : List Token) → Viable (IsDocument test f) ts →
    (m : Mode) × (qs : List Quad) × (run test f Begin ts ≡ ran m qs)
ran_viable test f ts v =
    let d = v.2 in
    then_ran (run test f Begin ts) (λ n. run test f n v.0) Finished (plain_quads d.0)
    (sym (run_append test f ts v.0 Begin) ∙ run_document test f (ts ++ v.0) (plain_quads d.0) (d.0, d.1, document_good test f (ts ++ v.0) v.1 d, refl))

-- A token that the machine refuses begins no document with those before it.
pub not_viable : (test : List ℕ → Bool) (f : LineForm) (ts : List Token) (t : Token) (m : Mode) (qs : List Quad) (r : Reason) → run test f Begin ts ≡ ran m qs →
    accept test f m t.kind (leaf_of t) ≡ refuses r → Viable (IsDocument test f) (ts ++ t ∷ []) → ⊥
not_viable test f ts t m qs r e a v =
    let w = ran_viable test f (ts ++ t ∷ []) v in
    let x : run test f Begin (ts ++ t ∷ []) ≡ refused r = run_one test f ts t Begin m qs e ∙ ap (λ y. with_quads qs (go_on y (λ n. run test f n []))) a in
    let z : refused r ≡ ran w.0 w.1 = sym x ∙ w.2 in
    cc

-- each token of a completion is one of those that are written so
dot_closes : All IsClosing ends
dot_closes = All-cons IsClosing (token Dot (leaf (codes "."))) (token End (leaf []) ∷ []) refl
    (All-cons IsClosing (token End (leaf [])) [] refl (All-nil IsClosing))

iri_closes : (ts : List Token) → All IsClosing ts → All IsClosing (iri ∷ ts)
iri_closes ts h = All-cons IsClosing iri ts refl h

all_close : (m : Mode) → All IsClosing (completion m)
all_close Begin = All-cons IsClosing (token End (leaf [])) [] refl (All-nil IsClosing)
all_close (AfterSubject s) = iri_closes (iri ∷ ends) (iri_closes ends dot_closes)
all_close (AfterPredicate s p) = iri_closes ends dot_closes
all_close (AfterString s p w) = dot_closes
all_close (AfterCarets s p w) = iri_closes ends dot_closes
all_close (AfterObject s p o) = dot_closes
all_close (AfterGraph s p o g) = dot_closes
all_close AfterDot = All-cons IsClosing (token End (leaf [])) [] refl (All-nil IsClosing)
all_close Finished = All-nil IsClosing

-- What begins a document, or a tree, is completed by these tokens.
completed : (test : List ℕ → Bool) (f : LineForm) → test word ≡ true → (ts : List Token) → Viable (IsDocument test f) ts →
    CompletedWith IsClosing (IsDocument test f) ts
completed test f h ts v =
    let r = ran_viable test f ts v in
    let d = completed_ran test f h ts r.0 r.1 r.2 in
    (completion r.0, d.0, all_close r.0, d.1)

pub beginnings_completed : BeginningsAreCompleted
beginnings_completed f ts = (λ v. completed has_scheme f refl ts v, λ v. completed any_iri f refl ts v)

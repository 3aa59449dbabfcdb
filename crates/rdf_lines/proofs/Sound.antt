-- What the machine accepts has a tree.
use Rattle.rdf_lines.proofs.Prelude.{◌≡◌, ℕ, Bool, true, List, [], ◌∷◌, ◌++◌, refl, sym, ap, ◌∙◌, subst, ⊎_elim, append_assoc, Some, None, cases_Bool, cond-true, cond-false, append-nil, Kind, IriRef, LabelNode, ShortString, LangTag, Carets, Dot, LineEnd, End, Token, Quad, LineForm, NTriples, NQuads, Leaf, leaf_of, iri_of, Name, Ref, Lab, Object, Named, WithType, WithTag, Statement, Line, last, next, name_tokens, object_tokens, statement_tokens, line_tokens, string_of, subject_of, term_of, graph_fits, name_bound, object_bound, GoodStatement, GoodLine, Unexpected, Mode, Begin, AfterSubject, AfterPredicate, AfterString, AfterCarets, AfterObject, AfterGraph, AfterDot, Finished, goes, refuses, iri_refused, absolute, accept, Run, ran, refused, with_quad, go_on, run}
use Rattle.rdf_tokens.specs.Leaves.{token}
use Rattle.rdf_lines.specs.Lines.{Plain, quad_of}
use Rattle.rdf_lines.proofs.PlainQuads.{plain_line, IsPlain}
use Rattle.rdf_lines.specs.Lines as L

-- what has been read of a line, as parts of its tree
data Part : Type 0 where
  begin : Part
  subject : Name → Part
  predicate : Name → Leaf → Part
  string : Name → Leaf → Leaf → Part
  carets : Name → Leaf → Leaf → Leaf → Part
  object : Name → Leaf → Object → Part
  graph : Name → Leaf → Object → Name → Part
  dot : Statement → Part
  finished : Line → Leaf → Part

-- the mode of the machine in a part of a statement
abbrev mode : Part → Mode
mode begin = Begin
mode (subject n) = AfterSubject (subject_of n)
mode (predicate n p) = AfterPredicate (subject_of n) (iri_of p)
mode (string n p w) = AfterString (subject_of n) (iri_of p) (string_of w)
mode (carets n p w c) = AfterCarets (subject_of n) (iri_of p) (string_of w)
mode (object n p o) = AfterObject (subject_of n) (iri_of p) (term_of o)
mode (graph n p o g) = AfterGraph (subject_of n) (iri_of p) (term_of o) (subject_of g)
mode (dot s) = AfterDot
mode (finished l e) = Finished

-- the tokens of the part
abbrev read : Part → List Token
read begin = []
read (subject n) = name_tokens n
read (predicate n p) = name_tokens n ++ token IriRef p ∷ []
read (string n p w) = name_tokens n ++ token IriRef p ∷ token ShortString w ∷ []
read (carets n p w c) = name_tokens n ++ token IriRef p ∷ token ShortString w ∷ token Carets c ∷ []
read (object n p o) = name_tokens n ++ token IriRef p ∷ object_tokens o
read (graph n p o g) = name_tokens n ++ (token IriRef p ∷ (object_tokens o ++ name_tokens g))
read (dot s) = statement_tokens s
read (finished l e) = line_tokens l ++ token End e ∷ []

-- the quad that it has given out, after its dot
abbrev given : Part → List Quad
given (dot s) = quad_of s ∷ []
given (finished l e) = plain_line l
given r = []

-- the IRIs of the part pass the test
abbrev Bound : (List ℕ → Bool) → LineForm → Part → Type 0
Bound test f begin = Unit
Bound test f (subject n) = name_bound test n
Bound test f (predicate n p) = name_bound test n × (test (iri_of p) ≡ true)
Bound test f (string n p w) = name_bound test n × (test (iri_of p) ≡ true)
Bound test f (carets n p w c) = name_bound test n × (test (iri_of p) ≡ true)
Bound test f (object n p o) = name_bound test n × (test (iri_of p) ≡ true) × object_bound test o
Bound test f (graph n p o g) = name_bound test n × (test (iri_of p) ≡ true) × object_bound test o × name_bound test g × (f ≡ NQuads)
Bound test f (dot s) = GoodStatement test f s
Bound test f (finished l e) = GoodLine test f l

-- a run from this part to the end reads the rest of a document that begins with it
abbrev Sound : (List ℕ → Bool) → LineForm → List Token → Part → Type 0
Sound test f ts r = (qs : List Quad) → Bound test f r → run test f (mode r) ts ≡ ran Finished qs → IsPlain test f (read r ++ ts) (given r ++ qs)

-- a run goes on after an IRI only if it passes the test
accepted_absolute : (test : List ℕ → Bool) (i : List ℕ) (m n : Mode) (qs : List Quad) (more : Mode → Run) →
    go_on (absolute test i m) more ≡ ran n qs → (test i ≡ true) × (more m ≡ ran n qs)
accepted_absolute test i m n qs more e =
    ⊎_elim
    (λ h. (h, sym (ap (λ x. go_on x more) (cond-true (test i) (goes m) (refuses (iri_refused i)) h)) ∙ e))
    (λ h. absurd (let z : refused (iri_refused i) ≡ ran n qs =
    sym (ap (λ x. go_on x more) (cond-false (test i) (goes m) (refuses (iri_refused i)) h)) ∙ e in cc))
    (cases_Bool (test i))

-- a quad that is given out first is the first of all
pub quad_first : (q : Quad) (r : Run) (m : Mode) (qs : List Quad) → with_quad q r ≡ ran m qs → (rest : List Quad) × (r ≡ ran m rest) × (qs ≡ q ∷ rest)
quad_first q (ran n rest) m qs e = (rest, (let z : n ≡ m = cc in ap (λ x. ran x rest) z), cc)
quad_first q (refused r) m qs e = absurd (let z : refused r ≡ ran m qs = e in cc)

-- one token more
step : (test : List ℕ → Bool) (f : LineForm) (ts : List Token) → ((r : Part) → Sound test f ts r) →
    (r s : Part) (k : Kind) (l : Leaf) (qs : List Quad) → Bound test f s →
    read s ++ ts ≡ read r ++ token k l ∷ ts → given s ≡ [] → given r ≡ [] → run test f (mode s) ts ≡ ran Finished qs →
    IsPlain test f (read r ++ token k l ∷ ts) (given r ++ qs)
step test f ts ih r s k l qs b e g h m =
    let d = ih s qs b m in
    subst (λ x. IsPlain test f (read r ++ token k l ∷ ts) x) (ap (λ x. x ++ qs) (g ∙ sym h)) (subst (λ x. IsPlain test f x (given s ++ qs)) e d)

-- a dot ends the statement, and the rest of the document follows
closed : (test : List ℕ → Bool) (f : LineForm) (ts : List Token) → ((r : Part) → Sound test f ts r) →
    (r : Part) (s : Statement) (l : Leaf) (qs : List Quad) → GoodStatement test f s →
    statement_tokens s ++ ts ≡ read r ++ token Dot l ∷ ts → given r ≡ [] → with_quad (quad_of s) (run test f AfterDot ts) ≡ ran Finished qs →
    IsPlain test f (read r ++ token Dot l ∷ ts) (given r ++ qs)
closed test f ts ih r s l qs b e h m =
    let q = quad_first (quad_of s) (run test f AfterDot ts) Finished qs m in
    let d = ih (dot s) q.0 b q.1 in
    subst (λ x. IsPlain test f (read r ++ token Dot l ∷ ts) x) (sym q.2 ∙ ap (λ x. x ++ qs) (sym h)) (subst (λ x. IsPlain test f x (quad_of s ∷ q.0)) e d)

-- the statement of a part without a graph label
abbrev plain_end : Name → Leaf → Object → Leaf → Statement
plain_end n p o l = record { subject = n; predicate = p; object = o; graph = None; dot = l }

-- the statement of a part with one
abbrev graph_end : Name → Leaf → Object → Name → Leaf → Statement
graph_end n p o g l = record { subject = n; predicate = p; object = o; graph = Some g; dot = l }

-- a statement without a graph label is one of both forms
no_label : (f : LineForm) → graph_fits {T = Name} f None
no_label NTriples = refl
no_label NQuads = tt

-- a run that refuses a token does not come to the end
no_end : (qs : List Quad) → refused Unexpected ≡ ran Finished qs → ⊥
no_end qs e = cc

-- the step of one token in each part
one : (test : List ℕ → Bool) (f : LineForm) (ts : List Token) → ((r : Part) → Sound test f ts r) →
    (r : Part) (k : Kind) (l : Leaf) (qs : List Quad) → Bound test f r →
    go_on (accept test f (mode r) k l) (λ n. run test f n ts) ≡ ran Finished qs → IsPlain test f (read r ++ token k l ∷ ts) (given r ++ qs)
one test f ts ih begin IriRef l qs b e = let a = accepted_absolute test (iri_of l) _ Finished qs (λ n. run test f n ts) e in
    step test f ts ih begin (subject (Ref l)) IriRef l qs a.0 refl refl refl a.1
one test f ts ih begin LabelNode l qs b e = step test f ts ih begin (subject (Lab l)) LabelNode l qs tt refl refl refl e
one test f ts ih begin LineEnd l qs b e = let d = ih begin qs tt e in (next L.empty l d.0, ap (λ x. token LineEnd l ∷ x) d.1, (tt, d.2), d.3)
one test f ts ih begin End l qs b e = step test f ts ih begin (finished L.empty l) End l qs tt refl refl refl e
one test f ts ih (subject n) IriRef l qs b e =
    let a = accepted_absolute test (iri_of l) _ Finished qs (λ n. run test f n ts) e in
    step test f ts ih (subject n) (predicate n l) IriRef l qs (b, a.0) (simp append_assoc) refl refl a.1
one test f ts ih (predicate n p) IriRef l qs b e =
    let a = accepted_absolute test (iri_of l) _ Finished qs (λ n. run test f n ts) e in
    step test f ts ih (predicate n p) (object n p (Named (Ref l))) IriRef l qs (b.0, b.1, a.0) (simp append_assoc) refl refl a.1
one test f ts ih (predicate n p) LabelNode l qs b e =
    step test f ts ih (predicate n p) (object n p (Named (Lab l))) LabelNode l qs (b.0, b.1, tt) (simp append_assoc) refl refl e
one test f ts ih (predicate n p) ShortString l qs b e = step test f ts ih (predicate n p) (string n p l) ShortString l qs b (simp append_assoc) refl refl e
one test f ts ih (string n p w) LangTag l qs b e =
    step test f ts ih (string n p w) (object n p (WithTag w l)) LangTag l qs (b.0, b.1, tt) (simp append_assoc) refl refl e
one test f ts ih (string n p w) Carets l qs b e = step test f ts ih (string n p w) (carets n p w l) Carets l qs b (simp append_assoc) refl refl e
one test f ts ih (string n p w) Dot l qs b e =
    closed test f ts ih (string n p w) (plain_end n p (Plain w) l) l qs
    (record { subject = b.0; predicate = b.1; object = tt; graph = tt; labels = no_label f }) (simp append_assoc) refl e
one test NQuads ts ih (string n p w) IriRef l qs b e =
    let a = accepted_absolute test (iri_of l) _ Finished qs (λ n. run test NQuads n ts) e in
    step test NQuads ts ih (string n p w) (graph n p (Plain w) (Ref l)) IriRef l qs (b.0, b.1, tt, a.0, refl) (simp append_assoc) refl refl a.1
one test NQuads ts ih (string n p w) LabelNode l qs b e =
    step test NQuads ts ih (string n p w) (graph n p (Plain w) (Lab l)) LabelNode l qs (b.0, b.1, tt, tt, refl) (simp append_assoc) refl refl e
one test f ts ih (carets n p w c) IriRef l qs b e =
    let a = accepted_absolute test (iri_of l) _ Finished qs (λ n. run test f n ts) e in
    step test f ts ih (carets n p w c) (object n p (WithType w c l)) IriRef l qs (b.0, b.1, a.0) (simp append_assoc) refl refl a.1
one test f ts ih (object n p o) Dot l qs b e =
    closed test f ts ih (object n p o) (plain_end n p o l) l qs
    (record { subject = b.0; predicate = b.1; object = b.2; graph = tt; labels = no_label f }) (simp append_assoc) refl e
one test NQuads ts ih (object n p o) IriRef l qs b e =
    let a = accepted_absolute test (iri_of l) _ Finished qs (λ n. run test NQuads n ts) e in
    step test NQuads ts ih (object n p o) (graph n p o (Ref l)) IriRef l qs (b.0, b.1, b.2, a.0, refl) (simp append_assoc) refl refl a.1
one test NQuads ts ih (object n p o) LabelNode l qs b e =
    step test NQuads ts ih (object n p o) (graph n p o (Lab l)) LabelNode l qs (b.0, b.1, b.2, tt, refl) (simp append_assoc) refl refl e
one test f ts ih (graph n p o g) Dot l qs b e =
    closed test f ts ih (graph n p o g) (graph_end n p o g l) l qs
    (record { subject = b.0; predicate = b.1; object = b.2; graph = b.3; labels = subst (λ x. graph_fits x (Some g)) (sym b.4) tt }) (simp append_assoc) refl e
one test f ts ih (dot s) LineEnd l qs b e =
    let d = ih begin qs tt e in
    (next (L.one s) l d.0, ap (λ x. statement_tokens s ++ token LineEnd l ∷ x) d.1, (b, d.2), ap (λ x. quad_of s ∷ x) d.3)
one test f ts ih (dot s) End l qs b e =
    subst (λ x. IsPlain test f x (quad_of s ∷ qs)) (append_assoc (statement_tokens s) (token End l ∷ []) ts) (ih (finished (L.one s) l) qs b e)
one test f ts ih r k l qs b e = absurd (no_end qs e)

-- so every run to the end reads the rest of a document
sound_all : (test : List ℕ → Bool) (f : LineForm) (ts : List Token) (r : Part) → Sound test f ts r
sound_all test f [] (finished l e) qs b m =
    let z : [] ≡ qs = cc in
    (last l e, append-nil (line_tokens l ++ token End e ∷ []), b, sym (append-nil (plain_line l)) ∙ ap (λ x. plain_line l ++ x) z)
sound_all test f [] begin qs b m = absurd (let z : ran Begin [] ≡ ran Finished qs = m in cc)
sound_all test f [] (subject n) qs b m = absurd (let z : ran (AfterSubject (subject_of n)) [] ≡ ran Finished qs = m in cc)
sound_all test f [] (predicate n p) qs b m = absurd (let z : ran (AfterPredicate (subject_of n) (iri_of p)) [] ≡ ran Finished qs = m in cc)
sound_all test f [] (string n p w) qs b m = absurd (let z : ran (AfterString (subject_of n) (iri_of p) (string_of w)) [] ≡ ran Finished qs = m in cc)
sound_all test f [] (carets n p w c) qs b m = absurd (let z : ran (AfterCarets (subject_of n) (iri_of p) (string_of w)) [] ≡ ran Finished qs = m in cc)
sound_all test f [] (object n p o) qs b m = absurd (let z : ran (AfterObject (subject_of n) (iri_of p) (term_of o)) [] ≡ ran Finished qs = m in cc)
sound_all test f [] (graph n p o g) qs b m =
    absurd (let z : ran (AfterGraph (subject_of n) (iri_of p) (term_of o) (subject_of g)) [] ≡ ran Finished qs = m in cc)
sound_all test f [] (dot s) qs b m = absurd (let z : ran AfterDot [] ≡ ran Finished qs = m in cc)
sound_all test f (t ∷ ts) r qs b m = one test f ts (λ s. sound_all test f ts s) r t.kind (leaf_of t) qs b m

-- the tokens that the machine takes to their end are a document
pub sound : (test : List ℕ → Bool) (f : LineForm) (ts : List Token) (qs : List Quad) → run test f Begin ts ≡ ran Finished qs → IsPlain test f ts qs
sound test f ts qs e = sound_all test f ts begin qs tt e

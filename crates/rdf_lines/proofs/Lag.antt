-- A quad is given out at its statement's dot, and at no other token.
use Rattle.rdf_lines.proofs.Prelude.{◌≡◌, ℕ, ◌+◌, Bool, List, [], ◌∷◌, refl, sym, ap, ◌∙◌, length, arith, cond_both, Kind, IriRef, LabelNode, ShortString, LangTag, Carets, Dot, LineEnd, End, Token, Subject, Term, Literal, Typed, Quad, xsd_string, LineForm, NQuads, Leaf, leaf_of, iri_of, Mode, Begin, AfterSubject, AfterPredicate, AfterString, AfterCarets, AfterObject, AfterGraph, AfterDot, Answer, goes, gives, refuses, iri_refused, absolute, object_then, accept, ran, refused, go_on, run}
use Rattle.rdf_lines.proofs.Sound.{quad_first}

-- a dot counts one
abbrev pub is_dot : Kind → ℕ
is_dot Dot = 1
is_dot k = 0

-- how many statements have ended
abbrev pub dots : List Token → ℕ
dots [] = 0
dots (t ∷ ts) = is_dot t.kind + dots ts

-- an answer gives as many quads as that
abbrev Counts : Answer → ℕ → Type 0
Counts (goes m) d = d ≡ 0
Counts (gives q m) d = d ≡ 1
Counts (refuses r) d = Unit

-- a token with an IRI gives none
absolute_counts : (test : List ℕ → Bool) (i : List ℕ) (m : Mode) → Counts (absolute test i m) 0
absolute_counts test i m = cond_both (test i) (goes m) (refuses (iri_refused i)) (λ x. Counts x 0) (λ e. refl) (λ e. tt)

-- after an object only the dot gives one
object_counts : (test : List ℕ → Bool) (f : LineForm) (s : Subject) (p : List ℕ) (o : Term) (k : Kind) (l : Leaf) →
    Counts (object_then test f s p o k l) (is_dot k)
object_counts test f s p o Dot l = refl
object_counts test NQuads s p o IriRef l = absolute_counts test (iri_of l) _
object_counts test NQuads s p o LabelNode l = refl
object_counts test f s p o k l = tt

-- so no answer gives a quad but at a dot
counts : (test : List ℕ → Bool) (f : LineForm) (m : Mode) (k : Kind) (l : Leaf) → Counts (accept test f m k l) (is_dot k)
counts test f Begin IriRef l = absolute_counts test (iri_of l) _
counts test f (AfterSubject s) IriRef l = absolute_counts test (iri_of l) _
counts test f (AfterPredicate s p) IriRef l = absolute_counts test (iri_of l) _
counts test f (AfterCarets s p w) IriRef l = absolute_counts test (iri_of l) _
counts test f Begin LabelNode l = refl
counts test f Begin LineEnd l = refl
counts test f Begin End l = refl
counts test f (AfterPredicate s p) LabelNode l = refl
counts test f (AfterPredicate s p) ShortString l = refl
counts test f (AfterString s p w) LangTag l = refl
counts test f (AfterString s p w) Carets l = refl
counts test f (AfterString s p w) k l = object_counts test f s p (Literal w (Typed xsd_string)) k l
counts test f (AfterObject s p o) k l = object_counts test f s p o k l
counts test f (AfterGraph s p o g) Dot l = refl
counts test f AfterDot LineEnd l = refl
counts test f AfterDot End l = refl
counts test f m k l = tt

-- As many quads were given out as dots have come.
pub given_dots : (test : List ℕ → Bool) (f : LineForm) (ts : List Token) (m n : Mode) (qs : List Quad) → run test f m ts ≡ ran n qs → length qs ≡ dots ts
given_dots test f [] m n qs e = let z : [] ≡ qs = cc in ap length (sym z)
given_dots test f (t ∷ ts) m n qs e =
    let l : Leaf = leaf_of t in
    at (λ k rs x. given_dots test f ts k n rs x) (accept test f m t.kind l) (counts test f m t.kind l) qs e
  where
    at : ((k : Mode) (rs : List Quad) → run test f k ts ≡ ran n rs → length rs ≡ dots ts) → (a : Answer) → Counts a (is_dot t.kind) → (qs : List Quad) →
        go_on a (λ k. run test f k ts) ≡ ran n qs → length qs ≡ is_dot t.kind + dots ts
    at h (goes k) c qs x = let r = h k qs x in omega arith
    at h (gives q k) c qs x =
        let z = quad_first q (run test f k ts) n qs x in
        let r = h k z.0 z.1 in
        let s : length qs ≡ length z.0 + 1 = ap length z.2 ∙ omega arith in
        omega arith
    at h (refuses r) c qs x = absurd (let z : refused r ≡ ran n qs = x in cc)

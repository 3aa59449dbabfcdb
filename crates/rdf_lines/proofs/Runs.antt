-- A run over more tokens goes on where the first ended, and over the tokens of a document it gives out its quads.
use Rattle.rdf_lines.proofs.Prelude.{◌≡◌, ℕ, Bool, List, [], ◌∷◌, ◌++◌, refl, sym, ap, ◌∙◌, Token, Quad, LineForm, leaf_of, Mode, Begin, Finished, Answer, goes, gives, refuses, accept, Run, ran, refused, with_quad, go_on, run}
use Rattle.rdf_lines.proofs.PlainQuads.{IsPlain}
use Rattle.rdf_lines.proofs.Complete.{complete}

-- the run over a document gives out its quads
pub run_document : (test : List ℕ → Bool) (f : LineForm) (ts : List Token) (qs : List Quad) → IsPlain test f ts qs → run test f Begin ts ≡ ran Finished qs
run_document test f ts qs d = ap (run test f Begin) d.1 ∙ (complete test f d.0 d.2 ∙ ap (ran Finished) d.3)

-- every tree of the tokens has the same quads
pub same_quads : (test : List ℕ → Bool) (f : LineForm) (ts : List Token) (qs rs : List Quad) → IsPlain test f ts qs → IsPlain test f ts rs → qs ≡ rs
same_quads test f ts qs rs a b =
    let e : ran Finished qs ≡ ran Finished rs = sym (run_document test f ts qs a) ∙ run_document test f ts rs b in
    cc

-- a run over more tokens goes on where the first ended
abbrev pub with_quads : List Quad → Run → Run
with_quads qs (ran m rs) = ran m (qs ++ rs)
with_quads qs (refused r) = refused r

-- a run, and one that goes on where it ended
abbrev pub then : Run → (Mode → Run) → Run
then (ran m qs) more = with_quads qs (more m)
then (refused r) more = refused r

-- no quads before a run change nothing
with_none : (r : Run) → with_quads [] r ≡ r
with_none (ran m qs) = refl
with_none (refused r) = refl

-- quads before a run, one after the other
both : (q : Quad) (qs : List Quad) (r : Run) → with_quad q (with_quads qs r) ≡ with_quads (q ∷ qs) r
both q qs (ran k rs) = refl
both q qs (refused x) = refl

-- a run over two lists is one over the first and then the second
pub run_append : (test : List ℕ → Bool) (f : LineForm) (ts us : List Token) (m : Mode) → run test f m (ts ++ us) ≡ then (run test f m ts) (λ n. run test f n us)
run_append test f [] us m = sym (with_none (run test f m us))
run_append test f (t ∷ ts) us m = at (λ n. run_append test f ts us n) (accept test f m t.kind (leaf_of t))
  where
    quad_in : (q : Quad) (r : Run) → with_quad q (then r (λ n. run test f n us)) ≡ then (with_quad q r) (λ n. run test f n us)
    quad_in q (refused x) = refl
    quad_in q (ran n qs) = both q qs (run test f n us)

    at : ((n : Mode) → run test f n (ts ++ us) ≡ then (run test f n ts) (λ k. run test f k us)) → (a : Answer) →
        go_on a (λ n. run test f n (ts ++ us)) ≡ then (go_on a (λ n. run test f n ts)) (λ n. run test f n us)
    at h (goes n) = h n
    at h (gives q n) = ap (with_quad q) (h n) ∙ quad_in q (run test f n ts)
    at h (refuses r) = refl

-- a run that succeeds does so over its first part
pub then_ran : (r : Run) (more : Mode → Run) (m : Mode) (qs : List Quad) → then r more ≡ ran m qs → (n : Mode) × (rs : List Quad) × (r ≡ ran n rs)
then_ran (ran n rs) more m qs e = (n, rs, refl)
then_ran (refused r) more m qs e = absurd (let z : refused r ≡ ran m qs = e in cc)

-- what a run gave out before begins what it gives out in all
added : (qs : List Quad) (r : Run) (m : Mode) (all : List Quad) → with_quads qs r ≡ ran m all → (rest : List Quad) × (all ≡ qs ++ rest)
added qs (ran n rs) m all e = (rs, cc)
added qs (refused r) m all e = absurd (let z : refused r ≡ ran m all = e in cc)

-- The quads that were given out begin those of each document that begins so.
pub given_begin : (test : List ℕ → Bool) (f : LineForm) (ts more : List Token) (m : Mode) (qs all : List Quad) →
    run test f Begin ts ≡ ran m qs → IsPlain test f (ts ++ more) all →
    (rest : List Quad) × (all ≡ qs ++ rest)
given_begin test f ts more m qs all e d =
    added qs (run test f m more) Finished all
    (sym (run_append test f ts more Begin ∙ ap (λ r. then r (λ n. run test f n more)) e) ∙ run_document test f (ts ++ more) all d)

-- one token more
pub run_one : (test : List ℕ → Bool) (f : LineForm) (ts : List Token) (t : Token) (m n : Mode) (qs : List Quad) → run test f m ts ≡ ran n qs →
    run test f m (ts ++ t ∷ []) ≡ with_quads qs (go_on (accept test f n t.kind (leaf_of t)) (λ k. ran k []))
run_one test f ts t m n qs e = run_append test f ts (t ∷ []) m ∙ ap (λ r. then r (λ k. run test f k (t ∷ []))) e

-- Which kinds of tokens can come next in a line format: those that the machine accepts where every IRI passes.
use Rattle.rdf_lines.proofs.Prelude.{◌≡◌, ◌≢◌, ◌↔◌, ℕ, Bool, true, false, List, [], ◌∷◌, ◌++◌, refl, sym, ap, ◌∙◌, subst, Kind, LangTag, Carets, Quad, Subject, Literal, Typed, xsd_string, Token, Viable, Leaf, leaf_of, KnowsNext, LineForm, any_iri, trees, Mode, Begin, AfterString, Answer, object_then, goes, gives, refuses, accept, ran, go_on, run, is_accepted, LineAt, line_words}
use Rattle.rdf_lines.proofs.Runs.{run_one, with_quads}
use Rattle.rdf_lines.proofs.Viable.{viable_ran, not_viable}
use Rattle.rdf_lines.proofs.Refusals.{in_trees}

-- after tokens that begin a tree, those with one more begin one exactly if the machine accepts it there
one_more : (f : LineForm) (ts : List Token) (t : Token) (m : Mode) (qs : List Quad) → run any_iri f Begin ts ≡ ran m qs →
    (is_accepted (accept any_iri f m t.kind (leaf_of t)) ≡ true) ↔ Viable (trees f) (ts ++ t ∷ [])
one_more f ts t m qs e = by (accept any_iri f m t.kind (leaf_of t)) refl
  where
    next : (a : Answer) → accept any_iri f m t.kind (leaf_of t) ≡ a → run any_iri f Begin (ts ++ t ∷ []) ≡ with_quads qs (go_on a (λ n. ran n []))
    next a h = run_one any_iri f ts t Begin m qs e ∙ ap (λ y. with_quads qs (go_on y (λ n. ran n []))) h

    by : (a : Answer) → accept any_iri f m t.kind (leaf_of t) ≡ a → (is_accepted a ≡ true) ↔ Viable (trees f) (ts ++ t ∷ [])
    by (goes n) h = (λ y. viable_ran any_iri f refl (ts ++ t ∷ []) n (qs ++ []) (next (goes n) h), λ v. refl)
    by (gives q n) h = (λ y. viable_ran any_iri f refl (ts ++ t ∷ []) n (qs ++ q ∷ []) (next (gives q n) h), λ v. refl)
    by (refuses r) h = (λ y. absurd (let z : false ≡ true = y in cc), λ v. absurd (not_viable any_iri f ts t m qs r e h v))

-- So the reader's answer of a kind is right after whatever tokens it has accepted.
pub knows_next : (g : LineAt) (kind : Kind) (answer : Bool) → ((l : Leaf) → answer ≡ is_accepted (accept any_iri g.rules.form g.mode kind l)) →
    KnowsNext line_words (λ x. trees x.form) g kind answer
knows_next g kind answer is x ts qs r t k =
    let same : answer ≡ is_accepted (accept any_iri x.form g.mode t.kind (leaf_of t)) =
    is (leaf_of t) ∙ ap (λ y. is_accepted (accept any_iri y.form g.mode kind (leaf_of t))) r.0
    ∙ ap (λ y. is_accepted (accept any_iri x.form g.mode y (leaf_of t))) (sym k) in
    subst (λ b. (b ≡ true) ↔ Viable (trees x.form) (ts ++ t ∷ [])) (sym same) (one_more x.form ts t g.mode qs (in_trees x.iri x.form ts g.mode qs r.1))

-- after a string, what may follow is what may follow an object, but for a tag and `^^`
pub text_then : (f : LineForm) (s : Subject) (p w : List ℕ) (k : Kind) (l : Leaf) → k ≢ LangTag → k ≢ Carets →
    accept any_iri f (AfterString s p w) k l ≡ object_then any_iri f s p (Literal w (Typed xsd_string)) k l
text_then f s p w LangTag l tag carets = absurd (tag refl)
text_then f s p w Carets l tag carets = absurd (carets refl)
text_then f s p w k l tag carets = refl

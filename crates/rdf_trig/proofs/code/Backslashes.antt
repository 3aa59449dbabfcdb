-- A local part without backslashes is its own value.
use Rattle.rdf_trig.proofs.Prelude.{◌≡◌, ℕ, true, false, ◌==◌, List, [], ◌∷◌, Option, Some, None, option_map, refl, sym, ap, ◌∙◌, subst, ⊎_elim, is_some, chars, IsUtf8, and_parts, cases_Bool, cond-true, cond-false, not-true, false≢true, iri_char, all_have, is_unescaped, without_backslashes, local_value, iri_value, value, of_string, of_iri, move, allowed, outside, slash, leads, means, fails, local-means}
use Rattle.rdf_terms.specs.Classes.{has}
use Rattle.rdf_terms.specs.Values.{go}
use Rattle.rdf_terms.proofs.ValuesLemmas.{iri_value_characters}
use Rattle.rdf_terms.proofs.EscapesLemmas.{run_stands}

-- a text without backslashes is what it is without them
without : (w : List ℕ) → all_have is_unescaped w ≡ true → without_backslashes w ≡ w
without [] h = refl
without (c ∷ w) h =
    let p = and_parts (is_unescaped c) (all_have is_unescaped w) h in
    cond-false (c == 92) (without_backslashes w) (c ∷ without_backslashes w) (not-true (c == 92) p.0) ∙ ap (λ (x : List ℕ). c ∷ x) (without w p.1)

-- so an IRIREF without backslashes that means something means itself
iri_plain_value : (w v : List ℕ) → all_have is_unescaped w ≡ true → iri_value w ≡ Some v → v ≡ w
iri_plain_value [] v h e = cc
iri_plain_value (c ∷ w) v h e =
    let p = and_parts (is_unescaped c) (all_have is_unescaped w) h in
    let m : move of_iri outside c ≡ allowed of_iri c = cond-false (c == 92) (leads slash) (allowed of_iri c) (not-true (c == 92) p.0) in
    let k : go (allowed of_iri c) (λ t. value of_iri t w) ≡ Some v = ap (λ x. go x (λ t. value of_iri t w)) (sym m) ∙ e in
    ⊎_elim
    (λ t. by_rest (iri_value w) (λ u r. iri_plain_value w u p.1 r) refl
    (ap (λ x. go x (λ t. value of_iri t w)) (sym (cond-true (has iri_char c) (means c) fails t)) ∙ k))
    (λ f. absurd (let n : None ≡ Some v = ap (λ x. go x (λ t. value of_iri t w)) (sym (cond-false (has iri_char c) (means c) fails f)) ∙ k in cc))
    (cases_Bool (has iri_char c))
  where
    by_rest : (o : Option (List ℕ)) → ((u : List ℕ) → iri_value w ≡ Some u → u ≡ w) → iri_value w ≡ o →
        option_map (λ u. c ∷ u) (iri_value w) ≡ Some v → v ≡ c ∷ w
    by_rest None f e k = absurd (let n : None ≡ Some v = ap (option_map (λ u. c ∷ u)) (sym e) ∙ k in cc)
    by_rest (Some u) f e k =
        let n : Some (c ∷ u) ≡ Some v = ap (option_map (λ u. c ∷ u)) (sym e) ∙ k in
        let i : c ∷ u ≡ v = cc in
        sym i ∙ ap (λ x. c ∷ x) (f u e)

-- what is there
some_is : (o : Option (List ℕ)) → is_some o ≡ true → (v : List ℕ) × (o ≡ Some v)
some_is None h = absurd (false≢true h)
some_is (Some v) h = (v, refl)

-- so a local part that means something is what it means, and has IRI characters alone
pub local_plain : (bs : List ℕ) → IsUtf8 bs → all_have is_unescaped bs ≡ true → is_some (local_value (chars bs)) ≡ true →
    (local_value (chars bs) ≡ Some (chars bs)) × (all_have (has iri_char) (chars bs) ≡ true)
local_plain bs u h m =
    let v = some_is (local_value (chars bs)) m in
    let k = local-means false (chars bs) v.0 v.1 in
    let e : v.0 ≡ chars bs = k.0 ∙ without (chars bs) (run_stands of_string bs u h) in
    (v.1 ∙ ap Some e, subst (λ x. all_have (has iri_char) x ≡ true) e k.1)

-- so has the inside of an IRIREF
pub iri_plain : (bs : List ℕ) → IsUtf8 bs → all_have is_unescaped bs ≡ true → is_some (iri_value (chars bs)) ≡ true →
    (iri_value (chars bs) ≡ Some (chars bs)) × (all_have (has iri_char) (chars bs) ≡ true)
iri_plain bs u h m =
    let v = some_is (iri_value (chars bs)) m in
    let e : v.0 ≡ chars bs = iri_plain_value (chars bs) v.0 (run_stands of_string bs u h) v.1 in
    (v.1 ∙ ap Some e, subst (λ x. all_have (has iri_char) x ≡ true) e (iri_value_characters (chars bs) v.0 v.1))

-- A run of ASCII letters, digits, `_` and `-` is a label, if it is not empty and does not begin with `-`.
use Rattle.rdf_lines.proofs.Prelude.{◌≡◌, ◌≢◌, IsUtf8, chars, ℕ, zero, suc, ◌<◌, Bool, true, false, not, ◌||◌, ◌==◌, List, [], ◌∷◌, ◌++◌, length, take, drop, get_or, refl, sym, ap, ◌∙◌, subst, arith, IsAscii, agree_below, agree_below_at, and_parts, and_from, cond-true, ne_eqb, nat_tests, take-append-drop, length-take-le, get_or-take, chars-IsAscii, Lines, pn_char, is_name_byte, IsRun, all_have, IsLabel, NameStands}
use Rattle.rdf_terms.specs.Classes.{has}
use Rattle.rdf_terms.specs.Names.{begins_label, name_goes_on}
use Rattle.rdf_terms.proofs.NamesLemmas.{name_goes_on-IsLabel}
use Rattle.rdf_tokens.proofs.NoNamesLemmas.{implied}
use Rattle.rdf_lines.proofs.FrontsLemmas.{run_taken, name_stands}

-- each of these is ASCII
low : (b : ℕ) → is_name_byte b ≡ true → b < 128
low b e = grind (arith, nat_tests)

-- what is tried of each byte of ASCII holds of them
each : (q : ℕ → Bool) → agree_below (λ b. not (is_name_byte b) || q b) (λ b. true) 128 ≡ true → (b : ℕ) → is_name_byte b ≡ true → q b ≡ true
each q all b e = implied (is_name_byte b) (q b) (agree_below_at (λ b. not (is_name_byte b) || q b) (λ b. true) 128 b all (low b e)) e

-- names go on with them
goes_on : (b : ℕ) → is_name_byte b ≡ true → has (pn_char Lines) b ≡ true
unfolding has
goes_on = each (has (pn_char Lines)) refl

-- labels begin with each but the hyphen
begins : (b : ℕ) → is_name_byte b ≡ true → (b == 45) ≡ false → begins_label b ≡ true
unfolding has
begins b e h = ap (λ t. t || begins_label b) (sym h) ∙ each (λ b. b == 45 || begins_label b) refl b e

-- so a name goes on with all of them
all_go_on : (w : List ℕ) → all_have is_name_byte w ≡ true → name_goes_on Lines true w ≡ true
all_go_on [] h = refl
all_go_on (b ∷ w) h = let p = and_parts (is_name_byte b) (all_have is_name_byte w) h in cond-true _ _ _ (goes_on b p.0) ∙ all_go_on w p.1

-- all of them are ASCII
ascii : (w : List ℕ) → all_have is_name_byte w ≡ true → IsAscii w
ascii [] h i = omega arith
ascii (b ∷ w) h zero = low b (and_parts (is_name_byte b) (all_have is_name_byte w) h).0
ascii (b ∷ w) h (suc i) = ascii w (and_parts (is_name_byte b) (all_have is_name_byte w) h).1 i

-- and a label
plain : (w : List ℕ) → all_have is_name_byte w ≡ true → 0 < length w → (get_or w 0 0 == 45) ≡ false → IsLabel w
plain [] h some first = absurd (omega arith)
plain (b ∷ w) h some first =
    let p = and_parts (is_name_byte b) (all_have is_name_byte w) h in
    (name_goes_on-IsLabel true b w (sym (and_from _ _ (begins b p.0 first) (all_go_on w p.1)))).0 refl

-- a run of them stands at the front
pub plain_stands : (bs part rest : List ℕ) (end : ℕ) → IsUtf8 part → part ≡ take end bs → rest ≡ drop end bs → IsRun is_name_byte bs 0 end → 0 < end →
    get_or bs 0 0 ≢ 45 → NameStands IsLabel (chars part) bs rest
plain_stands bs part rest end u e left run some first =
    let w = take end bs in
    let h = run_taken is_name_byte bs end run in
    let is = plain w h (omega (arith, length-take-le end bs run.within)) (ap (λ b. b == 45) (get_or-take end bs 0 0 some) ∙ ne_eqb _ 45 first) in
    name_stands IsLabel part bs rest u (subst IsLabel (sym (ap chars e ∙ chars-IsAscii w (ascii w h))) is)
    (sym (take-append-drop end bs) ∙ (ap (λ x. w ++ x) (sym left) ∙ ap (λ x. x ++ rest) (sym e)))

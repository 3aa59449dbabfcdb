-- The value of a text in which every character stands for itself, and of a token's inside.
use Rattle.rdf_terms.proofs.Prelude.{◌≡◌, ℕ, zero, suc, ◌+◌, ◌*◌, true, List, [], ◌∷◌, ◌==◌, Option, Some, None, option_map, refl, subst, and_from, cond_both, false≢true, Kind, IriRef, ShortString, LongString, has, iri_char, hex_digit, all_have, of_iri, EscapeState, outside, slash, digits, Move, leads, means, fails, allowed, digit_move, hex_value, move, go, value, iri_value, is_fit}
use Rattle.rdf_terms.specs.Classes.{scalar}

-- no character of an IRI is a backslash
pub backslash_excluded : (c : ℕ) → has iri_char c ≡ true → (c ≡ 92 → ⊥)
unfolding has
backslash_excluded c h e = false≢true (subst (λ x. has iri_char x ≡ true) e h)

-- a kind without escapes
pub is_fit_other : (k : Kind) (w : List ℕ) → (k ≡ IriRef → ⊥) → (k ≡ ShortString → ⊥) → (k ≡ LongString → ⊥) → is_fit k w ≡ true
unfolding is_fit
is_fit_other IriRef w i s l = absurd (i refl)
is_fit_other ShortString w i s l = absurd (s refl)
is_fit_other LongString w i s l = absurd (l refl)
is_fit_other _ w i s l = refl

-- what a move in an IRI completes is one of its characters
abbrev IsIriMove : Move → Type 0
IsIriMove (leads s) = Unit
IsIriMove (means c) = has iri_char c ≡ true
IsIriMove fails = Unit

-- a character that is allowed in an IRI is one of IRIREF
IsIriMove-allowed : (c : ℕ) → IsIriMove (allowed of_iri c)
IsIriMove-allowed c = cond_both (has iri_char c) (means c) fails IsIriMove (λ h. h) (λ _. tt)

-- a character that digits stand for in an IRI is one of IRIREF
IsIriMove-digit : (k n : ℕ) → IsIriMove (digit_move of_iri k n)
IsIriMove-digit zero n = cond_both (scalar n) (allowed of_iri n) fails IsIriMove (λ _. IsIriMove-allowed n) (λ _. tt)
IsIriMove-digit (suc k) n = tt

-- each character that the walk over an IRIREF gives is one of IRIREF
IsIriMove-move : (s : EscapeState) (c : ℕ) → IsIriMove (move of_iri s c)
IsIriMove-move outside c = cond_both (c == 92) (leads slash) (allowed of_iri c) IsIriMove (λ _. tt) (λ _. IsIriMove-allowed c)
IsIriMove-move slash c =
    cond_both (c == 117) (leads (digits 4 0)) _ IsIriMove (λ _. tt)
    (λ _. cond_both (c == 85) (leads (digits 8 0)) fails IsIriMove (λ _. tt) (λ _. tt))
IsIriMove-move (digits zero n) c = tt
IsIriMove-move (digits (suc k) n) c =
    cond_both (has hex_digit c) _ fails IsIriMove (λ _. IsIriMove-digit k (16 * n + hex_value c)) (λ _. tt)

-- the value, if there is one, consists of characters of IRIREF
abbrev AllIri : Option (List ℕ) → Type 0
AllIri None = Unit
AllIri (Some w) = all_have (has iri_char) w ≡ true

-- a value of IRI characters has only such with one more in front
AllIri-cons : (c : ℕ) (o : Option (List ℕ)) → has iri_char c ≡ true → AllIri o → AllIri (option_map (λ w. c ∷ w) o)
AllIri-cons c None k h = tt
AllIri-cons c (Some w) k h = and_from (has iri_char c) (all_have (has iri_char) w) k h

-- after a move that gives IRI characters the value has only such
AllIri-go : (m : Move) (rest : EscapeState → Option (List ℕ)) → IsIriMove m → ((t : EscapeState) → AllIri (rest t)) → AllIri (go m rest)
AllIri-go (leads s) rest k h = h s
AllIri-go (means c) rest k h = AllIri-cons c (rest outside) k (h outside)
AllIri-go fails rest k h = tt

-- the value of each IRIREF has only IRI characters
AllIri-value : (s : EscapeState) (w : List ℕ) → AllIri (value of_iri s w)
AllIri-value outside [] = refl
AllIri-value slash [] = tt
AllIri-value (digits k n) [] = tt
AllIri-value outside (c ∷ w) = AllIri-go (move of_iri outside c) (λ t. value of_iri t w) (IsIriMove-move outside c) (λ t. AllIri-value t w)
AllIri-value slash (c ∷ w) = AllIri-go (move of_iri slash c) (λ t. value of_iri t w) (IsIriMove-move slash c) (λ t. AllIri-value t w)
AllIri-value (digits k n) (c ∷ w) = AllIri-go (move of_iri (digits k n) c) (λ t. value of_iri t w) (IsIriMove-move (digits k n) c) (λ t. AllIri-value t w)

-- the value of an IRI has IRI characters alone
pub iri_value_characters : (w v : List ℕ) → iri_value w ≡ Some v → all_have (has iri_char) v ≡ true
iri_value_characters w v e = subst AllIri e (AllIri-value outside w)

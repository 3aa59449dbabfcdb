-- Texts, and the state after a text.
use Rattle.std.specs.Prelude.{ℕ, true, List, [], ◌∷◌, ◌≡◌}
use Rattle.std.specs.List.{AllByRecursion}
use Rattle.rdf_terms.specs.Classes.{scalar}

-- a text of characters
abbrev pub IsChars : List ℕ → Type 0
IsChars w = AllByRecursion (λ c. scalar c ≡ true) w

-- the state after a text, read character by character from a state
abbrev pub run : {S : Type 0} → (S → ℕ → S) → S → List ℕ → S
run step s [] = s
run step s (c ∷ w) = run step (step s c) w

-- What a sink has been given, a quad or another item at a time, by the relation that it says of one put.
use Rattle.std.specs.Prelude.{◌≡◌, ◌⊎◌, List, [], ◌∷◌}

-- Puts of these items, one after the other, lead from one sink to the other.
abbrev pub Appends : {S I : Type 0} → (S → I → S → Type 0) → S → List I → S → Type 0
Appends takes before [] after = after ≡ before
Appends {S} takes before (i ∷ is) after = (next : S) × takes before i next × Appends takes next is after

-- The same where the put of the last may have been refused.
abbrev pub Attempts : {S I : Type 0} → (S → I → S → Type 0) → (S → I → S → Type 0) → S → List I → S → Type 0
Attempts takes leaves before [] after = after ≡ before
Attempts {S} takes leaves before (i ∷ is) after = ((is ≡ []) × leaves before i after) ⊎ ((next : S) × takes before i next × Attempts takes leaves next is after)

-- Regular expressions over classes of characters, and the texts that they match.
use Rattle.std.specs.Prelude.{◌≡◌, ℕ, true, List, [], ◌∷◌, ◌++◌, ◌⊎◌}
use Rattle.std.specs.List.{concat, AllByRecursion}
use Rattle.rdf_terms.specs.Classes.{Class, has}

infixr 24 ◌·◌
infixr 22 ◌∣◌
-- the operators of the grammars' notation: no text, the empty text, one character of a class, sequence, choice and repetition
pub data Regex : Type 0 where
  nothing : Regex
  empty : Regex
  one : Class → Regex
  ◌·◌ : Regex → Regex → Regex
  ◌∣◌ : Regex → Regex → Regex
  many : Regex → Regex

-- the texts of an expression
abbrev pub Matches : Regex → List ℕ → Type 0
Matches nothing w = ⊥
Matches empty w = w ≡ []
Matches (one k) w = (c : ℕ) × (has k c ≡ true) × (w ≡ c ∷ [])
Matches (r · s) w = (u v : List ℕ) × Matches r u × Matches s v × (w ≡ u ++ v)
Matches (r ∣ s) w = Matches r w ⊎ Matches s w
Matches (many r) w = (parts : List (List ℕ)) × AllByRecursion (Matches r) parts × (w ≡ concat parts)

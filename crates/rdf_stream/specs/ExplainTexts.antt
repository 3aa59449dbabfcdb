-- The texts that the code makes of words.
use Rattle.std.specs.Prelude.{map, option_map, ℕ, List, Option}
use Rattle.std.specs.Borrow.{Bor}

-- the texts of words of the code
abbrev pub texts_of : List (Option (Bor (List ℕ))) → List (Option (List ℕ))
texts_of words = map (option_map (λ s. s.now)) words

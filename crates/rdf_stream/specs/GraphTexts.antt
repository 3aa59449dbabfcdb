-- A graph, or none, as one text.
use Rattle.std.specs.Prelude.{ℕ, List, [], ◌∷◌, Option, Some, None}
use Rattle.std.specs.Str.{chars}

-- the empty text is no graph, and no IRI is empty
abbrev pub graph_in : List ℕ → Option (List ℕ)
graph_in [] = None
graph_in (b ∷ bytes) = Some (chars (b ∷ bytes))

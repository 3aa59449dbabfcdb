-- How the code reads a local part.
use Rattle.std.specs.Prelude.{ℕ, Bool, cond, List, [], ◌∷◌, ◌==◌, ◌&&◌, ◌||◌, not}
use Rattle.rdf_terms.specs.Classes.{has}
use Rattle.rdf_terms.specs.Classes.Class.{iri_char, local_escape}

-- the character may stand after a backslash, or elsewhere
abbrev pub local_stands : Bool → ℕ → Bool
local_stands escaped c = cond escaped (has local_escape c) (c == 92 || has iri_char c)

-- the character is the backslash of an escape
abbrev pub local_opens : Bool → ℕ → Bool
local_opens escaped c = not escaped && c == 92

-- what a local part means if each backslash in it begins a PN_LOCAL_ESC: the text with these left out
abbrev pub without_backslashes : List ℕ → List ℕ
without_backslashes [] = []
without_backslashes (c ∷ w) = cond (c == 92) (without_backslashes w) (c ∷ without_backslashes w)

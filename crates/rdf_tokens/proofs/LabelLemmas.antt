-- The states of labels against their shape.
use Rattle.rdf_tokens.proofs.Prelude.{◌≡◌, ℕ, true, cond, List, [], ◌∷◌, refl, inl, Some, None, map, LabelNode, Dialect, Lines, Turtle, Class, has, the, digit, pn_u, pn_char, Regex, nothing, empty, one, ◌·◌, ◌∣◌, many, shape, dot}
use Rattle.rdf_tokens.specs.declared.states.label.Sort.{Sort}
use Rattle.rdf_tokens.specs.declared.states.label.Sort.TheVariants as sort
use Rattle.rdf_tokens.specs.declared.states.label.Label.{Label}
use Rattle.rdf_tokens.specs.declared.states.label.Label.TheVariants.{Start, Underscore, Colon, Name, Dots, Dead}
use Rattle.rdf_tokens.specs.Label.{ascii, high, move, accepts, goes_on}
use Rattle.rdf_tokens.proofs.SortLemmas.{sorts_agree}
use Rattle.rdf_tokens.proofs.FamilyLemmas.{Family, Moves, covers_all, kind_in, longer_in}

-- a character of each sort, which stands for all of it
abbrev rep : Sort → ℕ
rep sort.Underscore = 95
rep sort.Colon = 58
rep sort.Dot = 46
rep sort.Digit = 48
rep sort.Letter = 97
rep sort.Mark = 45
rep sort.Other = 32

-- the classes of characters of which BLANK_NODE_LABEL is made
abbrev classes : Dialect → List Class
classes d = the 95 ∷ the 58 ∷ the 46 ∷ digit ∷ pn_u d ∷ pn_char d ∷ []

-- (PN_CHARS | '.')* PN_CHARS, what may follow the first character of a name
abbrev more : Dialect → Regex
more d = many (one (pn_char d) ∣ dot) · one (pn_char d)

-- what is left to match in a state
unfoldable pub meaning : Dialect → Label → List Regex
meaning d Start = shape d LabelNode ∷ []
meaning d Underscore = ((one (the 58) · empty) · (one (pn_u d) ∣ one digit) · (empty ∣ more d)) ∷ []
meaning d Colon = ((one (pn_u d) ∣ one digit) · (empty ∣ more d)) ∷ []
meaning d Name = (empty ∣ more d) ∷ []
meaning d Dots = more d ∷ []
meaning d Dead = nothing ∷ []

-- where a character of a sort leads is what is left to match after it, so the table of moves is right
pub moves : (d : Dialect) (s : Label) (x : Sort) → Moves rep (move d) (meaning d) s x
unfolding meaning has shape
moves Lines Start sort.Dot = inl refl
moves Lines Start x = inl refl
moves Lines Underscore sort.Dot = inl refl
moves Lines Underscore x = inl refl
moves Lines Colon sort.Dot = inl refl
moves Lines Colon x = inl refl
moves Lines Name sort.Dot = inl refl
moves Lines Name x = inl refl
moves Lines Dots sort.Dot = inl refl
moves Lines Dots x = inl refl
moves Turtle Start sort.Dot = inl refl
moves Turtle Start x = inl refl
moves Turtle Underscore sort.Dot = inl refl
moves Turtle Underscore x = inl refl
moves Turtle Colon sort.Dot = inl refl
moves Turtle Colon x = inl refl
moves Turtle Name sort.Dot = inl refl
moves Turtle Name x = inl refl
moves Turtle Dots sort.Dot = inl refl
moves Turtle Dots x = inl refl
moves d Dead x = inl refl

-- the expressions have no other classes than these
pub covered : (d : Dialect) (s : Label) → covers_all (classes d) (meaning d s) ≡ true
unfolding meaning shape
covered Lines Start = refl
covered Lines s = refl
covered Turtle Start = refl
covered Turtle s = refl

-- characters of one sort are in the same classes, by a test of each ASCII character and each width
pub sorts : (d : Dialect) → sorts_agree ascii high rep (classes d) ≡ true
unfolding has
sorts Lines = refl
sorts Turtle = refl

-- a state has a kind exactly where nothing is left to match of the expression of that kind
pub kind_of_state : (d : Dialect) (s : Label) → kind_in (LabelNode ∷ []) (meaning d s) ≡ cond (accepts s) (Some LabelNode) None
unfolding meaning shape
kind_of_state d Start = refl
kind_of_state d s = refl

-- a state goes on exactly where something longer can match
pub live_state : (d : Dialect) (s : Label) → longer_in (meaning d s) ≡ goes_on s
unfolding meaning shape has
live_state Lines Start = refl
live_state Lines s = refl
live_state Turtle Start = refl
live_state Turtle s = refl

-- at the start all of the shape is left
pub starts : (d : Dialect) → meaning d Start ≡ map (shape d) (LabelNode ∷ [])
unfolding meaning
starts d = refl

-- all of this together, as the general lemmas on families take it
abbrev pub family : Dialect → Family Label Sort
family d = record {
  dialect = d;
  kinds = LabelNode ∷ [];
  ascii = ascii;
  high = high;
  rep = rep;
  start = Start;
  move = move d;
  kind_at = λ s. cond (accepts s) (Some LabelNode) None;
  goes_on = goes_on;
  meaning = meaning d;
  classes = classes d;
  sorts = sorts d;
  covered = covered d;
  moves = moves d;
  starts = starts d;
  kind_of_state = kind_of_state d;
  live_state = live_state d;
}

-- The states of language tags against their shape.
use Rattle.rdf_tokens.proofs.Prelude.{◌≡◌, ℕ, true, cond, List, [], ◌∷◌, refl, inl, Some, None, map, LangTag, Dialect, Class, has, the, letter, letter_or_digit, Regex, nothing, one, ◌·◌, many, shape, some}
use Rattle.rdf_tokens.specs.declared.states.tag.Sort.{Sort}
use Rattle.rdf_tokens.specs.declared.states.tag.Sort.TheVariants as sort
use Rattle.rdf_tokens.specs.declared.states.tag.Tag.{Tag}
use Rattle.rdf_tokens.specs.declared.states.tag.Tag.TheVariants.{Start, At, Letters, Hyphen, Part, Dead}
use Rattle.rdf_tokens.specs.Tag.{ascii, high, move, accepts, goes_on}
use Rattle.rdf_tokens.proofs.SortLemmas.{sorts_agree}
use Rattle.rdf_tokens.proofs.FamilyLemmas.{Family, Moves, covers_all, kind_in, longer_in}

-- a character of each sort, which stands for all of it
abbrev rep : Sort → ℕ
rep sort.At = 64
rep sort.Hyphen = 45
rep sort.Digit = 48
rep sort.Letter = 97
rep sort.Other = 32

-- the classes of characters of which LANGTAG is made
abbrev classes : List Class
classes = the 64 ∷ the 45 ∷ letter ∷ letter_or_digit ∷ []

-- ('-' [a-zA-Z0-9]+)*, the later parts of a tag
abbrev parts : Regex
parts = many (one (the 45) · some (one letter_or_digit))

-- what is left to match in a state
unfoldable pub meaning : Tag → List Regex
meaning Start = (one (the 64) · some (one letter) · parts) ∷ []
meaning At = (some (one letter) · parts) ∷ []
meaning Letters = (many (one letter) · parts) ∷ []
meaning Hyphen = (some (one letter_or_digit) · parts) ∷ []
meaning Part = (many (one letter_or_digit) · parts) ∷ []
meaning Dead = nothing ∷ []

-- where a character of a sort leads is what is left to match after it, so the table of moves is right
pub moves : (s : Tag) (x : Sort) → Moves rep move meaning s x
unfolding meaning has
moves Start sort.At = inl refl
moves Start x = inl refl
moves At sort.At = inl refl
moves At x = inl refl
moves Letters sort.At = inl refl
moves Letters x = inl refl
moves Hyphen sort.At = inl refl
moves Hyphen x = inl refl
moves Part sort.At = inl refl
moves Part x = inl refl
moves Dead x = inl refl

-- the expressions have no other classes than these
pub covered : (s : Tag) → covers_all classes (meaning s) ≡ true
unfolding meaning
covered Start = refl
covered s = refl

-- characters of one sort are in the same classes, by a test of each ASCII character and each width
pub sorts : sorts_agree ascii high rep classes ≡ true
unfolding has
sorts = refl

-- a state has a kind exactly where nothing is left to match of the expression of that kind
pub kind_of_state : (s : Tag) → kind_in (LangTag ∷ []) (meaning s) ≡ cond (accepts s) (Some LangTag) None
unfolding meaning
kind_of_state Start = refl
kind_of_state s = refl

-- a state goes on exactly where something longer can match
pub live_state : (s : Tag) → longer_in (meaning s) ≡ goes_on s
unfolding meaning has
live_state Start = refl
live_state s = refl

-- at the start all of the shape is left
pub starts : (d : Dialect) → meaning Start ≡ map (shape d) (LangTag ∷ [])
unfolding meaning shape
starts d = refl

-- all of this together, as the general lemmas on families take it
abbrev pub family : Dialect → Family Tag Sort
family d = record {
  dialect = d;
  kinds = LangTag ∷ [];
  ascii = ascii;
  high = high;
  rep = rep;
  start = Start;
  move = move;
  kind_at = λ s. cond (accepts s) (Some LangTag) None;
  goes_on = goes_on;
  meaning = meaning;
  classes = classes;
  sorts = sorts;
  covered = covered;
  moves = moves;
  starts = starts d;
  kind_of_state = kind_of_state;
  live_state = live_state;
}

-- The states of references against their shape.
use Rattle.rdf_tokens.proofs.Prelude.{◌≡◌, ℕ, zero, suc, true, cond, List, [], ◌∷◌, refl, inl, Some, None, map, IriRef, Dialect, Class, has, the, hex_digit, iri_char, Regex, nothing, empty, one, ◌·◌, ◌∣◌, many, shape, uchar}
use Rattle.rdf_tokens.specs.declared.states.iri.Sort.{Sort}
use Rattle.rdf_tokens.specs.declared.states.iri.Sort.TheVariants.{OpenAngle, CloseAngle, Backslash, SmallU, BigU, HexDigit, Plain, Excluded}
use Rattle.rdf_tokens.specs.declared.states.iri.Iri.{Iri}
use Rattle.rdf_tokens.specs.declared.states.iri.Iri.TheVariants.{Start, Inside, Escape, Hex, Whole, Dead}
use Rattle.rdf_tokens.specs.Iri.{ascii, high, move, accepts, goes_on}
use Rattle.rdf_tokens.proofs.SortLemmas.{sorts_agree}
use Rattle.rdf_tokens.proofs.FamilyLemmas.{Family, Moves, hexes, possible-hexes, covers_all, kind_in, longer_in}

-- a character of each sort
abbrev rep : Sort → ℕ
rep OpenAngle = 60
rep CloseAngle = 62
rep Backslash = 92
rep SmallU = 117
rep BigU = 85
rep HexDigit = 48
rep Plain = 103
rep Excluded = 32

-- the classes of characters of which IRIREF is made
abbrev classes : List Class
classes = the 60 ∷ the 62 ∷ the 92 ∷ the 117 ∷ the 85 ∷ hex_digit ∷ iri_char ∷ []

-- what is left to match in a state
abbrev rest : Iri → Regex
rest Start = one (the 60) · many (one iri_char ∣ uchar) · one (the 62)
rest Inside = many (one iri_char ∣ uchar) · one (the 62)
rest Escape = (((one (the 117) · empty) · hexes 3 ∣ (one (the 85) · empty) · hexes 7) · many (one iri_char ∣ uchar)) · one (the 62)
rest (Hex n) = (hexes n · many (one iri_char ∣ uchar)) · one (the 62)
rest Whole = empty
rest Dead = nothing

-- the same as a list, as families with several kinds have it
unfoldable pub meaning : Iri → List Regex
meaning s = rest s ∷ []

-- where a character of a sort leads is what is left to match after it, so the table of moves is right
pub moves : (s : Iri) (x : Sort) → Moves rep move meaning s x
unfolding meaning has
moves Start OpenAngle = inl refl
moves Start x = inl refl
moves Inside OpenAngle = inl refl
moves Inside x = inl refl
moves Escape OpenAngle = inl refl
moves Escape x = inl refl
moves (Hex zero) OpenAngle = inl refl
moves (Hex zero) x = inl refl
moves (Hex (suc zero)) OpenAngle = inl refl
moves (Hex (suc zero)) x = inl refl
moves (Hex (suc (suc n))) OpenAngle = inl refl
moves (Hex (suc (suc n))) x = inl refl
moves Whole OpenAngle = inl refl
moves Whole x = inl refl
moves Dead OpenAngle = inl refl
moves Dead x = inl refl

-- the expressions have no other classes than these
pub covered : (s : Iri) → covers_all classes (meaning s) ≡ true
unfolding meaning
covered (Hex zero) = refl
covered (Hex (suc n)) = covered (Hex n)
covered Start = refl
covered s = refl

-- characters of one sort are in the same classes, by a test of each ASCII character and each width
pub sorts : sorts_agree ascii high rep classes ≡ true
unfolding has
sorts = refl

-- a state has a kind exactly where nothing is left to match of the expression of that kind
pub kind_of_state : (s : Iri) → kind_in (IriRef ∷ []) (meaning s) ≡ cond (accepts s) (Some IriRef) None
unfolding meaning
kind_of_state (Hex zero) = refl
kind_of_state (Hex (suc n)) = refl
kind_of_state Start = refl
kind_of_state s = refl

-- a state goes on exactly where something longer can match
pub live_state : (s : Iri) → longer_in (meaning s) ≡ goes_on s
unfolding meaning has
live_state (Hex zero) = refl
live_state (Hex (suc n)) = rw (possible-hexes n) refl
live_state Start = refl
live_state s = refl

-- at the start all of the shape is left
pub starts : (d : Dialect) → meaning Start ≡ map (shape d) (IriRef ∷ [])
unfolding meaning shape
starts d = refl

-- all of this together, as the general lemmas on families take it
abbrev pub family : Dialect → Family Iri Sort
family d = record {
  dialect = d;
  kinds = IriRef ∷ [];
  ascii = ascii;
  high = high;
  rep = rep;
  start = Start;
  move = move;
  kind_at = λ s. cond (accepts s) (Some IriRef) None;
  goes_on = goes_on;
  meaning = meaning;
  classes = classes;
  sorts = sorts;
  covered = covered;
  moves = moves;
  starts = starts d;
  kind_of_state = kind_of_state;
  live_state = live_state;
}

-- The states of prefixed names against their shapes.
use Rattle.rdf_tokens.proofs.Prelude.{◌≡◌, ℕ, zero, suc, true, List, [], ◌∷◌, refl, inl, inr, map, Kind, PnameNs, PnameLn, Dialect, Lines, Turtle, Class, has, the, digit, hex_digit, local_escape, pn_base, pn_u, pn_char, Regex, nothing, empty, one, ◌·◌, ◌∣◌, many, shape, dot, plx, pn_local}
use Rattle.rdf_tokens.specs.declared.states.name.Sort.{Sort}
use Rattle.rdf_tokens.specs.declared.states.name.Sort.TheVariants as sort
use Rattle.rdf_tokens.specs.declared.states.name.Name.{Name}
use Rattle.rdf_tokens.specs.declared.states.name.Name.TheVariants.{Start, Prefix, PrefixDots, Colon, Local, LocalDots, Escape, Hex, Dead}
use Rattle.rdf_tokens.specs.Name.{ascii, high, move, kind_at, goes_on}
use Rattle.rdf_tokens.proofs.SortLemmas.{sorts_agree}
use Rattle.rdf_tokens.proofs.FamilyLemmas.{Family, Moves, factored, same, hexes, possible-hexes, covers_all, kind_in, longer_in}

-- a character of each sort, which stands for all of it
abbrev rep : Sort → ℕ
rep sort.Colon = 58
rep sort.Dot = 46
rep sort.Digit = 48
rep sort.HexLetter = 97
rep sort.Letter = 103
rep sort.Underscore = 95
rep sort.Hyphen = 45
rep sort.Mark = 0xB7
rep sort.Percent = 37
rep sort.Backslash = 92
rep sort.Escapable = 33
rep sort.Other = 32

-- the classes of characters of which PNAME_NS and PNAME_LN are made
abbrev classes : List Class
classes = the 58 ∷ the 46 ∷ the 37 ∷ the 92 ∷ digit ∷ hex_digit ∷ local_escape ∷ pn_base ∷ pn_u Turtle ∷ pn_char Turtle ∷ []

-- the kinds of prefixed names
abbrev pub names : List Kind
names = PnameNs ∷ PnameLn ∷ []

-- (PN_CHARS | '.')* PN_CHARS, the rest of a prefix
abbrev prefix_more : Regex
prefix_more = many (one (pn_char Turtle) ∣ dot) · one (pn_char Turtle)

-- (PN_CHARS | '.' | ':' | PLX)*, the inside of a local part
abbrev inner : Regex
inner = many (one (pn_char Turtle) ∣ dot ∣ one (the 58) ∣ plx)

-- PN_CHARS | ':' | PLX, what a local part may end in
abbrev last : Regex
last = one (pn_char Turtle) ∣ one (the 58) ∣ plx

-- what is left to match in a state, of a namespace and a name
unfoldable pub meaning : Dialect → Name → List Regex
meaning d Start = map (shape d) names
meaning d Prefix = ((empty ∣ prefix_more) · one (the 58)) ∷ ((empty ∣ prefix_more) · one (the 58) · pn_local) ∷ []
meaning d PrefixDots = (prefix_more · one (the 58)) ∷ (prefix_more · one (the 58) · pn_local) ∷ []
meaning d Colon = empty ∷ pn_local ∷ []
meaning d Local = nothing ∷ (empty ∣ inner · last) ∷ []
meaning d LocalDots = nothing ∷ (inner · last) ∷ []
meaning d Escape = nothing ∷ (one local_escape · (empty ∣ inner · last)) ∷ []
meaning d (Hex n) = nothing ∷ (hexes n · (empty ∣ inner · last)) ∷ []
meaning d Dead = nothing ∷ nothing ∷ []

-- where a character of a sort leads is what is left to match after it, so the table of moves is right
pub moves : (d : Dialect) (s : Name) (x : Sort) → Moves rep (move d) (meaning d) s x
unfolding meaning shape has
moves Lines Start sort.Dot = inl refl
moves Lines Start x = inl refl
moves Turtle Start sort.Dot = inl refl
moves Turtle Start x = inl refl
moves d Prefix sort.Dot = inl refl
moves d Prefix x = inl refl
moves d PrefixDots sort.Dot = inl refl
moves d PrefixDots x = inl refl
moves d Colon sort.Dot = inl refl
moves d Colon x = inl refl
moves d Local sort.Percent = inr (same nothing, (factored (hexes 1) inner last, tt))
moves d Local sort.Backslash = inr (same nothing, (factored (one local_escape) inner last, tt))
moves d Local x = inl refl
moves d LocalDots sort.Percent = inr (same nothing, (factored (hexes 1) inner last, tt))
moves d LocalDots sort.Backslash = inr (same nothing, (factored (one local_escape) inner last, tt))
moves d LocalDots x = inl refl
moves d Escape sort.Dot = inl refl
moves d Escape x = inl refl
moves d (Hex zero) sort.Dot = inl refl
moves d (Hex zero) x = inl refl
moves d (Hex (suc zero)) sort.Dot = inl refl
moves d (Hex (suc zero)) x = inl refl
moves d (Hex (suc (suc n))) sort.Dot = inl refl
moves d (Hex (suc (suc n))) x = inl refl
moves d Dead x = inl refl

-- the expressions have no other classes than these
pub covered : (d : Dialect) (s : Name) → covers_all classes (meaning d s) ≡ true
unfolding meaning shape
covered Lines Start = refl
covered Turtle Start = refl
covered d (Hex zero) = refl
covered d (Hex (suc n)) = covered d (Hex n)
covered d s = refl

-- characters of one sort are in the same classes, by a test of each ASCII character and each width
pub sorts : sorts_agree ascii high rep classes ≡ true
unfolding has
sorts = refl

-- a state has a kind exactly where nothing is left to match of the expression of that kind
pub kind_of_state : (d : Dialect) (s : Name) → kind_in names (meaning d s) ≡ kind_at s
unfolding meaning shape
kind_of_state Lines Start = refl
kind_of_state Turtle Start = refl
kind_of_state d (Hex zero) = refl
kind_of_state d (Hex (suc n)) = refl
kind_of_state d s = refl

-- a state goes on exactly where something longer can match
pub live_state : (d : Dialect) (s : Name) → longer_in (meaning d s) ≡ goes_on d s
unfolding meaning shape has
live_state Lines Start = refl
live_state Turtle Start = refl
live_state d (Hex zero) = refl
live_state d (Hex (suc n)) = rw (possible-hexes n) refl
live_state d s = refl

-- at the start all of the shape is left
pub starts : (d : Dialect) → meaning d Start ≡ map (shape d) names
unfolding meaning
starts d = refl

-- all of this together, as the general lemmas on families take it
abbrev pub family : Dialect → Family Name Sort
family d = record {
  dialect = d;
  kinds = names;
  ascii = ascii;
  high = high;
  rep = rep;
  start = Start;
  move = move d;
  kind_at = kind_at;
  goes_on = goes_on d;
  meaning = meaning d;
  classes = classes;
  sorts = sorts;
  covered = covered d;
  moves = moves d;
  starts = starts d;
  kind_of_state = kind_of_state d;
  live_state = live_state d;
}

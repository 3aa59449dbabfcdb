-- What a text means, piece by piece (Turtle 6.4): each character stands for itself, but an escape for the one that it spells.
use Prim.Native.Char.{code}
use Rattle.std.specs.Prelude.{◌≡◌, ◌≢◌, ℕ, ◌+◌, ◌-◌, ◌*◌, ◌^◌, true, cond, List, [], ◌∷◌, ◌++◌, ◌⊎◌, length, take, drop, ⊤}
use Rattle.rdf_terms.specs.Classes.{has, scalar, within}
use Rattle.rdf_terms.specs.Classes.Class.{hex_digit, iri_char, local_escape}
use Rattle.rdf_terms.specs.Terms.{all_have}
use Rattle.rdf_terms.specs.declared.kind.Kind.{Kind}
use Rattle.rdf_terms.specs.declared.kind.Kind.TheVariants.{IriRef, ShortString, LongString}

-- the two kinds of text that have escapes
pub data Inside : Type 0 where
  of_string : Inside
  of_iri : Inside

-- a text without n characters at both ends, as a token without its delimiters
abbrev pub inside : ℕ → List ℕ → List ℕ
inside n w = take (length w - 2 * n) (drop n w)

-- the character that begins each escape: ECHAR, UCHAR and PN_LOCAL_ESC
abbrev pub backslash : ℕ
backslash = code "\\"

-- a pair is in a table
abbrev pub IsRow : List (ℕ × ℕ) → ℕ → ℕ → Type 0
IsRow [] a b = ⊥
IsRow (row ∷ rows) a b = ((a ≡ row.0) × (b ≡ row.1)) ⊎ IsRow rows a b

-- ECHAR ::= '\' [tbnrf"'\]: the letter, and the character that it stands for: tab, backspace, line feed, carriage return, form feed,
-- and the other three themselves
abbrev pub letters : List (ℕ × ℕ)
letters = (code "t", code "\t") ∷ (code "b", 0x08) ∷ (code "n", code "\n") ∷ (code "r", code "\r") ∷ (code "f", 0x0C)
    ∷ (code "\"", code "\"") ∷ (code "'", code "'") ∷ (code "\\", code "\\") ∷ []

-- what a hex digit counts: '0' to '9', 'A' to 'F', 'a' to 'f'
abbrev pub hex_value : ℕ → ℕ
hex_value c = cond (within (code "0") (code "9") c) (c - 48) (cond (within (code "A") (code "F") c) (c - 55) (c - 87))

-- the number that hex digits write
abbrev pub hex_number : List ℕ → ℕ
hex_number [] = 0
hex_number (c ∷ w) = hex_value c * 16 ^ length w + hex_number w

-- an IRI means IRI characters alone, and a string any characters
abbrev pub MayMean : Inside → ℕ → Type 0
MayMean of_string c = ⊤
MayMean of_iri c = has iri_char c ≡ true

-- a character that is no backslash stands for itself
abbrev pub IsPlain : Inside → List ℕ → ℕ → Type 0
IsPlain i piece c = (piece ≡ c ∷ []) × (c ≢ backslash) × MayMean i c

-- a backslash and a letter, in strings alone
abbrev pub IsLetterEscape : Inside → List ℕ → ℕ → Type 0
IsLetterEscape of_string piece c = (letter : ℕ) × (piece ≡ backslash ∷ letter ∷ []) × IsRow letters letter c
IsLetterEscape of_iri piece c = ⊥

-- UCHAR ::= '\u' HEX HEX HEX HEX | '\U' HEX HEX HEX HEX HEX HEX HEX HEX: the number is that of the character
abbrev pub IsNumberEscape : Inside → List ℕ → ℕ → Type 0
IsNumberEscape i piece c = (hexes : List ℕ)
    × (((piece ≡ backslash ∷ code "u" ∷ hexes) × (length hexes ≡ 4)) ⊎ ((piece ≡ backslash ∷ code "U" ∷ hexes) × (length hexes ≡ 8)))
    × (all_have (has hex_digit) hexes ≡ true) × (c ≡ hex_number hexes) × (scalar c ≡ true) × MayMean i c

-- a piece of the inside of a string or an IRI, and the character that it means
abbrev pub IsPiece : Inside → List ℕ → ℕ → Type 0
IsPiece i piece c = IsPlain i piece c ⊎ (IsLetterEscape i piece c ⊎ IsNumberEscape i piece c)

-- a piece of a local part: PN_LOCAL_ESC ::= '\' [_~.\-!$&'()*+,;=/?#@%] means the character after its backslash, and any other means itself
abbrev pub IsLocalPiece : List ℕ → ℕ → Type 0
IsLocalPiece piece c = ((piece ≡ c ∷ []) × (c ≢ backslash) × (has iri_char c ≡ true)) ⊎ ((piece ≡ backslash ∷ c ∷ []) × (has local_escape c ≡ true))

-- the text consists of pieces, and they mean these characters
abbrev pub Means : (List ℕ → ℕ → Type 0) → List ℕ → List ℕ → Type 0
Means piece w [] = w ≡ []
Means piece w (c ∷ v) = (first rest : List ℕ) × (w ≡ first ++ rest) × piece first c × Means piece rest v

-- the inside of an IRI or a string has a meaning; a text of another kind has no escapes
abbrev pub HasMeaning : Kind → List ℕ → Type 0
HasMeaning IriRef w = (v : List ℕ) × Means (IsPiece of_iri) (inside 1 w) v
HasMeaning ShortString w = (v : List ℕ) × Means (IsPiece of_string) (inside 1 w) v
HasMeaning LongString w = (v : List ℕ) × Means (IsPiece of_string) (inside 3 w) v
HasMeaning k w = ⊤

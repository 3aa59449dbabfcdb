-- The characters that a token's inside means, computed from left to right. That this is what its pieces mean is a law.
use Prim.Native.Char.{code}
use Rattle.std.specs.Prelude.{ℕ, zero, suc, ◌+◌, ◌*◌, Bool, true, false, cond, List, [], ◌∷◌, ◌==◌, Option, Some, None, is_some, option_map}
use Rattle.rdf_terms.specs.Classes.{has, scalar}
use Rattle.rdf_terms.specs.Classes.Class.{hex_digit, iri_char, local_escape}
pub use Rattle.rdf_terms.specs.Pieces.{Inside, of_string, of_iri, hex_value, inside}
use Rattle.rdf_terms.specs.declared.kind.Kind.{Kind}
use Rattle.rdf_terms.specs.declared.kind.Kind.TheVariants.{IriRef, ShortString, LongString}

-- where a character stands: outside an escape, after the backslash, or where so many hex digits are still to come, with the number so far
pub data EscapeState : Type 0 where
  outside : EscapeState
  slash : EscapeState
  digits : ℕ → ℕ → EscapeState

-- what a character does there: it leads on inside an escape, it completes the character that is meant, or it cannot stand there
pub data Move : Type 0 where
  leads : EscapeState → Move
  means : ℕ → Move
  fails : Move

-- ECHAR: t b n r f " ' \
abbrev pub letter_move : ℕ → Move
letter_move c = cond (c == code "t") (means (code "\t")) (cond (c == code "b") (means 0x08) (cond (c == code "n") (means (code "\n")) (cond (c == code "r") (means (code "\r"))
    (cond (c == code "f") (means 0x0C) (cond (c == code "\"") (means (code "\"")) (cond (c == code "'") (means (code "'")) (cond (c == code "\\") (means (code "\\")) fails)))))))

-- an IRI has IRI characters alone, written as they are or by UCHAR
abbrev pub allowed : Inside → ℕ → Move
allowed of_string c = means c
allowed of_iri c = cond (has iri_char c) (means c) fails

-- ECHAR stands in strings alone
abbrev pub echar_move : Inside → ℕ → Move
echar_move of_string c = letter_move c
echar_move of_iri c = fails

-- after a hex digit of a UCHAR: more digits are to come, or the number is that of the character meant, if it may stand there
abbrev pub digit_move : Inside → ℕ → ℕ → Move
digit_move i zero n = cond (scalar n) (allowed i n) fails
digit_move i (suc k) n = leads (digits (suc k) n)

-- what the next character does at this place inside a string or an IRI; a UCHAR has 4 digits after 'u' and 8 after 'U' (Turtle 6.4)
abbrev pub move : Inside → EscapeState → ℕ → Move
move i outside c = cond (c == code "\\") (leads slash) (allowed i c)
move i slash c = cond (c == code "u") (leads (digits 4 0)) (cond (c == code "U") (leads (digits 8 0)) (echar_move i c))
move i (digits zero n) c = fails
move i (digits (suc k) n) c = cond (has hex_digit c) (digit_move i k (16 * n + hex_value c)) fails

-- the value of a text whose first character makes this move, given the value of the rest from each place
abbrev pub go : Move → (EscapeState → Option (List ℕ)) → Option (List ℕ)
go (leads s) rest = rest s
go (means c) rest = option_map (λ w. c ∷ w) (rest outside)
go fails rest = None

-- the characters that the rest of a string or an IRI means from this place on, or none where an escape is bad or cut
abbrev pub value : Inside → EscapeState → List ℕ → Option (List ℕ)
value i outside [] = Some []
value i slash [] = None
value i (digits k n) [] = None
value i s (c ∷ w) = go (move i s c) (λ t. value i t w)

-- None where an escape is unknown, cut or not fit, or a character of an IRI is none
abbrev pub string_value : List ℕ → Option (List ℕ)
string_value w = value of_string outside w

-- the same for the inside of an IRIREF, where only UCHAR escapes, and each character meant is one that IRIREF allows
abbrev pub iri_value : List ℕ → Option (List ℕ)
iri_value w = value of_iri outside w

-- a local part, after a backslash or not: PN_LOCAL_ESC stands for its last character, and `%` stands for itself
abbrev pub local_from : Bool → List ℕ → Option (List ℕ)
local_from true [] = None
local_from false [] = Some []
local_from true (c ∷ w) = cond (has local_escape c) (option_map (λ v. c ∷ v) (local_from false w)) None
local_from false (c ∷ w) = cond (c == code "\\") (local_from true w) (cond (has iri_char c) (option_map (λ v. c ∷ v) (local_from false w)) None)

-- the characters that a local part means, or none where a backslash begins no PN_LOCAL_ESC or a character may not stand in an IRI
abbrev pub local_value : List ℕ → Option (List ℕ)
local_value w = local_from false w

-- a token's text has no bad escape; only IRIs and strings are tested, their delimiters left out
unfoldable pub is_fit : Kind → List ℕ → Bool
is_fit IriRef w = is_some (iri_value (inside 1 w))
is_fit ShortString w = is_some (string_value (inside 1 w))
is_fit LongString w = is_some (string_value (inside 3 w))
is_fit k w = true

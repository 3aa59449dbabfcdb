-- What is said of a text of the command line that is no IRI, with `--explain`.
use Rattle.std.specs.Prelude.{◌≡◌, ◌⊎◌, ◌/◌, ◌%◌, ℕ, Bool, true, List, [], ◌∷◌, ◌++◌, Option, Some, None, codes, cond, decimal, encode_utf8, encode_utf8_all, length, map, nat_lt}
use Rattle.std.specs.Char.{is_control}
use Rattle.std.specs.Fmt.{digit_glyph}
use Rattle.std.specs.Str.{chars}
use Rattle.clap.specs.Words.{App, Row, Text, first_of, subcommand_of}
use Rattle.rdf_terms.specs.Classes.{has}
use Rattle.rdf_terms.specs.Classes.Class.{iri_char}
use Rattle.rdf_iri.specs.Texts.{byte_len}
use Rattle.rdf_command.specs.declared.task.WordsFault.{WordsFault}
use Rattle.rdf_command.specs.declared.task.WordsFault.TheVariants.{BadBase, BadGraph}
use Rattle.rdf_command.specs.Statuses.{RefusesWords, Reports}
use Rattle.rdf_command.specs.Words.{Entered, base_by, is_given, number_of}

-- the longest front of a text all of whose characters may stand in an IRI
abbrev pub iri_front : List ℕ → List ℕ
iri_front [] = []
iri_front (c ∷ w) = cond (has iri_char c) (c ∷ iri_front w) []

-- the character that comes next, which can't stand in an IRI; none where all can
abbrev pub bad_char : List ℕ → Option ℕ
bad_char [] = None
bad_char (c ∷ w) = cond (has iri_char c) (bad_char w) (Some c)

-- the number of a character below U+0100, in capitals
abbrev pub number_text : ℕ → List ℕ
number_text c = codes "U+00" ++ (digit_glyph true (c / 16) ∷ digit_glyph true (c % 16) ∷ [])

-- a character in quotes
abbrev pub quoted_text : ℕ → List ℕ
quoted_text c = codes "\"" ++ encode_utf8 c ++ codes "\""

-- A character as it is told: a control character by its number. All of these that can't stand in an IRI are below U+0020.
abbrev pub char_text : ℕ → List ℕ
char_text c = cond (nat_lt c 32) (number_text c) (quoted_text c)

-- a character can't stand in an IRI, behind so many bytes
abbrev pub bad_char_text : ℕ → ℕ → List ℕ
bad_char_text c before = char_text c ++ codes " after " ++ decimal before ++ codes " bytes can't stand in an IRI"

-- there are more bytes than this limit
abbrev pub too_long_text : ℕ → List ℕ
too_long_text most = codes "IRI too long; the limit is " ++ decimal most

-- the first character that can't stand in an IRI, and how many bytes stand before it; where there is none, a scheme is missing
abbrev pub by_char : Option ℕ → ℕ → List ℕ
by_char None before = codes "it has no scheme"
by_char (Some c) before = bad_char_text c before

-- why a text that is no IRI of at most so many bytes is none
abbrev pub why_bad : ℕ → Text → List ℕ
why_bad most text = cond (nat_lt most (length text)) (too_long_text most) (by_char (bad_char (chars text)) (byte_len (iri_front (chars text))))

-- what is shown of a character: U+FFFD for a control character, so that a text is shown on one line
abbrev pub shown : ℕ → ℕ
shown c = cond (is_control c) 0xFFFD c

-- the line that says why: the text and the reason
abbrev pub bad_iri_text : ℕ → Text → List ℕ
bad_iri_text most text = encode_utf8_all (map shown (chars text)) ++ codes ": " ++ why_bad most text ++ codes "\n"

-- a line that reports a text that is no IRI, and the line that says why; none where there is no text or no limit
abbrev pub lines_of : List ℕ → Option Text → Option ℕ → Option (List ℕ)
lines_of line (Some text) (Some most) = Some (line ++ bad_iri_text most text)
lines_of line text most = None

-- these lines of a base or a graph among the matches of a subcommand; none of other faults
abbrev pub lines_about : List Row → WordsFault → Option (List ℕ)
lines_about rows BadBase = lines_of (codes "rdfconv: bad base\n") (base_by (first_of (codes "base") rows)) (number_of (codes "iri") rows)
lines_about rows BadGraph = lines_of (codes "rdfconv: bad graph\n") (first_of (codes "graph") rows) (number_of (codes "iri") rows)
lines_about rows fault = None

-- the same where the matches ask for an explanation, and else none
abbrev pub lines_by : List Row → WordsFault → Option (List ℕ)
lines_by rows fault = cond (is_given (first_of (codes "explain") rows)) (lines_about rows fault) None

-- the same of what words enter
abbrev pub lines_in : Option Entered → WordsFault → Option (List ℕ)
lines_in None fault = None
lines_in (Some p) fault = lines_by p.1 fault

-- the same of words, by clap's definition of the command line
abbrev pub lines_for : App → List Text → WordsFault → Option (List ℕ)
lines_for a words fault = lines_in (subcommand_of a words) fault

-- The status of words that are no task, and what is reported: these lines where there are any. They take memory, and where that is refused what is reported
-- without an explanation comes in their place.
abbrev pub RefusesWith : Option (List ℕ) → WordsFault → ℕ → Option (List ℕ) → Option (List ℕ) → Bool → Type 0
RefusesWith None fault status old new failed = RefusesWords fault status old new failed
RefusesWith (Some lines) fault status old new failed = ((status ≡ 2) × Reports lines old new failed) ⊎ RefusesWords fault status old new failed

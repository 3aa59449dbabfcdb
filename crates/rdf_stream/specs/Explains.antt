-- The lines that explain a refusal, the first in the form that editors read.
use Prim.Native.Char.{code}
use Rattle.std.specs.Prelude.{◌||◌, ◌&&◌, ◌==◌, not, ℕ, Bool, List, [], ◌∷◌, ◌++◌, codes, cond, decimal, drop, length, nat_le, nat_lt, take, Option, Some, None}
use Rattle.std.specs.List.{list_all}
use Rattle.rdf_iri.specs.Limits.{Sizes}
use Rattle.rdf_terms.specs.declared.reason.Reason.{Reason}
use Rattle.rdf_terms.specs.declared.reason.Reason.TheVariants.{NoToken, BadEscape as Bad, TokenTooLong, IriTooLong, TooDeep, TooManyBindings, Unbound, NoBase, RelativeIri, Unexpected}
use Rattle.rdf_terms.specs.declared.kind.Kind.{Kind}
use Rattle.rdf_terms.specs.declared.kind.Kind.TheVariants.{IriRef, LabelNode, ShortString, LongString, LangTag, Carets, Dot, LineEnd, Integer, Decimal, Double, True, False, A, AtPrefix}
use Rattle.rdf_terms.specs.declared.kind.Kind.TheVariants.{AtBase, Prefix, Base, Graph, PnameNs, PnameLn, Semicolon, Comma, OpenBracket, CloseBracket, OpenParen, CloseParen, OpenBrace, CloseBrace, End}
use Rattle.rdf_tokens.specs.declared.token.Fault.{Fault}
use Rattle.rdf_driver.specs.Kinds.{has}
use Rattle.rdf_stream.specs.declared.brackets.Opened.{Opened}
use Rattle.rdf_diagnostics.specs.declared.causes.Cause.{Cause}
use Rattle.rdf_stream.specs.declared.explains.Evidence.{Evidence}
use Rattle.rdf_diagnostics.specs.declared.sight.Sight.{Sight}
use Rattle.rdf_diagnostics.specs.declared.sight.Sight.TheVariants.{Token, Stop, BadEscape}
use Rattle.rdf_stream.specs.declared.watch.Nearby.{Nearby}
use Rattle.rdf_stream.specs.declared.watch.Nearby.TheVariants.{Told}
use Rattle.rdf_diagnostics.specs.Causes.{advice_text, cause_of}
use Rattle.rdf_diagnostics.specs.Excerpts.{excerpt_text}
use Rattle.rdf_stream.specs.Messages.{reason_text}
use Rattle.rdf_stream.specs.Places.{NearRead}

-- a word, where it is said
abbrev pub said : Bool → List ℕ → Option (List ℕ)
said told word = cond told (Some word) None

-- The word for a kind. Strings have one word, and so have numbers.
abbrev pub word_of : Kind → List ℕ
word_of IriRef = codes "IRI"
word_of LabelNode = codes "blank node label"
word_of ShortString = codes "string"
word_of LongString = codes "string"
word_of LangTag = codes "language tag"
word_of Carets = codes "\"^^\""
word_of Dot = codes "\".\""
word_of LineEnd = codes "line end"
word_of Integer = codes "number"
word_of Decimal = codes "number"
word_of Double = codes "number"
word_of True = codes "\"true\""
word_of False = codes "\"false\""
word_of A = codes "\"a\""
word_of AtPrefix = codes "\"@prefix\""
word_of AtBase = codes "\"@base\""
word_of Prefix = codes "\"PREFIX\""
word_of Base = codes "\"BASE\""
word_of Graph = codes "\"GRAPH\""
word_of PnameNs = codes "prefix"
word_of PnameLn = codes "prefixed name"
word_of Semicolon = codes "\";\""
word_of Comma = codes "\",\""
word_of OpenBracket = codes "\"[\""
word_of CloseBracket = codes "\"]\""
word_of OpenParen = codes "\"(\""
word_of CloseParen = codes "\")\""
word_of OpenBrace = codes "\"{\""
word_of CloseBrace = codes "\"}\""
word_of End = codes "end of document"

-- The words for the kinds in a set, in the order of the kinds, each once. A prefix is told where it stands alone, and
-- `@prefix` and `@base` where they are no language tags.
abbrev pub words_for : ℕ → List (Option (List ℕ))
words_for kinds =
    said (has kinds IriRef) (word_of IriRef)
    ∷ said (has kinds LabelNode) (word_of LabelNode)
    ∷ said (has kinds ShortString || has kinds LongString) (word_of ShortString)
    ∷ said (has kinds LangTag) (word_of LangTag)
    ∷ said (has kinds Carets) (word_of Carets)
    ∷ said (has kinds Dot) (word_of Dot)
    ∷ said (has kinds LineEnd) (word_of LineEnd)
    ∷ said (has kinds Integer || (has kinds Decimal || has kinds Double)) (word_of Integer)
    ∷ said (has kinds True) (word_of True)
    ∷ said (has kinds False) (word_of False)
    ∷ said (has kinds A) (word_of A)
    ∷ said (has kinds AtPrefix && not (has kinds LangTag)) (word_of AtPrefix)
    ∷ said (has kinds AtBase && not (has kinds LangTag)) (word_of AtBase)
    ∷ said (has kinds Prefix) (word_of Prefix)
    ∷ said (has kinds Base) (word_of Base)
    ∷ said (has kinds Graph) (word_of Graph)
    ∷ said (has kinds PnameNs && not (has kinds PnameLn)) (word_of PnameNs)
    ∷ said (has kinds PnameLn) (word_of PnameLn)
    ∷ said (has kinds Semicolon) (word_of Semicolon)
    ∷ said (has kinds Comma) (word_of Comma)
    ∷ said (has kinds OpenBracket) (word_of OpenBracket)
    ∷ said (has kinds CloseBracket) (word_of CloseBracket)
    ∷ said (has kinds OpenParen) (word_of OpenParen)
    ∷ said (has kinds CloseParen) (word_of CloseParen)
    ∷ said (has kinds OpenBrace) (word_of OpenBrace)
    ∷ said (has kinds CloseBrace) (word_of CloseBrace)
    ∷ said (has kinds End) (word_of End)
    ∷ []

-- the words that are said
abbrev pub only_said : List (Option (List ℕ)) → List (List ℕ)
only_said [] = []
only_said (None ∷ ws) = only_said ws
only_said (Some w ∷ ws) = w ∷ only_said ws

-- what stands between a word and as many that follow: commas, and `or` before the last
abbrev pub between : ℕ → List ℕ
between n = cond (n == 0) [] (cond (n == 1) (codes " or ") (codes ", "))

-- the words with that between them
abbrev pub listed : List (List ℕ) → List ℕ
listed [] = []
listed (w ∷ ws) = w ++ between (length ws) ++ listed ws

-- a list of words, of what was expected; nothing where there are none
abbrev pub expected_by : List (List ℕ) → List ℕ
expected_by [] = []
expected_by ws = codes "; expected " ++ listed ws

-- which kinds could have stood there
abbrev pub expected_text : ℕ → List ℕ
expected_text kinds = expected_by (only_said (words_for kinds))

-- which kind was found there; nothing where there is none
abbrev pub found_text : Option Kind → List ℕ
found_text None = []
found_text (Some kind) = codes ": " ++ word_of kind

-- what stands in front of a line about the place: the name of the document, the line, and the column where it is told
abbrev pub front_text : List ℕ → ℕ → Nearby NearRead → List ℕ
front_text name line (Told near) = name ++ codes ":" ++ decimal line ++ codes ":" ++ decimal near.column ++ codes ": "
front_text name line near = name ++ codes ":" ++ decimal line ++ codes ": "

-- a column, where it is told
abbrev pub column_text : Option ℕ → List ℕ
column_text None = []
column_text (Some n) = codes ", column " ++ decimal n

-- a bracket that is open, and where it was opened
abbrev pub opened_text : Opened → List ℕ
opened_text bracket = codes "; " ++ word_of bracket.kind ++ codes " is open since line " ++ decimal bracket.line ++ column_text bracket.column

-- the innermost bracket that is open before an unexpected token
abbrev pub open_by : Reason → Option Opened → List ℕ
open_by Unexpected (Some bracket) = opened_text bracket
open_by reason bracket = []

-- the same where it is told
abbrev pub open_text : Reason → Nearby NearRead → List ℕ
open_text reason (Told near) = open_by reason near.bracket
open_text reason near = []

-- a number of bytes
abbrev pub bytes_text : ℕ → List ℕ
bytes_text n = decimal n ++ cond (n == 1) (codes " byte") (codes " bytes")

-- after how many bytes a token stops that begins there
abbrev pub stopped_text : ℕ → List ℕ
stopped_text n = codes ": it stops after " ++ bytes_text n

-- the same; nothing where none begins
abbrev pub stop_text : ℕ → List ℕ
stop_text n = cond (n == 0) [] (stopped_text n)

-- a character of ASCII that is shown as it stands
abbrev pub is_graphic : ℕ → Bool
is_graphic b = nat_le 33 b && nat_le b 126

-- the first n bytes, where they are there and are shown as they stand
abbrev pub name_of : List ℕ → ℕ → Option (List ℕ)
name_of after n = cond (nat_lt (length after) n) None (cond (list_all is_graphic (take n after)) (Some (take n after)) None)

-- a name in quotes; nothing where there is none
abbrev pub quoted_text : Option (List ℕ) → List ℕ
quoted_text None = []
quoted_text (Some name) = codes ": \"" ++ name ++ codes "\""

-- how long an escape by number is: `\u` has four digits, and `\U` eight
abbrev pub escape_len : List ℕ → ℕ
escape_len (a ∷ b ∷ w) = cond (a == code "\\" && b == code "u") 6 10
escape_len w = 10

-- the escape after n bytes, where it is there, and how many bytes stand before it
abbrev pub escape_text : List ℕ → ℕ → List ℕ
escape_text after n = quoted_text (name_of (drop n after) (escape_len (drop n after))) ++ codes " after " ++ bytes_text n

-- where a token stops, the bad escape of a token, or the name or the reference that stands there
abbrev pub sight_by : Reason → Sight → List ℕ → List ℕ
sight_by NoToken (Stop n) after = stop_text n
sight_by Bad (BadEscape n) after = escape_text after n
sight_by Unbound (Token kind n) after = quoted_text (name_of after n)
sight_by NoBase (Token kind n) after = quoted_text (name_of after n)
sight_by RelativeIri (Token kind n) after = quoted_text (name_of after n)
sight_by reason sight after = []

-- the same where it is told
abbrev pub sight_text : Reason → Nearby NearRead → List ℕ
sight_text reason (Told near) = sight_by reason near.sight near.after
sight_text reason near = []

-- the limit that is passed where this is the reason
abbrev pub limit_of : Reason → Sizes → Option ℕ
limit_of TokenTooLong limits = Some limits.token
limit_of IriTooLong limits = Some limits.iri
limit_of TooDeep limits = Some limits.depth
limit_of TooManyBindings limits = Some limits.bindings
limit_of reason limits = None

abbrev pub limit_text : Option ℕ → List ℕ
limit_text None = []
limit_text (Some limit) = codes "; the limit is " ++ decimal limit

-- what to do about a likely cause
abbrev pub note_text : Cause → List ℕ
note_text cause = codes "note: " ++ advice_text cause ++ codes "\n"

-- a line of its own for the cause, where there is one
abbrev pub cause_text : List ℕ → Option Cause → List ℕ
cause_text front None = []
cause_text front (Some cause) = front ++ note_text cause

-- the line near the place with a caret under the place, and the likely cause
abbrev pub shown_text : List ℕ → Fault → Nearby NearRead → List ℕ
shown_text name f (Told near) =
    excerpt_text near.before near.after
    ++ cause_text (front_text name f.line (Told near)) (cause_of f.reason f.offset near.before near.after)
shown_text name f near = []

-- what is said of it: why the document is refused, what stands there, what could have stood there, which bracket is open, where a token stops, and the
-- limit that is passed
abbrev pub told_text : Reason → Evidence NearRead → List ℕ
told_text reason e =
    reason_text reason ++ found_text e.details.found ++ expected_text e.details.expected ++ open_text reason e.near ++ sight_text reason e.near
    ++ limit_text (limit_of reason e.limits)

-- The lines, each with its LF: the name of the document and the place with what is said of the refusal; the line near the place; and the likely cause.
abbrev pub explain_text : List ℕ → Fault → Evidence NearRead → List ℕ
explain_text name f e = front_text name f.line e.near ++ told_text f.reason e ++ codes "\n" ++ shown_text name f e.near

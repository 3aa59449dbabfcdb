-- The terminals of the four grammars (N-Triples 7, N-Quads 4, Turtle 6.5, TriG 4.5), and the table of the shapes of the kinds.
use Prim.Native.Char.{code}
use Rattle.std.specs.Prelude.{ℕ, ◌+◌, List, [], ◌∷◌, ◌++◌, codes}
use Rattle.rdf_terms.specs.declared.kind.Kind.{Kind}
use Rattle.rdf_terms.specs.declared.kind.Kind.TheVariants.{IriRef, LabelNode, ShortString, LongString, LangTag, Carets, Dot, LineEnd, Integer, Decimal, Double, True, False, A, AtPrefix, AtBase, Prefix, Base, Graph, PnameNs, PnameLn, Semicolon, Comma, OpenBracket, CloseBracket, OpenParen, CloseParen, OpenBrace, CloseBrace, End}
use Rattle.rdf_terms.specs.declared.kind.Dialect.{Dialect}
use Rattle.rdf_terms.specs.declared.kind.Dialect.TheVariants.{Lines, Turtle}
use Rattle.rdf_terms.specs.Classes.{Class}
use Rattle.rdf_terms.specs.Classes.Class.{the, digit, hex_digit, letter, letter_or_digit, iri_char, local_escape, escape_letter, plain_double, plain_single, long_double, long_single, pn_base, pn_u, pn_char}
use Rattle.rdf_terms.specs.Expressions.{Regex, Matches, ◌·◌, ◌∣◌}
use Rattle.rdf_terms.specs.Expressions.Regex.{nothing, empty, one, ◌·◌, ◌∣◌, many}

-- a word, as it is written
abbrev pub word : List ℕ → Regex
word [] = empty
word (c ∷ cs) = one (the c) · word cs

-- a word of capitals, each of them or its small letter
abbrev pub any_case : List ℕ → Regex
any_case [] = empty
any_case (c ∷ cs) = (one (the c) ∣ one (the (c + 32))) · any_case cs

-- r?
abbrev pub optional : Regex → Regex
optional r = empty ∣ r

-- r+
abbrev pub some : Regex → Regex
some r = r · many r

-- HEX ::= [0-9] | [A-F] | [a-f]
abbrev pub hex : Regex
hex = one hex_digit

-- UCHAR ::= '\\u' HEX HEX HEX HEX | '\\U' HEX HEX HEX HEX HEX HEX HEX HEX
abbrev pub uchar : Regex
uchar = word (codes "\\u") · hex · hex · hex · hex ∣ word (codes "\\U") · hex · hex · hex · hex · hex · hex · hex · hex

-- ECHAR ::= '\\' [tbnrf"'\\]
abbrev pub echar : Regex
echar = one (the (code "\\")) · one escape_letter

-- '"' and "'"
abbrev pub double_quote : Regex
double_quote = one (the (code "\""))

-- the apostrophe, which ends the strings that it begins (Turtle and TriG alone)
abbrev pub single_quote : Regex
single_quote = one (the (code "'"))

-- STRING_LITERAL_QUOTE ::= '"' ([^#x22#x5C#xA#xD] | ECHAR | UCHAR)* '"', and with "'" STRING_LITERAL_SINGLE_QUOTE
abbrev pub short_string : Regex → Class → Regex
short_string quote plain = quote · many (one plain ∣ echar ∣ uchar) · quote

-- STRING_LITERAL_LONG_QUOTE ::= '"""' (('"' | '""')? ([^"\\] | ECHAR | UCHAR))* '"""', and with "'" STRING_LITERAL_LONG_SINGLE_QUOTE
abbrev pub long_string : Regex → Class → Regex
long_string quote plain =
    quote · quote · quote · many (optional (quote ∣ quote · quote) · (one plain ∣ echar ∣ uchar)) · quote · quote · quote

-- '.'
abbrev pub dot : Regex
dot = one (the (code "."))

-- [+-]?
abbrev pub sign : Regex
sign = optional (one (the (code "+")) ∣ one (the (code "-")))

-- [0-9]+
abbrev pub digits : Regex
digits = some (one digit)

-- EXPONENT ::= [eE] [+-]? [0-9]+
abbrev pub exponent : Regex
exponent = (one (the (code "e")) ∣ one (the (code "E"))) · sign · digits

-- PN_PREFIX ::= PN_CHARS_BASE ((PN_CHARS | '.')* PN_CHARS)?
abbrev pub pn_prefix : Regex
pn_prefix = one pn_base · optional (many (one (pn_char Turtle) ∣ dot) · one (pn_char Turtle))

-- PLX ::= PERCENT | PN_LOCAL_ESC; PERCENT ::= '%' HEX HEX
abbrev pub plx : Regex
plx = one (the (code "%")) · hex · hex ∣ one (the (code "\\")) · one local_escape

-- PN_LOCAL ::= (PN_CHARS_U | ':' | [0-9] | PLX) ((PN_CHARS | '.' | ':' | PLX)* (PN_CHARS | ':' | PLX))?
abbrev pub pn_local : Regex
pn_local = (one (pn_u Turtle) ∣ one (the (code ":")) ∣ one digit ∣ plx)
    · optional (many (one (pn_char Turtle) ∣ dot ∣ one (the (code ":")) ∣ plx) · (one (pn_char Turtle) ∣ one (the (code ":")) ∣ plx))

-- the part of BLANK_NODE_LABEL after "_:" ::= (PN_CHARS_U | [0-9]) ((PN_CHARS | '.')* PN_CHARS)?
abbrev pub label_name : Dialect → Regex
label_name d = (one (pn_u d) ∣ one digit) · optional (many (one (pn_char d) ∣ dot) · one (pn_char d))

-- the part of LANGTAG after '@' ::= [a-zA-Z]+ ('-' [a-zA-Z0-9]+)*
abbrev pub tag_name : Regex
tag_name = some (one letter) · many (one (the (code "-")) · some (one letter_or_digit))

-- a shape of one dialect alone
abbrev pub only_turtle : Dialect → Regex → Regex
only_turtle Lines r = nothing
only_turtle Turtle r = r

-- the same for N-Triples and N-Quads
abbrev pub only_lines : Dialect → Regex → Regex
only_lines Lines r = r
only_lines Turtle r = nothing

-- The table of shapes. A keyword that is also a language tag is in both rows; the row of the keyword counts.
unfoldable pub shape : Dialect → Kind → Regex
-- IRIREF ::= '<' ([^#x00-#x20<>"{}|^`\] | UCHAR)* '>'
shape d IriRef = one (the (code "<")) · many (one iri_char ∣ uchar) · one (the (code ">"))
-- BLANK_NODE_LABEL ::= '_:' (PN_CHARS_U | [0-9]) ((PN_CHARS | '.')* PN_CHARS)?
shape d LabelNode = word (codes "_:") · label_name d
-- STRING_LITERAL_QUOTE, and in Turtle STRING_LITERAL_SINGLE_QUOTE
shape d ShortString = short_string double_quote plain_double ∣ only_turtle d (short_string single_quote plain_single)
-- STRING_LITERAL_LONG_QUOTE and STRING_LITERAL_LONG_SINGLE_QUOTE
shape d LongString = only_turtle d (long_string double_quote long_double ∣ long_string single_quote long_single)
-- LANGTAG ::= '@' [a-zA-Z]+ ('-' [a-zA-Z0-9]+)*
shape d LangTag = one (the (code "@")) · tag_name
-- '^^' of a literal's type
shape d Carets = word (codes "^^")
-- '.' at the end of a statement
shape d Dot = word (codes ".")
-- EOL ::= [#xD#xA]+, of which each CR and each LF is a token
shape d LineEnd = only_lines d (word (codes "\r") ∣ word (codes "\n"))
-- INTEGER ::= [+-]? [0-9]+
shape d Integer = only_turtle d (sign · digits)
-- DECIMAL ::= [+-]? [0-9]* '.' [0-9]+
shape d Decimal = only_turtle d (sign · many (one digit) · dot · digits)
-- DOUBLE ::= [+-]? ([0-9]+ '.' [0-9]* EXPONENT | '.' [0-9]+ EXPONENT | [0-9]+ EXPONENT)
shape d Double = only_turtle d (sign · (digits · dot · many (one digit) · exponent ∣ dot · digits · exponent ∣ digits · exponent))
-- BooleanLiteral ::= 'true' | 'false'
shape d True = only_turtle d (word (codes "true"))
shape d False = only_turtle d (word (codes "false"))
-- verb ::= predicate | 'a'
shape d A = only_turtle d (word (codes "a"))
-- prefixID ::= '@prefix' PNAME_NS IRIREF '.', base ::= '@base' IRIREF '.'
shape d AtPrefix = only_turtle d (word (codes "@prefix"))
shape d AtBase = only_turtle d (word (codes "@base"))
-- sparqlPrefix ::= "PREFIX" PNAME_NS IRIREF, sparqlBase ::= "BASE" IRIREF, block ::= .. | "GRAPH" labelOrSubject wrappedGraph, in any case
shape d Prefix = only_turtle d (any_case (codes "PREFIX"))
shape d Base = only_turtle d (any_case (codes "BASE"))
shape d Graph = only_turtle d (any_case (codes "GRAPH"))
-- PNAME_NS ::= PN_PREFIX? ':'
shape d PnameNs = only_turtle d (optional pn_prefix · one (the (code ":")))
-- PNAME_LN ::= PNAME_NS PN_LOCAL
shape d PnameLn = only_turtle d (optional pn_prefix · one (the (code ":")) · pn_local)
-- ';' and ',' of lists
shape d Semicolon = only_turtle d (word (codes ";"))
shape d Comma = only_turtle d (word (codes ","))
-- blankNodePropertyList ::= '[' predicateObjectList ']', ANON ::= '[' WS* ']'
shape d OpenBracket = only_turtle d (word (codes "["))
shape d CloseBracket = only_turtle d (word (codes "]"))
-- collection ::= '(' object* ')'
shape d OpenParen = only_turtle d (word (codes "("))
shape d CloseParen = only_turtle d (word (codes ")"))
-- wrappedGraph ::= '{' triplesBlock? '}'
shape d OpenBrace = only_turtle d (word (codes "{"))
shape d CloseBrace = only_turtle d (word (codes "}"))
-- no text is the end of the input
shape d End = nothing

-- w has the form of the kind
abbrev pub Shape : Dialect → Kind → List ℕ → Type 0
Shape d LangTag w = Matches (shape d LangTag) w × (Matches (shape d AtPrefix ∣ shape d AtBase) w → ⊥)
Shape d k w = Matches (shape d k) w

-- some text with a shape begins with r and is longer
abbrev pub Live : Dialect → List ℕ → Type 0
Live d r = (k : Kind) × (c : ℕ) × (w : List ℕ) × Shape d k (r ++ c ∷ w)

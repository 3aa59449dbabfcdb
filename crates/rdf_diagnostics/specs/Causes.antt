-- The likely cause of a refusal, as far as the bytes at its place tell it, and the advice for each cause.
use Rattle.std.specs.Prelude.{ℕ, Bool, cond, List, [], ◌∷◌, codes, Option, Some, None}
use Rattle.rdf_terms.specs.declared.reason.Reason.{Reason}
use Rattle.rdf_terms.specs.declared.reason.Reason.TheVariants as reason
use Rattle.rdf_diagnostics.specs.declared.causes.Cause.{Cause}
use Rattle.rdf_diagnostics.specs.declared.causes.Cause.TheVariants as cause
use Rattle.rdf_diagnostics.specs.Signs.{has_space_before, has_surrogate, is_badly_escaped, is_direction, is_directive, is_in_directive, is_json_ld, is_latin1, is_mark, is_month, is_open_string}
use Rattle.rdf_diagnostics.specs.Signs.{is_packed, is_prefix_without_colon, is_slash_in_name, is_triple_term, is_turtle, is_underscore_in_tag, is_utf16, is_web_page, is_xml, starts_word}

-- a row of a table: the cause, where its sign is there
abbrev pub row : Bool → Cause → Option Cause
row is_there c = cond is_there (Some c) None

-- the first row of a table whose sign is there
abbrev pub first : List (Option Cause) → Option Cause
first [] = None
first (None ∷ rows) = first rows
first (Some c ∷ rows) = Some c

-- bytes that are no UTF-8
abbrev pub bad_utf8_rows : ℕ → List ℕ → List (Option Cause)
bad_utf8_rows offset after =
    row (is_packed offset after) cause.Packed
    ∷ row (is_utf16 offset after) cause.Utf16
    ∷ row (is_latin1 offset after) cause.Latin1
    ∷ []

-- bytes that begin no token
abbrev pub no_token_rows : ℕ → List ℕ → List ℕ → List (Option Cause)
no_token_rows offset before after =
    row (is_packed offset after) cause.Packed
    ∷ row (is_web_page after) cause.WebPage
    ∷ row (is_xml after) cause.Xml
    ∷ row (is_json_ld after) cause.JsonLd
    ∷ row (is_triple_term after) cause.TripleTerm
    ∷ row (is_direction after) cause.Direction
    ∷ row (is_mark after) cause.ByteOrderMark
    ∷ row (has_space_before 0x3E after) cause.SpaceInIri
    ∷ row (has_space_before 0x3C after) cause.OpenIri
    ∷ row (is_underscore_in_tag before after) cause.UnderscoreInTag
    ∷ row (is_slash_in_name before after) cause.SlashInName
    ∷ row (is_badly_escaped after) cause.BadBackslash
    ∷ row (is_open_string after) cause.OpenString
    ∷ row (is_turtle after) cause.OnlyTurtle
    ∷ row (is_prefix_without_colon before after) cause.PrefixWithoutColon
    ∷ row (starts_word after) cause.BareWord
    ∷ []

-- an escape that stands for no character
abbrev pub bad_escape_rows : List ℕ → List (Option Cause)
bad_escape_rows after = row (has_surrogate after) cause.Surrogates ∷ []

-- a token that is unexpected
abbrev pub unexpected_rows : ℕ → List ℕ → List ℕ → List (Option Cause)
unexpected_rows offset before after =
    row (is_json_ld after) cause.JsonLd
    ∷ row (is_triple_term after) cause.TripleTerm
    ∷ row (is_directive offset after) cause.OnlyTurtle
    ∷ row (is_in_directive before after) cause.NoDotBefore
    ∷ row (is_month after) cause.DateWithoutQuotes
    ∷ []

-- a prefix that is not bound
abbrev pub unbound_rows : List ℕ → List (Option Cause)
unbound_rows after = row (is_mark after) cause.ByteOrderMark ∷ []

-- The likely cause of a refusal at a byte, where the line has some bytes before the place and some from there on.
abbrev pub cause_of : Reason → ℕ → List ℕ → List ℕ → Option Cause
cause_of reason.BadUtf8 offset before after = first (bad_utf8_rows offset after)
cause_of reason.NoToken offset before after = first (no_token_rows offset before after)
cause_of reason.BadEscape offset before after = first (bad_escape_rows after)
cause_of reason.Unexpected offset before after = first (unexpected_rows offset before after)
cause_of reason.Unbound offset before after = first (unbound_rows after)
cause_of reason offset before after = None

-- what to do about a cause
abbrev pub advice_text : Cause → List ℕ
advice_text cause.Packed = codes "the document is packed: unpack it first, as by gzip -dc, bzip2 -dc, xz -dc or unzip -p"
advice_text cause.Utf16 = codes "the document is UTF-16: convert it first, as by iconv -f UTF-16 -t UTF-8"
advice_text cause.Latin1 = codes "the document is probably Windows-1252 or ISO 8859-1: convert it, as by iconv -f WINDOWS-1252 -t UTF-8"
advice_text cause.WebPage = codes "the document is a web page: ask for its data, as by curl -L -H 'Accept: text/turtle'"
advice_text cause.Xml = codes "the document is XML: convert RDF/XML first, as by rapper -i rdfxml -o ntriples"
advice_text cause.JsonLd = codes "the document is JSON-LD: convert it with another tool first"
advice_text cause.TripleTerm = codes "RDF 1.2 has triple terms and annotations: only the formats of 2014 are read"
advice_text cause.Direction = codes "RDF 1.2 has directions of texts: only the formats of 2014 are read"
advice_text cause.ByteOrderMark = codes "files with byte order marks were joined: take each mark out, as by sed '1s/^\\xEF\\xBB\\xBF//'"
advice_text cause.SpaceInIri = codes "an IRI has no spaces: write %20 for each"
advice_text cause.OpenIri = codes "the IRI is not closed: write > at its end"
advice_text cause.UnderscoreInTag = codes "a language tag has no _: write -, as in en-US"
advice_text cause.SlashInName = codes "a local name has no /: write \\/, or the whole IRI in < and >"
advice_text cause.BadBackslash = codes "the string has a \\ that begins no escape: write \\\\ for it"
advice_text cause.OpenString = codes "the string is not closed: write \\n for a line end, or in Turtle and TriG \"\"\" at both ends"
advice_text cause.Surrogates = codes "a surrogate is no character: write one escape for both of a pair, as \\U0001F600"
advice_text cause.OnlyTurtle = codes "only Turtle and TriG have this: name the format, as by --format ttl"
advice_text cause.PrefixWithoutColon = codes "the prefix has no colon: write @prefix ex: <http://example.org/> ."
advice_text cause.NoDotBefore = codes "the . of the statement before the directive is missing: write it after the string"
advice_text cause.BareWord = codes "a name has a prefix, and a string quotes: write ex:word or \"word\""
advice_text cause.DateWithoutQuotes = codes "a date is a string with its datatype: write \"2020-01-01\"^^xsd:date"

-- What the bytes at a place show: `before` stands in front of it on its line, `after` from there on.
use Prim.Native.Char.{code}
use Rattle.std.specs.Prelude.{ℕ, ◌-◌, Bool, true, false, not, ◌&&◌, ◌||◌, ◌==◌, nat_eq, nat_le, nat_lt, List, [], ◌∷◌, codes, drop, length, slice_index, take}
use Rattle.std.specs.Char.{is_ascii_alphabetic, is_ascii_alphanumeric, is_ascii_digit, is_ascii_hexdigit}
use Rattle.std.specs.List.{ends_with, list_any, prefix_len, starts_with, suffix_len}

-- bytes begin with a word, or end with it
abbrev pub begins : List ℕ → List ℕ → Bool
begins word bytes = starts_with nat_eq bytes word

abbrev pub ends : List ℕ → List ℕ → Bool
ends word bytes = ends_with nat_eq bytes word

-- ---- whole documents of another kind

-- how a file of gzip, bzip2, xz or zip begins
abbrev pub begins_packed : List ℕ → Bool
begins_packed bytes =
    begins (0x1F ∷ 0x8B ∷ []) bytes || (begins (codes "BZh") bytes
    || (begins (0xFD ∷ 0x37 ∷ 0x7A ∷ 0x58 ∷ 0x5A ∷ 0 ∷ []) bytes || begins (0x50 ∷ 0x4B ∷ 3 ∷ 4 ∷ []) bytes))

-- the document begins so
abbrev pub is_packed : ℕ → List ℕ → Bool
is_packed offset after = offset == 0 && begins_packed after

-- the document begins with the byte order mark of UTF-16, of either order
abbrev pub is_utf16 : ℕ → List ℕ → Bool
is_utf16 offset after = offset == 0 && (begins (0xFF ∷ 0xFE ∷ []) after || begins (0xFE ∷ 0xFF ∷ []) after)

-- a byte above ASCII before one of ASCII, as a letter of Windows-1252 or ISO 8859-1 mostly stands
abbrev pub is_lone : List ℕ → Bool
is_lone [] = false
is_lone (b ∷ []) = false
is_lone (b ∷ c ∷ bytes) = nat_le 0x80 b && nat_lt c 0x80

-- such a letter, after the first four bytes of the document, by which files of other kinds are known
abbrev pub is_latin1 : ℕ → List ℕ → Bool
is_latin1 offset after = nat_lt 3 offset && is_lone after

-- the first tag of a page
abbrev pub is_web_page : List ℕ → Bool
is_web_page after = begins (codes "<!DOCTYPE html") after || (begins (codes "<!doctype html") after || begins (codes "<html") after)

-- the first tag of another document in XML
abbrev pub is_xml : List ℕ → Bool
is_xml after = begins (codes "<?xml ") after || (begins (codes "<rdf:RDF") after || begins (codes "<!DOCTYPE rdf") after)

-- a key of JSON-LD with which an object mostly begins
abbrev pub is_json_ld_key : List ℕ → Bool
is_json_ld_key after =
    begins (codes "\"@context\"") after || (begins (codes "\"@id\"") after || (begins (codes "\"@type\"") after || begins (codes "\"@graph\"") after))

-- such a key, or an object that begins with a key of JSON-LD
abbrev pub is_json_ld : List ℕ → Bool
is_json_ld after = is_json_ld_key after || (begins (codes "{\"@") after || begins (codes "{ \"@") after)

-- ---- what only RDF 1.2 has

-- a triple term or an annotation
abbrev pub is_triple_term : List ℕ → Bool
is_triple_term after = begins (codes "<<") after || begins (codes "{|") after

-- a direction after a language
abbrev pub is_direction : List ℕ → Bool
is_direction after = begins (codes "--ltr") after || begins (codes "--rtl") after

-- ---- single mistakes

-- U+FEFF
abbrev pub is_mark : List ℕ → Bool
is_mark after = begins (0xEF ∷ 0xBB ∷ 0xBF ∷ []) after

-- A byte may stand in an IRI (all but those up to the space and `<>"{}|^`` and the backslash), or is a space.
abbrev pub is_iri_or_space : ℕ → Bool
is_iri_or_space b = nat_le 0x20 b && not (list_any (nat_eq b) (codes "<>\"{}|^`\\"))

-- how many such bytes follow the one at the place
abbrev pub inside_len : List ℕ → ℕ
inside_len after = prefix_len is_iri_or_space (drop 1 after)

-- after a `<` such bytes with a space among them, and then this byte
abbrev pub has_space_before : ℕ → List ℕ → Bool
has_space_before end after =
    begins (codes "<") after && (list_any (nat_eq 0x20) (take (inside_len after) (drop 1 after))
    && begins (end ∷ []) (drop (inside_len after) (drop 1 after)))

-- a language tag ends here: `@`, and then letters, digits and hyphens
abbrev pub is_tag_byte : ℕ → Bool
is_tag_byte b = is_ascii_alphanumeric b || b == code "-"

abbrev pub ends_in_tag : List ℕ → Bool
ends_in_tag before = nat_lt 0 (suffix_len is_tag_byte before) && ends (codes "@") (take (length before - suffix_len is_tag_byte before) before)

-- a `_` after such a tag
abbrev pub is_underscore_in_tag : List ℕ → List ℕ → Bool
is_underscore_in_tag before after = begins (codes "_") after && ends_in_tag before

-- a byte of a name in ASCII
abbrev pub is_name_byte : ℕ → Bool
is_name_byte b = is_tag_byte b || b == code "_"

-- the last byte is one of a name
abbrev pub ends_in_name : List ℕ → Bool
ends_in_name before = nat_lt 0 (suffix_len is_name_byte before)

-- a `/` after such a byte
abbrev pub is_slash_in_name : List ℕ → List ℕ → Bool
is_slash_in_name before after = begins (codes "/") after && ends_in_name before

-- how many bytes of a name stand at the place
abbrev pub name_len : List ℕ → ℕ
name_len after = prefix_len is_name_byte after

-- a word begins here, with a letter
abbrev pub starts_word : List ℕ → Bool
starts_word [] = false
starts_word (b ∷ bytes) = is_ascii_alphabetic b

-- a prefix (a letter and then letters, digits, `_` and `-`, or nothing) and a text after it, as its colon
abbrev pub has_prefix_before : List ℕ → List ℕ → Bool
has_prefix_before text after = begins text (drop (name_len after) after) && (name_len after == 0 || starts_word after)

-- a word that stands alone in Turtle and TriG
abbrev pub is_keyword : List ℕ → Bool
is_keyword after =
    begins (codes "PREFIX ") after || (begins (codes "prefix ") after || (begins (codes "BASE ") after || (begins (codes "base ") after
    || (begins (codes "a ") after || (begins (codes "true ") after || begins (codes "false ") after)))))

-- what begins a token of Turtle and TriG alone: a bracket or parenthesis, `,` or `;`, a digit, a name with its prefix, or a keyword
abbrev pub is_turtle : List ℕ → Bool
is_turtle after = list_any (nat_eq (slice_index after 0)) (codes "[](),;0123456789") || (has_prefix_before (codes ":") after || is_keyword after)

-- the document begins with a directive with `@`
abbrev pub is_directive : ℕ → List ℕ → Bool
is_directive offset after = offset == 0 && (begins (codes "@prefix ") after || begins (codes "@base ") after)

-- a word stands where a prefix is to be bound
abbrev pub is_prefix_without_colon : List ℕ → List ℕ → Bool
is_prefix_without_colon before after =
    (ends (codes "@prefix ") before || (ends (codes "PREFIX ") before || ends (codes "prefix ") before)) && starts_word after

-- what follows the `@prefix` or `@base` of a directive
abbrev pub is_in_directive : List ℕ → List ℕ → Bool
is_in_directive before after =
    ends (codes "@prefix ") before && has_prefix_before (codes ": ") after || ends (codes "@base ") before && begins (codes "<") after

-- A string of one line begins here, and the line, of which all is known, has no other quote.
abbrev pub is_open_string : List ℕ → Bool
is_open_string after = begins (codes "\"") after && (nat_lt (length after) 240 && not (list_any (nat_eq 34) (drop 1 after)))

-- what follows a backslash goes on as an escape: a letter or sign of its own, or `u` or `U` and a hexadecimal digit
abbrev pub is_escape : List ℕ → Bool
is_escape bytes =
    list_any (nat_eq (slice_index bytes 0)) (codes "tbnrf\"'\\")
    || list_any (nat_eq (slice_index bytes 0)) (codes "uU") && is_ascii_hexdigit (slice_index bytes 1)

-- A backslash begins no escape in what stands before a closing quote; the test says whether a backslash stands in front.
abbrev pub has_bad_escape : Bool → List ℕ → Bool
has_bad_escape is_after [] = false
has_bad_escape true (b ∷ bytes) = not (is_escape (b ∷ bytes)) || has_bad_escape false bytes
has_bad_escape false (b ∷ bytes) = not (b == code "\"") && has_bad_escape (b == code "\\") bytes

-- a string begins here that has such a backslash
abbrev pub is_badly_escaped : List ℕ → Bool
is_badly_escaped after = begins (codes "\"") after && has_bad_escape false (drop 1 after)

-- an escape of a surrogate, `\uD800` to `\uDFFF`, begins here
abbrev pub is_surrogate : List ℕ → Bool
is_surrogate bytes =
    (begins (codes "\\uD") bytes || begins (codes "\\ud") bytes) && list_any (nat_eq (slice_index bytes 3)) (codes "89ABCDEFabcdef")

-- somewhere one begins
abbrev pub has_surrogate : List ℕ → Bool
has_surrogate [] = false
has_surrogate (b ∷ bytes) = is_surrogate (b ∷ bytes) || has_surrogate bytes

-- `-`, two digits and `-`: the month of a date
abbrev pub is_month : List ℕ → Bool
is_month after =
    begins (codes "-") after && (is_ascii_digit (slice_index after 1) && (is_ascii_digit (slice_index after 2) && slice_index after 3 == code "-"))

-- The good text of some bytes, what comes after it, and the tokens of the bytes.
use Prim.Native.Char.{code}
use Rattle.std.specs.Prelude.{ℕ, ◌+◌, ◌-◌, ◌^◌, Bool, true, false, cond, List, [], ◌∷◌, length, take, drop, count_by, is_some, ◌==◌, ◌||◌}
use Rattle.std.specs.Str.{chars}
use Rattle.std.specs.Str.Lossy.{utf8_valid_len, utf8_error_len}
use Rattle.rdf_terms.specs.declared.kind.Dialect.{Dialect}
use Rattle.rdf_terms.specs.declared.kind.Kind.{Kind}
use Rattle.rdf_terms.specs.declared.kind.Kind.TheVariants.{End}
use Rattle.rdf_tokens.specs.Tokens.{Tail, Place, Reading, past, tokens}
use Rattle.rdf_tokens.specs.Tokens.Tail.{goes_on, ended, broken}

-- the characters of the longest front that is UTF-8
abbrev pub good : List ℕ → List ℕ
good bytes = chars (take (utf8_valid_len bytes) bytes)

-- Bytes after it either cannot begin a character, or are the beginning of one that has not come whole.
abbrev pub tail_of : List ℕ → Bool → Tail
tail_of bytes is_end = cond (utf8_valid_len bytes == length bytes) (cond is_end ended goes_on)
    (cond (is_end || is_some (utf8_error_len (drop (utf8_valid_len bytes) bytes))) broken goes_on)

-- one leading U+FEFF is dropped
abbrev pub has_byte_order_mark : List ℕ → Bool
has_byte_order_mark [] = false
has_byte_order_mark (c ∷ w) = c == 0xFEFF

-- how many characters a leading byte order mark has: 1, or 0 where there is none
abbrev pub mark : List ℕ → ℕ
mark w = cond (has_byte_order_mark w) 1 0

-- the place of a document's first byte: offsets are counted from 0, lines from 1
abbrev pub first_place : Place
first_place = record { offset = 0; line = 1 }

-- the place after some bytes: their number, and one more than the line feeds in them
abbrev pub end_of : List ℕ → Place
end_of bytes = record { offset = length bytes; line = 1 + count_by (λ b. b == code "\n") bytes }

-- the tokens of a text whose beginning has been looked at, or that is the input's beginning
abbrev pub tokens_at : Dialect → ℕ → Tail → Bool → Bool → Place → List ℕ → Reading
tokens_at d limit t true comment p w = tokens d limit t comment p w
tokens_at d limit t false comment p w = tokens d limit t comment (past p (take (mark w) w)) (drop (mark w) w)

-- the tokens of some bytes
unfoldable pub tokens_of : Dialect → ℕ → List ℕ → Bool → Reading
tokens_of d limit bytes is_end = tokens_at d limit (tail_of bytes is_end) false false first_place (good bytes)

-- the most bytes that a document has
abbrev pub most_bytes : ℕ
most_bytes = 2 ^ 63 - 1

-- the kind of the input's end
abbrev pub is_end : Kind → Bool
is_end End = true
is_end k = false

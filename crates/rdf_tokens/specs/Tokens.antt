-- The tokens of a text, from left to right, and why there are no more.
use Prim.Native.Char.{code}
use Rattle.std.specs.Prelude.{ℕ, zero, suc, ◌+◌, Bool, true, false, cond, List, [], ◌∷◌, ◌++◌, ◌&&◌, ◌||◌, ◌==◌, nat_lt, length, take, drop, Option, Some, None, is_some}
use Rattle.std.specs.Char.{len_utf8}
use Rattle.rdf_terms.specs.declared.kind.Dialect.{Dialect}
use Rattle.rdf_terms.specs.declared.kind.Dialect.TheVariants.{Lines, Turtle}
use Rattle.rdf_terms.specs.declared.kind.Kind.{Kind}
use Rattle.rdf_terms.specs.Shapes.{kind_of, is_live}
use Rattle.rdf_terms.specs.declared.kind.Kind.TheVariants.{LongString, End}
use Rattle.rdf_terms.specs.Values.{is_fit}

-- where a text lies: the bytes before it, and one more than the line feeds before it
pub record Place : Type 0 where
  pub offset : ℕ
  pub line : ℕ

-- the place after some characters
abbrev pub past : Place → List ℕ → Place
past p [] = p
past p (c ∷ w) = past (record { offset = p.offset + len_utf8 c; line = p.line + cond (c == code "\n") 1 0 }) w

-- what comes after the good text: more, nothing, or bytes that are no character
pub data Tail : Type 0 where
  goes_on : Tail
  ended : Tail
  broken : Tail

-- why the tokens of a text go no further: more bytes decide, all was read, or one of four errors at this place
pub data Outcome : Type 0 where
  undecided : Outcome
  complete : Outcome
  token_too_long : Outcome
  bad_utf8 : Outcome
  no_token : Outcome
  bad_escape : Outcome

-- a token: its kind, its characters as they are written, delimiters and escapes included, and the place where it begins
pub record Token : Type 0 where
  pub kind : Kind
  pub text : List ℕ
  pub at : Place

-- CR or LF
abbrev pub is_line_end : ℕ → Bool
is_line_end c = c == code "\n" || c == code "\r"

-- WS ::= #x20 | #x9, in Turtle and TriG also #xD | #xA
abbrev pub is_space : Dialect → ℕ → Bool
is_space Lines c = c == code " " || c == code "\t"
is_space Turtle c = c == code " " || c == code "\t" || is_line_end c

-- how many characters of white space and comments come first; the test says that a comment has begun
abbrev pub blank : Dialect → Bool → List ℕ → ℕ
blank d b [] = 0
blank d false (c ∷ w) = cond (is_space d c) (suc (blank d false w)) (cond (c == code "#") (suc (blank d true w)) 0)
blank d true (c ∷ w) = cond (is_line_end c) (cond (is_space d c) (suc (blank d false w)) 0) (suc (blank d true w))

-- three equal quotes come first
abbrev pub three_quotes : Dialect → List ℕ → Bool
three_quotes Turtle (a ∷ b ∷ c ∷ w) = (a == code "\"" && b == code "\"" && c == code "\"") || (a == code "'" && b == code "'" && c == code "'")
three_quotes d w = false

-- after three quotes only a long string is a token: one that is not closed is not read as an empty string and a quote
abbrev pub only_long : Bool → Option Kind → Option Kind
only_long true None = None
only_long true (Some LongString) = Some LongString
only_long true (Some k) = None
only_long false k = k

-- the front of n characters if it has a kind, otherwise the other front
abbrev pub with_length : ℕ → Option Kind → Option (ℕ × Kind) → Option (ℕ × Kind)
with_length n (Some k) other = Some (n, k)
with_length n None other = other

-- the longest front with a kind, of at most n characters
abbrev pub longest : Dialect → List ℕ → ℕ → Option (ℕ × Kind)
longest d w zero = None
longest d w (suc n) = with_length (suc n) (only_long (three_quotes d w) (kind_of d (take (suc n) w))) (longest d w n)

-- more than limit characters stand there, and the first limit + 1 are a token or the beginning of one
abbrev pub over : Dialect → ℕ → List ℕ → Bool
over d limit w = nat_lt limit (length w) && (is_some (kind_of d (take (limit + 1) w)) || is_live d (take (limit + 1) w))

-- nothing is left to read
abbrev pub is_empty : List ℕ → Bool
is_empty [] = true
is_empty (c ∷ w) = false

-- the next step at a place: a token of n characters, or an outcome
pub data Step : Type 0 where
  token : ℕ → Kind → Step
  stop : Outcome → Step

-- a longest front is a token if its escapes stand for characters, and a bad escape otherwise; without a front there is no token
abbrev pub chosen : List ℕ → Option (ℕ × Kind) → Step
chosen w None = stop no_token
chosen w (Some x) = cond (is_fit x.1 (take x.0 w)) (token x.0 x.1) (stop bad_escape)

-- the step where the front cannot grow any more: the longest token (Turtle 6.5), or the end of the input where nothing is left
abbrev pub decided : Dialect → List ℕ → Step
decided d [] = stop complete
decided d (c ∷ w) = chosen (c ∷ w) (longest d (c ∷ w) (length (c ∷ w)))

-- the step, by what comes next and by whether it could change the decision, so that it has to be waited for
abbrev pub by_tail : Dialect → Tail → List ℕ → Bool → Step
by_tail d goes_on w true = stop undecided
by_tail d broken w true = stop bad_utf8
by_tail d ended w b = decided d w
by_tail d t w false = decided d w

-- the next token or the outcome at a place after white space and comments; a token over the limit is reported before anything else
unfoldable pub step : Dialect → ℕ → Tail → List ℕ → Step
step d limit t w = cond (over d limit w) (stop token_too_long) (by_tail d t w (is_empty w || is_live d w))

-- the tokens of a text, and the outcome at its place
pub record Reading : Type 0 where
  pub tokens : List Token
  pub outcome : Outcome
  pub at : Place

-- a token, and then what is read after it
abbrev pub with_token : Token → Reading → Reading
with_token t r = record { tokens = t ∷ r.tokens; outcome = r.outcome; at = r.at }

-- an input that is read completely has one token more, its end, without text
abbrev pub end_tokens : Outcome → Place → List Token
end_tokens complete p = record { kind = End; text = []; at = p } ∷ []
end_tokens o p = []

-- an error stands where its token would begin, but bad UTF-8 at the first byte that is no character
abbrev pub stop_place : Outcome → Place → List ℕ → Place
stop_place bad_utf8 p w = past p w
stop_place o p w = p

-- the reading that begins with this step: it stops here, or gives the token and is continued after it
abbrev pub go_on : Step → Place → List ℕ → (Place → List ℕ → Reading) → Reading
go_on (stop o) p w more = record { tokens = end_tokens o p; outcome = o; at = stop_place o p w }
go_on (token n k) p w more = with_token (record { kind = k; text = take n w; at = p }) (more (past p (take n w)) (drop n w))

-- white space and comments are taken off
abbrev pub rest_of : Dialect → Bool → List ℕ → List ℕ
rest_of d b w = drop (blank d b w) w

-- the place after the white space and comments that come first
abbrev pub place_of : Dialect → Bool → Place → List ℕ → Place
place_of d b p w = past p (take (blank d b w) w)

-- Each token has a character, so a text of fewer than fuel characters is read to its end.
unfoldable pub read : ℕ → Dialect → ℕ → Tail → Bool → Place → List ℕ → Reading
read zero d limit t b p w = record { tokens = []; outcome = undecided; at = p }
read (suc fuel) d limit t b p w =
    go_on (step d limit t (rest_of d b w)) (place_of d b p w) (rest_of d b w) (λ q v. read fuel d limit t false q v)

-- the tokens of a text; the test says that the text begins in a comment
unfoldable pub tokens : Dialect → ℕ → Tail → Bool → Place → List ℕ → Reading
tokens d limit t b p w = read (suc (length w)) d limit t b p w

-- some tokens, and then a reading
abbrev pub with_tokens : List Token → Reading → Reading
with_tokens ts r = record { tokens = ts ++ r.tokens; outcome = r.outcome; at = r.at }

-- The laws of token lists.
use Prim.Native.Char.{code}
use Rattle.std.specs.Prelude.{◌≡◌, ◌≢◌, ◌↔◌, ◌⊎◌, ℕ, ◌<◌, ◌≤◌, ◌+◌, ◌==◌, Bool, true, false, List, [], ◌∷◌, ◌++◌, length, take, drop, count_by, encode_utf8_all, Option, Some, None, Result, Ok, Err}
use Rattle.std.specs.List.{All}
use Rattle.std.specs.Str.{chars}
use Rattle.std.specs.Str.Lossy.{utf8_valid_len}
use Rattle.rdf_terms.specs.declared.kind.Dialect.{Dialect}
use Rattle.rdf_terms.specs.declared.kind.Kind.{Kind}
use Rattle.rdf_terms.specs.declared.kind.Kind.TheVariants.{LongString, End}
use Rattle.rdf_terms.specs.Shapes.{Shape, Live}
use Rattle.rdf_terms.specs.Values.{is_fit}
use Rattle.rdf_terms.specs.declared.reason.Reason.{Reason}
use Rattle.rdf_terms.specs.declared.reason.Reason.TheVariants.{BadUtf8, NoToken, BadEscape, TokenTooLong, Ended}
use Rattle.rdf_tokens.specs.declared.token.Token.{Token as Given}
use Rattle.rdf_tokens.specs.declared.token.Fault.{Fault}
use Rattle.rdf_tokens.specs.Tokens.{Place, Outcome, Token, Reading, three_quotes, longest}
use Rattle.rdf_tokens.specs.Tokens.Outcome.{undecided, complete, token_too_long, bad_utf8, no_token, bad_escape}
use Rattle.rdf_tokens.specs.Good.{tokens_of}
use Rattle.rdf_tokens.specs.Unread.{Unread}
use Rattle.rdf_tokens.specs.Scans.{HasScanned, IsToken, Gives, token_of, place_of, unread_bytes}

-- a list that goes on with further tokens
abbrev pub IsBeginning : List Token → List Token → Type 0
IsBeginning ts us = (more : List Token) × (us ≡ ts ++ more)

-- More bytes, or the end, only lengthen the list of tokens. They change no outcome that is decided, nor its place.
abbrev pub MoreBytesOnlyLengthen : Type 0
MoreBytesOnlyLengthen = (d : Dialect) (limit : ℕ) (bytes more : List ℕ) (e : Bool) →
    IsBeginning (tokens_of d limit bytes false).tokens (tokens_of d limit (bytes ++ more) e).tokens
    × ((tokens_of d limit bytes false).outcome ≢ undecided → tokens_of d limit (bytes ++ more) e ≡ tokens_of d limit bytes false)

-- What a scanner has given is a beginning of the tokens of the bytes that it has taken.
abbrev pub GivenTokensAreABeginning : Type 0
GivenTokensAreABeginning = (v : Unread) (bytes : List ℕ) (ts : List Token) → HasScanned v bytes ts →
    IsBeginning ts (tokens_of v.dialect v.limit bytes v.ended).tokens

-- the outcome that a fault tells
abbrev pub Tells : Reason → Outcome → Type 0
Tells BadUtf8 o = o ≡ bad_utf8
Tells NoToken o = o ≡ no_token
Tells BadEscape o = o ≡ bad_escape
Tells TokenTooLong o = o ≡ token_too_long
Tells Ended o = o ≢ undecided
Tells r o = ⊥

-- some tokens are all, and a fault tells the outcome and its place; of a scanner that has stopped it tells only that one is there
abbrev pub IsStop : Reading → List Token → Reason → Place → Type 0
IsStop r ts reason at = (r.tokens ≡ ts) × Tells reason r.outcome × (reason ≢ Ended → at ≡ r.at)

-- the next token after some, or that more bytes decide it, or why there is none
abbrev pub IsNext : Reading → List Token → Result (Option Given) Fault → Type 0
IsNext r ts (Ok (Some t)) = IsBeginning (ts ++ token_of t ∷ []) r.tokens
IsNext r ts (Ok None) = (r.tokens ≡ ts) × (r.outcome ≡ undecided)
IsNext r ts (Err f) = IsStop r ts f.reason (place_of f)

-- What a scanner gives is next among the tokens of the bytes that it has taken, after those that it has given.
abbrev pub NextTokenIsGiven : Type 0
NextTokenIsGiven = (old new : Unread) (bytes : List ℕ) (ts : List Token) (result : Result (Option Given) Fault) →
    HasScanned old bytes ts → Gives old result new → IsNext (tokens_of old.dialect old.limit bytes old.ended) ts result

-- a place within some bytes: its line is one more than the line feeds before it
pub record IsPlaceIn (bytes : List ℕ) (p : Place) : Type 0 where
  pub within : p.offset ≤ length bytes
  pub line : p.line ≡ 1 + count_by (λ b. b == code "\n") (take p.offset bytes)

-- the bytes of a token stand at its place
pub record StandsIn (bytes : List ℕ) (t : Token) : Type 0 where
  pub place : IsPlaceIn bytes t.at
  pub text : take (length (encode_utf8_all t.text)) (drop t.at.offset bytes) ≡ encode_utf8_all t.text

-- Each token stands at its place in the bytes, and the list ends at a place in them.
abbrev pub TokensStandAtTheirPlaces : Type 0
TokensStandAtTheirPlaces = (d : Dialect) (limit : ℕ) (bytes : List ℕ) (e : Bool) →
    All (StandsIn bytes) (tokens_of d limit bytes e).tokens × IsPlaceIn bytes (tokens_of d limit bytes e).at

-- Each token has the shape of its kind and fit escapes, or is the end.
abbrev pub TokensHaveShapes : Type 0
TokensHaveShapes = (d : Dialect) (limit : ℕ) (bytes : List ℕ) (e : Bool) → All (IsToken d) (tokens_of d limit bytes e).tokens

-- the token has text: it is not the end of the input
abbrev pub NoEnd : Token → Type 0
NoEnd t = t.kind ≢ End

-- the end is there where all was read, and then it is the last token
pub record EndsWell (r : Reading) : Type 0 where
  pub whole : r.outcome ≡ complete → (ts : List Token) × (r.tokens ≡ ts ++ record { kind = End; text = []; at = r.at } ∷ []) × All NoEnd ts
  pub part : r.outcome ≢ complete → All NoEnd r.tokens

-- The end of the input is the last token where all was read, and no token elsewhere.
abbrev pub EndStandsLast : Type 0
EndStandsLast = (d : Dialect) (limit : ℕ) (bytes : List ℕ) (e : Bool) → EndsWell (tokens_of d limit bytes e)

-- No token has more characters than the limit.
abbrev pub TokensKeepTheLimit : Type 0
TokensKeepTheLimit = (d : Dialect) (limit : ℕ) (bytes : List ℕ) (e : Bool) → All (λ t. length t.text ≤ limit) (tokens_of d limit bytes e).tokens

-- The text from a place on, as far as the bytes are characters.
abbrev pub text_at : List ℕ → Place → List ℕ
text_at bytes p = chars (drop p.offset (take (utf8_valid_len bytes) bytes))

-- the bytes that leave the next token open: from the place where the tokens end, as far as the bytes are characters
abbrev pub open_bytes : Dialect → ℕ → List ℕ → List ℕ
open_bytes d limit bytes = drop (tokens_of d limit bytes false).at.offset (take (utf8_valid_len bytes) bytes)

-- A scanner that may be handed more holds at least the bytes that leave the next token open.
abbrev pub OpenTextIsPending : Type 0
OpenTextIsPending = (v : Unread) (bytes : List ℕ) (ts : List Token) → HasScanned v bytes ts → v.stopped ≡ false → v.ended ≡ false →
    (tokens_of v.dialect v.limit bytes false).outcome ≡ undecided → length (open_bytes v.dialect v.limit bytes) ≤ unread_bytes v

-- The first n characters of a text may be a token of the kind: they have its shape, and where three quotes come first it is a long string.
pub record IsFront (d : Dialect) (w : List ℕ) (n : ℕ) (k : Kind) : Type 0 where
  pub some : 0 < n
  pub within : n ≤ length w
  pub shape : Shape d k (take n w)
  pub long : three_quotes d w ≡ true → k ≡ LongString

-- and no more characters may be a token
pub record IsLongest (d : Dialect) (w : List ℕ) (n : ℕ) (k : Kind) : Type 0 where
  pub front : IsFront d w n k
  pub longest : (m : ℕ) (l : Kind) → IsFront d w m l → m ≤ n

-- no front of the text may be a token
abbrev pub HasNoFront : Dialect → List ℕ → Type 0
HasNoFront d w = (n : ℕ) (k : Kind) → IsFront d w n k → ⊥

-- What `longest` answers is the longest front that may be a token, with its kind; it answers none where there is none.
abbrev pub LongestIsFound : Type 0
LongestIsFound = (d : Dialect) (w : List ℕ) →
    ((n : ℕ) (k : Kind) → (longest d w (length w) ≡ Some (n, k)) ↔ IsLongest d w n k) × ((longest d w (length w) ≡ None) ↔ HasNoFront d w)

-- a token is the longest front of the text at its place, or it is the end
abbrev pub IsLongestIn : Dialect → List ℕ → Token → Type 0
IsLongestIn d bytes t =
    (t.kind ≡ End) ⊎ (IsLongest d (text_at bytes t.at) (length t.text) t.kind × (take (length t.text) (text_at bytes t.at) ≡ t.text))

-- Each token is the longest front of the text at its place.
abbrev pub TokensAreLongest : Type 0
TokensAreLongest = (d : Dialect) (limit : ℕ) (bytes : List ℕ) (e : Bool) → All (IsLongestIn d bytes) (tokens_of d limit bytes e).tokens

-- a token, or the beginning of one, has more characters than the limit
pub record IsOver (d : Dialect) (limit : ℕ) (w : List ℕ) : Type 0 where
  pub more : limit < length w
  pub front : ((k : Kind) × Shape d k (take (limit + 1) w)) ⊎ Live d (take (limit + 1) w)

-- the longest front has an escape that stands for no character
abbrev pub IsUnfit : Dialect → List ℕ → Type 0
IsUnfit d w = (n : ℕ) × (k : Kind) × IsLongest d w n k × (is_fit k (take n w) ≡ false)

-- why the tokens end with an outcome at a place of the bytes, of which more may come or none
abbrev pub EndsFor : Dialect → ℕ → List ℕ → Bool → Outcome → Place → Type 0
EndsFor d limit bytes e undecided p = (e ≡ false) × ((text_at bytes p ≡ []) ⊎ Live d (text_at bytes p))
EndsFor d limit bytes e complete p = (e ≡ true) × (p.offset ≡ length bytes)
EndsFor d limit bytes e token_too_long p = IsOver d limit (text_at bytes p)
EndsFor d limit bytes e bad_utf8 p = (p.offset ≡ utf8_valid_len bytes) × (utf8_valid_len bytes < length bytes)
EndsFor d limit bytes e no_token p = (text_at bytes p ≢ []) × HasNoFront d (text_at bytes p)
EndsFor d limit bytes e bad_escape p = IsUnfit d (text_at bytes p)

-- Each outcome has its reason: where all was read, its place is the input's length; where bytes are no UTF-8, the first byte after those that are;
-- where there is no token, no front of the text there has a shape; and where it is undecided, nothing stands there, or the beginning of a shape.
abbrev pub OutcomesHaveReasons : Type 0
OutcomesHaveReasons = (d : Dialect) (limit : ℕ) (bytes : List ℕ) (e : Bool) →
    EndsFor d limit bytes e (tokens_of d limit bytes e).outcome (tokens_of d limit bytes e).at

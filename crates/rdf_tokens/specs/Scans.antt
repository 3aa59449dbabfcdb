-- What a scanner has read, and what its calls give.
use Rattle.std.specs.Prelude.{◌≡◌, ◌≢◌, ℕ, zero, suc, ◌<◌, ◌≤◌, ◌+◌, ◌-◌, ◌*◌, ◌/◌, min, max, Bool, true, false, cond, List, [], ◌∷◌, ◌++◌, ◌⊎◌, length, take, drop, get_or, encode_utf8_all, ⊤, Option, Some, None, Result, Ok, Err}
use Rattle.std.specs.Str.{chars}
use Rattle.rdf_terms.specs.declared.kind.Dialect.{Dialect}
use Rattle.rdf_terms.specs.declared.kind.Kind.TheVariants.{End}
use Rattle.rdf_terms.specs.declared.reason.Reason.{Reason}
use Rattle.rdf_terms.specs.declared.reason.Reason.TheVariants.{BadUtf8, NoToken, BadEscape, TokenTooLong, DocumentTooLong, Memory, Ended}
use Rattle.rdf_terms.specs.Runs.{PassBetween, is_name_byte, is_unescaped}
use Rattle.rdf_terms.specs.Shapes.{Shape}
use Rattle.rdf_terms.specs.Terms.{all_have}
use Rattle.rdf_terms.specs.Values.{is_fit}
use Rattle.rdf_tokens.specs.declared.token.Token.{Token as Given}
use Rattle.rdf_tokens.specs.declared.token.Fault.{Fault}
use Rattle.rdf_tokens.specs.Tokens.{Place, Outcome, Token, Reading, with_tokens}
use Rattle.rdf_tokens.specs.Tokens.Tail.{broken}
use Rattle.rdf_tokens.specs.Tokens.Outcome.{undecided, token_too_long, bad_utf8, no_token, bad_escape}
use Rattle.rdf_tokens.specs.Good.{good, tail_of, end_of, tokens_at, tokens_of}
pub use Rattle.rdf_tokens.specs.Good.{most_bytes, is_end}
use Rattle.rdf_tokens.specs.Unread.{Unread}

-- what is still to be read, where these bytes come, and whether they are the last
abbrev pub reading_by : Bool → Unread → List ℕ → Bool → Reading
reading_by true v more is_end = tokens_at v.dialect v.limit broken v.begun v.comment v.place v.text
reading_by false v more is_end =
    tokens_at v.dialect v.limit (tail_of (v.pending ++ more) is_end) v.begun v.comment v.place (v.text ++ good (v.pending ++ more))

-- what is still to be read of a scanner's input, where these bytes come and are the last or not
abbrev pub reading_of : Unread → List ℕ → Bool → Reading
reading_of v more is_end = reading_by v.broken v more is_end

-- Whatever comes, the tokens are these, and then what is read of the text that is left. Once it has stopped, they are all.
abbrev pub Reads : Bool → Bool → Unread → List ℕ → List Token → Type 0
Reads true e v bytes ts = ((tokens_of v.dialect v.limit bytes e).tokens ≡ ts) × ((tokens_of v.dialect v.limit bytes e).outcome ≢ undecided)
Reads false true v bytes ts = tokens_of v.dialect v.limit bytes true ≡ with_tokens ts (reading_of v [] true)
Reads false false v bytes ts = (more : List ℕ) (e : Bool) → tokens_of v.dialect v.limit (bytes ++ more) e ≡ with_tokens ts (reading_of v more e)

-- The scanner has taken these bytes and has given these tokens.
pub record HasScanned (v : Unread) (bytes : List ℕ) (ts : List Token) : Type 0 where
  pub taken : v.taken ≡ end_of bytes
  pub reads : Reads v.stopped v.ended v bytes ts

-- a token that the scanner gives, by its characters
abbrev pub token_of : Given → Token
token_of t = record { kind = t.kind; text = chars t.text.now; at = record { offset = t.offset; line = t.line } }

-- a name without a backslash, whose first colon stands at this place, after ASCII letters, digits, '_' and '-' or after nothing
pub record IsPlainName (bs : List ℕ) (colon : ℕ) : Type 0 where
  pub within : colon < length bs
  pub is : get_or bs colon 0 ≡ 58
  pub before : PassBetween is_name_byte bs 0 colon
  pub after : all_have is_unescaped (drop (colon + 1) bs) ≡ true

-- what the place after a token's colon says of its bytes; 0 says nothing
abbrev pub KnowsColon : List ℕ → ℕ → Type 0
KnowsColon bs zero = ⊤
KnowsColon bs (suc n) = IsPlainName bs n

-- it is so of the colon that comes with a token
abbrev pub KnowsItsColon : Given → Type 0
KnowsItsColon t = KnowsColon t.text.now t.colon

-- the byte offset and the line that an error reports
abbrev pub place_of : Fault → Place
place_of f = record { offset = f.offset; line = f.line }

-- a token of the dialect: End is empty, and any other has the shape of its kind and fit escapes
abbrev pub IsToken : Dialect → Token → Type 0
IsToken d t = ((t.kind ≡ End) × (t.text ≡ [])) ⊎ (Shape d t.kind t.text × (is_fit t.kind t.text ≡ true))

-- the dialect and the limit stay
pub record SameScan (old new : Unread) : Type 0 where
  pub dialect : new.dialect ≡ old.dialect
  pub limit : new.limit ≡ old.limit

-- neither stopped nor ended: bytes may come
pub record IsOpen (v : Unread) : Type 0 where
  pub running : v.stopped ≡ false
  pub more : v.ended ≡ false

-- how many bytes were taken of which no token was given, but those that can begin no character
abbrev pub unread_bytes : Unread → ℕ
unread_bytes v = length (encode_utf8_all v.text) + length v.pending

-- the most of them: a token of one character more than the limit, and a character that has not come whole
abbrev pub most_unread : ℕ → ℕ
most_unread limit = 4 * (limit + 1) + 3

-- nothing changes but how much is held of the text that was read
abbrev pub SameButHeld : Unread → Unread → Type 0
SameButHeld old new = new ≡ record old { held = new.held }

-- how many of so many bytes are taken
abbrev pub fitting : Unread → ℕ → ℕ
fitting v n = min n (min (most_bytes - v.taken.offset) (most_unread v.limit - unread_bytes v))

-- the most bytes that are taken at once: tokens are found sooner in a text that has no more bytes than the limit
abbrev pub at_once : ℕ → ℕ
at_once limit = max 512 (min 65536 (limit / 2))

-- Bytes may come, and all tokens that those so far decide were given. What is left is the beginning of a token within the limit, and of a character.
pub record IsWaiting (v : Unread) : Type 0 where
  pub running : v.stopped ≡ false
  pub more : v.ended ≡ false
  pub few : unread_bytes v ≤ 4 * v.limit + 3

-- how many tokens can still be given, at most
abbrev pub left : Unread → ℕ
left v = length v.text + cond v.stopped 0 1

-- n bytes of the piece were taken: as many as fit, and some where there is room
pub record TakesBytes (old : Unread) (piece : List ℕ) (n : ℕ) (new : Unread) : Type 0 where
  pub same : SameScan old new
  pub before : IsOpen old
  pub after : IsOpen new
  pub within : n ≤ length piece
  pub count : n ≡ fitting old (min (length piece) (at_once old.limit))
  pub progress : unread_bytes old < most_unread old.limit → 0 < length piece → 0 < n
  pub most : new.taken.offset ≤ most_bytes
  pub read : (bytes : List ℕ) (ts : List Token) → HasScanned old bytes ts → HasScanned new (bytes ++ take n piece) ts

-- why a piece was not taken
abbrev pub RefusesFor : Reason → Unread → List ℕ → Place → Unread → Type 0
RefusesFor Ended old piece at new = ((old.stopped ≡ true) ⊎ (old.ended ≡ true)) × (new ≡ old)
RefusesFor DocumentTooLong old piece at new =
    IsOpen old × (0 < length piece) × (old.taken.offset ≡ most_bytes) × (at ≡ old.taken) × (new.stopped ≡ true) × SameScan old new
RefusesFor Memory old piece at new = IsOpen old × (new.stopped ≡ true) × SameScan old new
RefusesFor r old piece at new = ⊥

-- what a push does
abbrev pub Pushes : Unread → List ℕ → Result ℕ Fault → Unread → Type 0
Pushes old piece (Ok n) new = TakesBytes old piece n new
Pushes old piece (Err f) new = RefusesFor f.reason old piece (place_of f) new

-- the next token was given
pub record GivesToken (old : Unread) (t : Token) (new : Unread) : Type 0 where
  pub same : SameScan old new
  pub before : old.stopped ≡ false
  pub ended : new.ended ≡ old.ended
  pub token : IsToken old.dialect t
  pub less : left new < left old
  pub stops : new.stopped ≡ cond (is_end t.kind) true false
  pub read : (bytes : List ℕ) (ts : List Token) → HasScanned old bytes ts → HasScanned new bytes (ts ++ t ∷ [])

-- White space before the next token was passed, or nothing.
pub record PassesBlank (old new : Unread) : Type 0 where
  pub same : SameScan old new
  pub ended : new.ended ≡ old.ended
  pub stopped : new.stopped ≡ old.stopped
  pub less : left new ≤ left old
  pub read : (bytes : List ℕ) (ts : List Token) → HasScanned old bytes ts → HasScanned new bytes ts

-- all tokens that the bytes decide were given
pub record Waits (old new : Unread) : Type 0 where
  pub same : SameScan old new
  pub before : IsOpen old
  pub after : IsWaiting new
  pub read : (bytes : List ℕ) (ts : List Token) → HasScanned old bytes ts → HasScanned new bytes ts
      × ((tokens_of old.dialect old.limit bytes false).tokens ≡ ts) × ((tokens_of old.dialect old.limit bytes false).outcome ≡ undecided)

-- no token stands at the place of the stop
pub record Stops (old : Unread) (o : Outcome) (at : Place) (new : Unread) : Type 0 where
  pub same : SameScan old new
  pub before : old.stopped ≡ false
  pub after : new.stopped ≡ true
  pub ended : new.ended ≡ old.ended
  pub read : (bytes : List ℕ) (ts : List Token) → HasScanned old bytes ts → HasScanned new bytes ts
      × (tokens_of old.dialect old.limit bytes old.ended ≡ record { tokens = ts; outcome = o; at = at })

-- why there is no next token
abbrev pub StopsFor : Reason → Unread → Place → Unread → Type 0
StopsFor Ended old at new = (old.stopped ≡ true) × (new ≡ old)
StopsFor BadUtf8 old at new = Stops old bad_utf8 at new
StopsFor NoToken old at new = Stops old no_token at new
StopsFor BadEscape old at new = Stops old bad_escape at new
StopsFor TokenTooLong old at new = Stops old token_too_long at new
StopsFor r old at new = ⊥

-- what next gives
abbrev pub Gives : Unread → Result (Option Given) Fault → Unread → Type 0
Gives old (Ok (Some t)) new = GivesToken old (token_of t) new × KnowsItsColon t
Gives old (Ok None) new = Waits old new
Gives old (Err f) new = StopsFor f.reason old (place_of f) new

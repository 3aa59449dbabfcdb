-- What the steps of a scanner do to what it has still to read.
use Rattle.std.specs.Prelude.{◌≡◌, ◌||◌, ℕ, Bool, true, false, cond, List, [], ◌++◌, ◌⊎◌, ◌+◌, ◌==◌, ◌≤◌, length, count_by, take, drop, not, is_some, None}
use Rattle.std.specs.Str.Lossy.{utf8_valid_len, utf8_error_len}
use Rattle.rdf_terms.specs.declared.kind.Kind.{Kind}
use Rattle.rdf_terms.specs.declared.kind.Kind.TheVariants.{End, LineEnd, LongString}
use Rattle.rdf_terms.specs.declared.reason.Reason.{Reason}
use Rattle.rdf_terms.specs.declared.reason.Reason.TheVariants.{BadUtf8}
use Rattle.rdf_tokens.specs.Tokens.{Tail, Place, Token, past, is_empty, blank, with_tokens}
use Rattle.rdf_tokens.specs.Tokens.Tail.{goes_on, ended, broken}
use Rattle.rdf_tokens.specs.Good.{good, tokens_at}
use Rattle.rdf_tokens.specs.Scans.{KnowsItsColon, token_of}
use Rattle.rdf_tokens.specs.declared.token.Token.{Token as Given}
use Rattle.rdf_tokens.specs.Front.{bytes_of}
use Rattle.rdf_tokens.specs.Unread.{Unread}

-- bytes that begin a character, which has not come whole, or none
pub record BeginsChar (bytes : List ℕ) : Type 0 where
  pub none_whole : utf8_valid_len bytes ≡ 0
  pub may_come : utf8_error_len bytes ≡ None

-- the bytes of the good text
abbrev pub good_bytes : List ℕ → List ℕ
good_bytes bytes = take (utf8_valid_len bytes) bytes

-- the bytes after the good text
abbrev pub rest_of_bytes : List ℕ → List ℕ
rest_of_bytes bytes = drop (utf8_valid_len bytes) bytes

-- they can begin no character
abbrev pub is_broken : List ℕ → Bool
is_broken bytes = is_some (utf8_error_len (rest_of_bytes bytes))

-- the place after some bytes
abbrev pub beyond : Place → List ℕ → Place
beyond p bytes = record { offset = p.offset + length bytes; line = p.line + count_by (λ b. b == 10) bytes }

-- a piece came after bytes that begin no character
abbrev pub counted : Unread → List ℕ → Unread
counted v piece = record v { taken = beyond v.taken piece }

-- a piece came after bytes that are good, or may become so
abbrev pub lengthened : Unread → List ℕ → Unread
lengthened v piece = record v {
  text = v.text ++ good (v.pending ++ piece);
  pending = cond (is_broken (v.pending ++ piece)) [] (rest_of_bytes (v.pending ++ piece));
  broken = is_broken (v.pending ++ piece);
  taken = beyond v.taken piece;
}

-- a piece came
abbrev pub grown : Unread → List ℕ → Unread
grown v piece = cond v.broken (counted v piece) (lengthened v piece)

-- no more bytes come
abbrev pub closed : Unread → Unread
closed v = cond v.stopped v (record v { ended = true })

-- what comes after the text, as far as it is known
abbrev pub tail_now : Unread → Tail
tail_now v = cond v.broken broken (cond v.ended (cond (is_empty v.pending) ended broken) goes_on)

-- a tail and characters that may come after the text: only what is known, once it is known
abbrev pub MayCome : Unread → Tail → List ℕ → Type 0
MayCome v t x = ((t ≡ tail_now v) × (x ≡ [])) ⊎ ((v.broken ≡ false) × (v.ended ≡ false))

-- the reader stands at another place of the text
abbrev pub moved : Unread → Place → Bool → Bool → List ℕ → Unread
moved v p begun comment text = record v { place = p; begun = begun; comment = comment; text = text }

-- The token of n characters was given, and the reader stands after it.
pub record IsGiven (old : Unread) (k : Kind) (n : ℕ) (t : Token) (new : Unread) : Type 0 where
  pub token : t ≡ record { kind = k; text = take n old.text; at = old.place }
  pub moved_on : new ≡ moved old (past old.place (take n old.text)) old.begun false (drop n old.text)

-- it is so of the token of so many bytes
abbrev pub GivesBytes : Unread → Kind → ℕ → Token → Unread → Type 0
GivesBytes old k len t new = (n : ℕ) → len ≡ bytes_of n old.text → IsGiven old k n t new

-- and the colon of the token that is given is right
abbrev pub GivesWithColon : Unread → Kind → ℕ → Given → Unread → Type 0
GivesWithColon old k len t new = GivesBytes old k len (token_of t) new × KnowsItsColon t

-- The end was given, and the reader has stopped.
pub record IsEndGiven (old : Unread) (t : Token) (new : Unread) : Type 0 where
  pub token : t ≡ record { kind = End; text = []; at = old.place }
  pub stopped : new ≡ record old { stopped = true }

-- and it is no name
abbrev pub GivesEnd : Unread → Given → Unread → Type 0
GivesEnd old t new = IsEndGiven old (token_of t) new × KnowsItsColon t

-- the reader stands so many bytes on
abbrev pub MovesBytes : Unread → ℕ → Unread → Type 0
MovesBytes old len new = (n : ℕ) → len ≡ bytes_of n old.text → new ≡ moved old (past old.place (take n old.text)) old.begun old.comment (drop n old.text)

-- a kind whose texts have no line feed
abbrev pub is_flat : Kind → Bool
is_flat LineEnd = false
is_flat LongString = false
is_flat k = true

-- the place of a fault
abbrev pub fault_place : Reason → Place → List ℕ → Place
fault_place BadUtf8 p w = past p w
fault_place r p w = p

-- some text is there, or nothing more comes
abbrev pub is_settled : Unread → Bool
is_settled v = not (is_empty v.text) || (v.broken || v.ended)

-- the text begins with no white space and no comment
pub record Stands (v : Unread) : Type 0 where
  pub begun : v.begun ≡ true
  pub bare : blank v.dialect v.comment v.text ≡ 0

-- these tokens were read
pub record Moves (old : Unread) (ts : List Token) (new : Unread) : Type 0 where
  pub same : new ≡ moved old new.place new.begun new.comment new.text
  pub less : length new.text ≤ length old.text
  pub on : (t : Tail) (x : List ℕ) → MayCome old t x →
      tokens_at old.dialect old.limit t old.begun old.comment old.place (old.text ++ x)
      ≡ with_tokens ts (tokens_at old.dialect old.limit t new.begun new.comment new.place (new.text ++ x))

-- The place of a refusal in its line, and the bytes of that line near it.
use Prim.Native.Char.{code}
use Rattle.std.specs.Prelude.{◌≡◌, ◌≤◌, ℕ, ◌+◌, ◌-◌, ◌/◌, ◌==◌, Bool, cond, List, [], ◌∷◌, ◌++◌, length, take, drop, Option, IfSome, Result, Err}
use Rattle.rdf_terms.specs.declared.kind.Dialect.{Dialect}
use Rattle.rdf_tokens.specs.Good.{tokens_of}
use Rattle.rdf_driver.specs.declared.summary.Summary.{Summary}
use Rattle.rdf_stream.specs.Devices.{HasGiven, Reading}
use Rattle.rdf_stream.specs.declared.fault.StreamFault.{StreamFault}
use Rattle.rdf_stream.specs.declared.fault.StreamFault.TheVariants.{Refused}
use Rattle.rdf_diagnostics.specs.declared.sight.Sight.{Sight}
use Rattle.rdf_diagnostics.specs.Sights.{IsSight}
use Rattle.rdf_stream.specs.Brackets.{IsOpenBefore}
use Rattle.rdf_stream.specs.declared.brackets.Opened.{Opened}
use Rattle.rdf_stream.specs.declared.brackets.TokenPlace.{TokenPlace}
use Rattle.rdf_stream.specs.declared.watch.Nearby.{Nearby}
use Rattle.rdf_stream.specs.declared.watch.Nearby.TheVariants.{Unasked, Asked, Told}

-- a line feed
abbrev pub is_feed : ℕ → Bool
is_feed b = b == code "\n"

-- a byte that goes on with a character (RFC 3629, section 3)
abbrev pub goes_on : ℕ → Bool
goes_on b = b / 64 == 2

-- the column after a byte, by the one before it: a line feed begins a line, and each other byte a character, but one that goes on with it
abbrev pub next_column : ℕ → ℕ → ℕ
next_column n b = cond (is_feed b) 1 (cond (goes_on b) n (n + 1))

-- the column after some bytes, in characters; the first of a line is 1
abbrev pub column_after : ℕ → List ℕ → ℕ
column_after n [] = n
column_after n (b ∷ bs) = column_after (next_column n b) bs

-- what the line has after some bytes, by what it had before them
abbrev pub line_after : List ℕ → List ℕ → List ℕ
line_after line [] = line
line_after line (b ∷ bs) = line_after (cond (is_feed b) [] (line ++ b ∷ [])) bs

-- the bytes up to the next line feed
abbrev pub line_rest : List ℕ → List ℕ
line_rest [] = []
line_rest (b ∷ bs) = cond (is_feed b) [] (b ∷ line_rest bs)

-- how many bytes of a line are told of at most, in front of a place and from it on
abbrev pub reach : ℕ
reach = 244

-- the last bytes of a list, so many at most
abbrev pub last_of : ℕ → List ℕ → List ℕ
last_of n bs = drop (length bs - n) bs

-- a place of a document: its column, in characters from 1 on; the bytes of its line in front of it and from it on; what stands there; and the
-- innermost bracket that is open, where it is told
pub record NearRead : Type 0 where
  pub column : ℕ
  pub before : List ℕ
  pub after : List ℕ
  pub sight : Sight
  pub bracket : Option Opened

-- A bracket as it is told: its kind, its line, and its column, where this is told.
pub record IsTold (bytes : List ℕ) (place : TokenPlace) (told : Opened) : Type 0 where
  pub kind : told.kind ≡ place.kind
  pub line : told.line ≡ place.line
  pub column : IfSome told.column (λ n. n ≡ column_after 1 (take place.offset bytes))

-- The innermost bracket that is open before the token at this byte.
pub record IsOpenBracket (dialect : Dialect) (limit : ℕ) (bytes : List ℕ) (is_end : Bool) (offset : ℕ) (told : Opened) : Type 0 where
  pub place : TokenPlace
  pub before : IsOpenBefore (tokens_of dialect limit bytes is_end) offset place
  pub tells : IsTold bytes place told

-- The bytes of a document, as far as they have come, have a place there: its column, the bytes of its line near it, and what stands there, where the bytes
-- from there on are read by themselves; where a bracket is told, it is the innermost that is open before the token at the place.
pub record IsNear (dialect : Dialect) (limit : ℕ) (bytes : List ℕ) (is_end : Bool) (offset : ℕ) (near : NearRead) : Type 0 where
  pub within : offset ≤ length bytes
  pub column : near.column ≡ column_after 1 (take offset bytes)
  pub before : near.before ≡ last_of reach (line_after [] (take offset bytes))
  pub after : near.after ≡ take reach (line_rest (drop offset bytes))
  pub sight : IsSight dialect limit (drop offset bytes) is_end near.sight
  pub bracket : IfSome near.bracket (IsOpenBracket dialect limit bytes is_end offset)

-- What is told of the place of a refusal, by the bytes that the source gave; of no other fault is anything told.
abbrev pub TellsNear : Dialect → ℕ → Result Summary StreamFault → Option (List ℕ) → Reading → NearRead → Type 0
TellsNear dialect limit (Err (Refused f)) known left near = (given : HasGiven known left) × IsNear dialect limit given.bytes left.has_ended f.offset near
TellsNear dialect limit result known left near = ⊥

-- Where the place is asked for, what is told of it now holds; where it is not, nothing is told.
abbrev pub HandsOut : {N : Type 0} → Nearby N → (N → Type 0) → Nearby N → Type 0
HandsOut Unasked tells new = new ≡ Unasked
HandsOut old tells Unasked = ⊥
HandsOut old tells Asked = Unit
HandsOut old tells (Told near) = tells near

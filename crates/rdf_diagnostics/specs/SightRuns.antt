-- What a scanner that looks at a place has seen.
use Prim.Native.Char.{code}
use Rattle.std.specs.Prelude.{◌≡◌, ◌≢◌, ℕ, ◌<◌, ◌≤◌, ◌-◌, Bool, false, List, [], ◌∷◌, ◌++◌, length, take, encode_utf8_all}
use Rattle.std.specs.Str.{IsCharBoundary}
use Rattle.std.specs.Str.Lossy.{utf8_valid_len}
use Rattle.rdf_terms.specs.declared.kind.Kind.TheVariants.{End}
use Rattle.rdf_terms.specs.declared.reason.Reason.{Reason}
use Rattle.rdf_terms.specs.declared.reason.Reason.TheVariants.{BadEscape as Bad, NoToken}
use Rattle.rdf_tokens.specs.Tokens.{Outcome, Token as Read, Reading}
use Rattle.rdf_tokens.specs.Tokens.Outcome.{undecided, no_token, bad_escape}
use Rattle.rdf_tokens.specs.Good.{tokens_of}
use Rattle.rdf_tokens.specs.Unread.{Unread}
use Rattle.rdf_tokens.specs.Scans.{HasScanned, IsWaiting, SameScan}
use Rattle.rdf_diagnostics.specs.declared.sight.Seen.{Seen}
use Rattle.rdf_diagnostics.specs.declared.sight.Seen.TheVariants.{Open, First, Nothing, Unfit, Other}
use Rattle.rdf_diagnostics.specs.Sights.{BeginsWith, HasNone, LeavesOpen}

-- it is decided, and it is neither a token nor that there is none nor that its escape is bad
abbrev pub IsOther : List Read → Outcome → Type 0
IsOther [] o = (o ≢ no_token) × (o ≢ undecided) × (o ≢ bad_escape)
IsOther (t ∷ ts) o = t.kind ≡ End

-- what a reading begins with
abbrev pub IsSeen : Reading → Seen → Type 0
IsSeen r Open = HasNone r undecided
IsSeen r (First k n) = BeginsWith r k n
IsSeen r Nothing = HasNone r no_token
IsSeen r (Unfit n) = HasNone r bad_escape × (r.at.offset ≡ n)
IsSeen r Other = IsOther r.tokens r.outcome

-- what is seen of a token
abbrev pub IsSeenOf : Read → Seen → Type 0
IsSeenOf t (First k n) = (t.kind ≡ k) × (k ≢ End) × (n ≡ length (encode_utf8_all t.text))
IsSeenOf t Other = t.kind ≡ End
IsSeenOf t s = ⊥

-- what is seen where a scanner stops for a reason, at this byte
abbrev pub seen_for : Reason → ℕ → Seen
seen_for NoToken n = Nothing
seen_for Bad n = Unfit n
seen_for reason n = Other

-- A scanner that had given no token was asked for one.
pub record Sees (old : Unread) (s : Seen) (new : Unread) : Type 0 where
  pub same : SameScan old new
  pub is : (bytes : List ℕ) → HasScanned old bytes [] → IsSeen (tokens_of old.dialect old.limit bytes old.ended) s
  pub waits : s ≡ Open → IsWaiting new
  pub read : s ≡ Open → (bytes : List ℕ) → HasScanned old bytes [] → HasScanned new bytes []

-- One that waits was told whether more bytes come.
abbrev pub SeesEnd : Unread → Bool → Seen → Type 0
SeesEnd old is_end s = (bytes : List ℕ) → HasScanned old bytes [] → HasNone (tokens_of old.dialect old.limit bytes false) undecided →
    IsSeen (tokens_of old.dialect old.limit bytes is_end) s

-- First it took n bytes of a piece, at least one of a piece that is not empty.
pub record SeesPart (old : Unread) (piece : List ℕ) (n : ℕ) (s : Seen) (new : Unread) : Type 0 where
  pub same : SameScan old new
  pub within : n ≤ length piece
  pub forward : 0 < length piece → 0 < n
  pub is : (bytes : List ℕ) → HasScanned old bytes [] → IsSeen (tokens_of old.dialect old.limit (bytes ++ take n piece) false) s
  pub waits : s ≡ Open → IsWaiting new
  pub read : s ≡ Open → (bytes : List ℕ) → HasScanned old bytes [] → HasScanned new (bytes ++ take n piece) []

-- A scanner has taken a space and the first n of these bytes, and they leave the first token open.
pub record HasTaken (v : Unread) (bytes : List ℕ) (n : ℕ) : Type 0 where
  pub front : LeavesOpen v.dialect v.limit bytes n
  pub waiting : IsWaiting v
  pub scanned : HasScanned v (code " " ∷ take n bytes) []

-- A scanner that had taken a space before them found a token at this byte: it stands at a character of theirs.
pub record StandsFrom (rest : List ℕ) (offset : ℕ) : Type 0 where
  pub some : 0 < offset
  pub within : offset - 1 ≤ utf8_valid_len rest
  pub boundary : IsCharBoundary (take (utf8_valid_len rest) rest) (offset - 1)

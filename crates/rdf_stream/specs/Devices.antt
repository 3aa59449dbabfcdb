-- Readers and writers as a caller sees them: by the bytes that they have left or hold, where these are known.
use Rattle.std.specs.Prelude.{◌≡◌, ◌<◌, ℕ, Bool, true, false, List, ◌++◌, length, Option, MatchResult}
use Rattle.std.specs.Io.KnownBytes.{Appends, Consumes, IsAtEnd}
use Rattle.std.specs.declared.result.Result.{Result}

-- a reader: the bytes that are left, how many the last call gave, whether a call has reported its end, and whether one has failed
pub record Reading : Type 0 where
  pub remaining : Option (List ℕ)
  pub last : ℕ
  pub has_ended : Bool
  pub has_failed : Bool

-- a source as a reader
abbrev pub reading : {S : Type 0} → (S → Option (List ℕ)) → (S → ℕ) → (S → Bool) → (S → Bool) → S → Reading
reading remaining last ended failed s = record { remaining = remaining s; last = last s; has_ended = ended s; has_failed = failed s }

-- An answer of no bytes where there was room reports the end, and no other answer does.
abbrev pub ReportsEnd : {E : Type 0} → Result ℕ E → List ℕ → Bool → Type 0
ReportsEnd r buf ended =
    MatchResult r (λ n. (n ≡ 0 → 0 < length buf → ended ≡ true) × ((n ≡ 0 → length buf ≡ 0) → ended ≡ false)) (λ _. ended ≡ false)

-- a writer: the bytes that were written, whether a call has failed, and whether it was flushed since the last byte
pub record Written : Type 0 where
  pub contents : Option (List ℕ)
  pub has_failed : Bool
  pub is_flushed : Bool

-- the bytes grew by a beginning of these
abbrev pub AppendsFront : Option (List ℕ) → Option (List ℕ) → List ℕ → Type 0
AppendsFront old new bytes = (front : List ℕ) × (rest : List ℕ) × (bytes ≡ front ++ rest) × Appends old new front

-- The bytes grew, or stayed as they were.
pub record Grows (old new : Option (List ℕ)) : Type 0 where
  pub more : List ℕ
  pub added : Appends old new more

-- What a source that has not failed has given: these bytes, and none is left where it has reported its end.
pub record HasGiven (known : Option (List ℕ)) (left : Reading) : Type 0 where
  pub bytes : List ℕ
  pub consumed : Consumes known left.remaining bytes
  pub ended : left.has_ended ≡ true → IsAtEnd left.remaining
  pub live : left.has_failed ≡ false

-- The source failed, and had not reported its end.
abbrev pub HasBroken : Reading → Type 0
HasBroken left = (left.has_failed ≡ true) × (left.has_ended ≡ false)

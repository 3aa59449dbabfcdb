-- What reading a source by pieces does to what takes them. A run has taken some bytes from a first state on.
use Rattle.std.specs.Prelude.{◌≡◌, ◌⊎◌, ◌≤◌, ℕ, Bool, true, false, List, [], ◌++◌, length, Option, Some}
use Rattle.std.specs.Io.KnownBytes.{Consumes, IsAtEnd}
use Rattle.rdf_stream.specs.declared.fault.StreamFault.{StreamFault}
use Rattle.rdf_stream.specs.declared.fault.StreamFault.TheVariants.{Read}
use Rattle.rdf_stream.specs.Devices.{HasBroken, HasGiven, Reading}

-- a source of which all bytes were given, and whose end was reported or not
abbrev pub at_end : Bool → Reading
at_end ended = record { remaining = Some []; last = 0; has_ended = ended; has_failed = false }

-- some bytes were taken
abbrev pub HasBegun : {R : Type 0} → (R → List ℕ → R → Type 0) → R → Type 0
HasBegun {R} taken now = (first : R) × (bytes : List ℕ) × taken first bytes now

-- A piece more was taken, whatever was taken before.
abbrev pub TakesMore : {R : Type 0} → (R → List ℕ → R → Type 0) → R → List ℕ → R → Type 0
TakesMore {R} taken old piece new = (first : R) (bytes : List ℕ) → taken first bytes old → taken first (bytes ++ piece) new

-- What stayed up to one state stays up to another.
abbrev pub StaysOn : {R : Type 0} → (R → R → Type 0) → R → R → Type 0
StaysOn {R} stays old new = (first : R) → stays first old → stays first new

-- All bytes so far, as a function of those before, are not read on, whatever was taken before.
abbrev pub HaltsOn : {R : Type 0} → (R → List ℕ → R → Type 0) → (StreamFault → R → List ℕ → Bool → R → Type 0)
    → StreamFault → R → (List ℕ → List ℕ) → Bool → R → Type 0
HaltsOn {R} taken halts f old so_far is_end new = (first : R) (bytes : List ℕ) → taken first bytes old → halts f first (so_far bytes) is_end new

-- The bytes are all that there are, and were read, whatever was taken before.
abbrev pub ReadsEnd : {R T : Type 0} → (R → List ℕ → R → Type 0) → (T → R → List ℕ → R → Type 0) → T → R → R → Type 0
ReadsEnd {R} {T} taken ends summary old new = (first : R) (bytes : List ℕ) → taken first bytes old → ends summary first bytes new

-- All bytes of the source were read.
pub record ReadsAll {R T : Type 0} (ends : T → R → List ℕ → R → Type 0)
    (known : Option (List ℕ)) (left : Reading) (summary : T) (first now : R) : Type 0 where
  pub bytes : List ℕ
  pub consumed : Consumes known left.remaining bytes
  pub reported : left.has_ended ≡ true
  pub at_end : IsAtEnd left.remaining
  pub is_end : ends summary first bytes now

-- The source failed after these bytes, which were taken.
pub record SourceFails {R : Type 0} (taken : R → List ℕ → R → Type 0) (known : Option (List ℕ)) (left : Reading) (first now : R) : Type 0 where
  pub bytes : List ℕ
  pub consumed : Consumes known left.remaining bytes
  pub broken : HasBroken left
  pub is_taken : taken first bytes now

-- What a source gave before its last fill was taken when it was asked for more, and what stays from then on has stayed.
pub record TakenBefore {R : Type 0} (taken : R → List ℕ → R → Type 0) (stays : R → R → Type 0) (known : Option (List ℕ)) (left : Reading) (first now : R) : Type 0 where
  -- the bytes given before the last fill, and by it
  pub before : List ℕ
  pub piece : List ℕ
  pub consumed : Consumes known left.remaining (before ++ piece)
  pub few : length piece ≤ left.last
  pub at_fill : R
  pub is_taken : taken first before at_fill
  pub stays_on : StaysOn stays at_fill now

-- Why a source was not read to its end: it failed, or what takes the pieces did not read on.
abbrev pub ReadStops : {R : Type 0} → (R → List ℕ → R → Type 0) → (StreamFault → R → List ℕ → Bool → R → Type 0)
    → StreamFault → Option (List ℕ) → Reading → R → R → Type 0
ReadStops taken halts f known left first now =
    ((f ≡ Read) × SourceFails taken known left first now) ⊎ ((given : HasGiven known left) × halts f first given.bytes left.has_ended now)

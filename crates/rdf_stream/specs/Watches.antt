-- What a run keeps of the bytes that it has read, and what it tells of the place of a refusal.
use Rattle.std.specs.Prelude.{◌≡◌, ℕ, Bool, List, Option, None, Some, IfSome, true, false}
use Rattle.std.specs.Io.KnownBytes.{Consumes}
use Rattle.rdf_stream.specs.declared.fault.StreamFault.{StreamFault}
use Rattle.rdf_stream.specs.declared.fault.StreamFault.TheVariants.{Refused}
use Rattle.rdf_stream.specs.declared.watch.Watching.{Watching}
use Rattle.rdf_stream.specs.declared.watch.Words.{Words}
use Rattle.rdf_stream.specs.Devices.{Reading}
use Rattle.rdf_stream.specs.Kept.{Watches}
use Rattle.rdf_stream.specs.Places.{IsNear, IsTold, NearRead}
use Rattle.rdf_stream.specs.Opening.{HasOpen}
use Rattle.rdf_stream.specs.declared.brackets.Opened.{Opened}
use Rattle.rdf_stream.specs.declared.brackets.TokenPlace.{TokenPlace}
use Rattle.rdf_stream.specs.declared.watch.Nearby.{Nearby}
use Rattle.rdf_stream.specs.declared.watch.Nearby.TheVariants.{Unasked}

-- the place is asked for
abbrev pub is_asked : {N : Type 0} → Nearby N → Bool
is_asked Unasked = false
is_asked near = true

-- so it is where something is kept, and so it is of the brackets where they are kept
abbrev pub WatchesAll : {A : Type 0} → Watching A → List ℕ → Type 0
WatchesAll w bytes = IfSome w.watch (λ watch. Watches watch bytes × IfSome w.brackets (λ b. HasOpen b w.words.dialect w.words.limit bytes))

-- what is told of a bracket that is open, where one is
abbrev pub IsToldOf : List ℕ → Option TokenPlace → Option Opened → Type 0
IsToldOf bytes None told = told ≡ None
IsToldOf bytes (Some place) told = IfSome told (IsTold bytes place)

-- a refusal, and what is told of its place
abbrev pub IsNearFault : Words → StreamFault → List ℕ → Bool → NearRead → Type 0
IsNearFault words (Refused f) bytes is_end near = IsNear words.dialect words.limit bytes is_end f.offset near
IsNearFault words fault bytes is_end near = ⊥

-- What was kept is of the bytes that the source gave.
pub record Follows {A : Type 0} (known : Option (List ℕ)) (left : Reading) (watching : Watching A) : Type 0 where
  pub bytes : List ℕ
  pub consumed : Consumes known left.remaining bytes
  pub kept : WatchesAll watching bytes
  pub untold : watching.near ≡ None

-- What loading a file of bindings from a source does.
use Rattle.std.specs.Prelude.{◌≡◌, ℕ, true, false, List, Option}
use Rattle.std.specs.Io.KnownBytes.{Consumes, IsAtEnd}
use Rattle.rdf_iri.specs.Limits.{Sizes}
use Rattle.rdf_iri.specs.Bindings.{BindingMap, FailsAt, IsReadFrom}
use Rattle.rdf_stream.specs.declared.fault.LoadFault.{LoadFault}
use Rattle.rdf_stream.specs.declared.fault.LoadFault.TheVariants.{Read, Memory, Bad}
use Rattle.rdf_stream.specs.Devices.{HasBroken, HasGiven, Reading}

-- These are all bytes that the source had, and it has reported its end.
pub record HasGivenAll (known : Option (List ℕ)) (left : Reading) (bytes : List ℕ) : Type 0 where
  pub consumed : Consumes known left.remaining bytes
  pub at_end : IsAtEnd left.remaining
  pub ended : left.has_ended ≡ true
  pub live : left.has_failed ≡ false

-- All bytes of the source are a file of bindings within the limits, and these are its bindings.
abbrev pub Loads : Sizes → Option (List ℕ) → Reading → BindingMap → Type 0
Loads sizes known left b = (bytes : List ℕ) × HasGivenAll known left bytes × IsReadFrom sizes bytes b

-- why a source was not read to its end: it failed, or memory was refused
abbrev pub ReadsNot : LoadFault → Option (List ℕ) → Reading → Type 0
ReadsNot (Bad f) known left = ⊥
ReadsNot Read known left = HasBroken left × (bytes : List ℕ) × Consumes known left.remaining bytes
ReadsNot Memory known left = HasGiven known left

-- why the bytes of a file give no bindings: a line of them fails, or memory was refused
abbrev pub BindsNot : LoadFault → Sizes → List ℕ → Type 0
BindsNot (Bad f) sizes bytes = FailsAt f.reason sizes bytes f.line
BindsNot Read sizes bytes = ⊥
BindsNot Memory sizes bytes = Unit

-- Why no bindings were loaded: a line of all that the source had fails, the source failed, or memory was refused.
abbrev pub LoadStops : LoadFault → Sizes → Option (List ℕ) → Reading → Type 0
LoadStops (Bad f) sizes known left = (bytes : List ℕ) × HasGivenAll known left bytes × FailsAt f.reason sizes bytes f.line
LoadStops fault sizes known left = ReadsNot fault known left

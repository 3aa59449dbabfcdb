-- What sources and drains say of themselves, and clauses over a run from one to the other.
use Rattle.std.specs.Prelude.{ℕ, Bool, List, Option}
use Rattle.rdf_stream.specs.declared.devices.Source as source
use Rattle.rdf_stream.specs.declared.devices.Drain as drain
use Rattle.rdf_stream.specs.Devices.{Reading, Written, reading}

-- what a source is to its reader
abbrev pub told : {S : Type 0} → source.Ghosts S → S → Reading
told says s = reading says.remaining says.last says.has_ended says.has_failed s

-- what a drain is to its writer
abbrev pub written : {D : Type 0} → drain.Ghosts D → D → Written
written says d = record { contents = says.contents d; has_failed = says.has_failed d; is_flushed = says.is_flushed d }

-- The claim holds of the bytes that the source had and of what it tells now, of the bytes that the drain held and of those that it holds, and of
-- whether it has failed.
abbrev pub AsTold : {S D : Type 0} → (Option (List ℕ) → Reading → Option (List ℕ) → Option (List ℕ) → Bool → Type 0)
    → source.Ghosts S → drain.Ghosts D → S → S → D → D → Type 0
AsTold claim says takes from left old new = claim (says.remaining from) (told says left) (takes.contents old) (takes.contents new) (takes.has_failed new)

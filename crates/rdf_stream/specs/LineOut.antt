-- What a sink of lines does to the bytes of its drain and to those that wait for it.
use Rattle.std.specs.Prelude.{◌≡◌, ◌<◌, ℕ, Bool, true, false, List, [], ◌++◌, length, Option}
use Rattle.std.specs.Io.KnownBytes.{Appends}
use Rattle.rdf_stream.specs.Devices.{Grows}
use Rattle.rdf_stream.specs.declared.fault.StreamFault.{StreamFault}
use Rattle.rdf_stream.specs.declared.fault.StreamFault.TheVariants as fault
use Rattle.rdf_stream.specs.declared.line_out.LineOut.{LineOut}
use Rattle.rdf_stream.specs.Outputs.{Writer, output_of}

-- fewer bytes wait when a line has been put
abbrev pub most_waiting : ℕ
most_waiting = 65536

-- The drain took a front of the bytes.
pub record Moves (before after : Option (List ℕ)) (bytes rest : List ℕ) : Type 0 where
  pub front : List ℕ
  pub whole : bytes ≡ front ++ rest
  pub taken : Appends before after front

-- the form stays, and the graph, and where the bytes go
pub record SameOut {D A : Type 0} (before after : LineOut D A) : Type 0 where
  pub form : after.form ≡ before.form
  pub buffer : after.buffer.ghost_name ≡ before.buffer.ghost_name
  pub drain : after.drain.ghost_name ≡ before.drain.ghost_name

-- The same, and the drain only grows.
pub record OnlyGrows {D A : Type 0} (contents : D → Option (List ℕ)) (before after : LineOut D A) : Type 0 where
  pub same : SameOut before after
  pub grows : Grows (contents before.drain.now) (contents after.drain.now)

-- The drain took a front of the bytes that waited and of these, and the others wait.
abbrev pub Writes : {D A : Type 0} → (D → Option (List ℕ)) → LineOut D A → List ℕ → LineOut D A → Type 0
Writes contents before bytes after = Moves (contents before.drain.now) (contents after.drain.now) (before.buffer.now ++ bytes) after.buffer.now

-- What a put of some bytes does: they are written after the others.
pub record TakesBytes {D A : Type 0} (contents : D → Option (List ℕ)) (failed : D → Bool) (before : LineOut D A) (bytes : List ℕ) (after : LineOut D A) : Type 0 where
  pub same : SameOut before after
  pub writes : Writes contents before bytes after
  pub few : length before.buffer.now < most_waiting → length after.buffer.now < most_waiting
  pub live : failed after.drain.now ≡ false

-- what a refused put of them leaves: the drain took a beginning of all, and where it has not failed nothing of them
pub record LeavesBytes {D A : Type 0} (contents : D → Option (List ℕ)) (failed : D → Bool) (before : LineOut D A) (bytes : List ℕ) (after : LineOut D A) : Type 0 where
  pub same : SameOut before after
  pub rest : List ℕ
  pub moves : Moves (contents before.drain.now) (contents after.drain.now) (before.buffer.now ++ bytes) rest
  pub live : failed after.drain.now ≡ false → Writes contents before [] after

-- What a put of an item does: its line is written after the others.
pub record Takes {D A I : Type 0} (how : Writer I) (contents : D → Option (List ℕ)) (failed : D → Bool)
    (before : LineOut D A) (i : I) (after : LineOut D A) : Type 0 where
  pub formed : how.formed i
  pub put : TakesBytes contents failed before (how.line (output_of before.form) i) after

-- What a refused put leaves.
pub record Leaves {D A I : Type 0} (how : Writer I) (contents : D → Option (List ℕ)) (failed : D → Bool)
    (before : LineOut D A) (i : I) (after : LineOut D A) : Type 0 where
  pub formed : how.formed i
  pub left : LeavesBytes contents failed before (how.line (output_of before.form) i) after

-- What is reported of bytes that were not put, once all that waited was handed over: nothing of them was written, or where the drain failed, a beginning of
-- what waited and of them.
abbrev pub PutHalts : {D A : Type 0} → (D → Option (List ℕ)) → (D → Bool) → StreamFault → LineOut D A → List ℕ → LineOut D A → Type 0
PutHalts contents failed fault.Write before bytes after =
    (failed after.drain.now ≡ true) × (rest : List ℕ) × Moves (contents before.drain.now) (contents after.drain.now) (before.buffer.now ++ bytes) rest
PutHalts contents failed fault.Memory before bytes after =
    (failed after.drain.now ≡ false) × Appends (contents before.drain.now) (contents after.drain.now) before.buffer.now
PutHalts contents failed reported before bytes after = ⊥

-- What becomes of a task's output: a file that is there whole or not at all.
use Rattle.std.specs.Prelude.{◌≡◌, ◌≢◌, ◌⊎◌, ℕ, Bool, List, [], Option, Some, None, IfSome, option_map}
use Rattle.std.specs.String.{string_bytes}
use Rattle.clap.specs.Words.{Text}
use Rattle.rdf_stream.specs.Devices.{Reading, Written}
use Rattle.rdf_stream.specs.Messages.{report_text}
use Rattle.rdf_stream.specs.declared.fault.StreamFault.TheVariants.{Write}
use Rattle.rdf_command.specs.declared.host.NoOutput.{NoOutput}
use Rattle.rdf_command.specs.declared.host.NoOutput.TheVariants.{NotOpen}
use Rattle.rdf_command.specs.declared.task.Task.{Task}
use Rattle.rdf_command.specs.Reasons.{Devices, ReportsFailed, ReportsNoOutput, device, standard_output}
use Rattle.rdf_command.specs.Runs.{Ending, FilesRead, RunEnds, ending}
use Rattle.rdf_command.specs.Statuses.{output_status}

-- what can be told of files that are to be written
pub record Outputs : Type 1 where
  -- the file of this name has these bytes, where they are known
  pub has : Text → Option (List ℕ) → Type 0
  -- the file of this name is what it was before, if it was there
  pub is_left : Text → Type 0
  -- no output can be created for this name
  pub is_unwritable : Text → Type 0
  -- asked why no output was created for this name, or why it did not become that file, the host tells this, or nothing
  pub tells : Text → Option Text → Type 0
  -- an output in this state tells this reason of its failure, or none
  pub output : Written → Option Text → Type 0

-- the name of the file that the task writes, where it writes one
abbrev pub output_of : Task → Option Text
output_of t = option_map string_bytes t.output

-- the bytes, where they are known, are none
abbrev pub IsEmpty : Option (List ℕ) → Type 0
IsEmpty known = IfSome known (λ bytes. bytes ≡ [])

-- what the devices of a run tell whose sources tell this and whose lines go to such an output
abbrev pub into : Outputs → (Reading → Option Text → Type 0) → Devices
into says source = record { source = source; output = says.output }

-- The run of the task ended so, with an output of this name that was empty when it began.
abbrev pub RunsInto : Devices → Text → Task → Option (Option (List ℕ)) → Option (List ℕ) → FilesRead → ℕ → Written → Option (List ℕ) → Written → Type 0
RunsInto devices name t prefixes known left status output err_old err =
    (first : Option (List ℕ)) × IsEmpty first × RunEnds devices name t prefixes known left (ending status first output err_old err)

-- A file could not get its name, which the status and the text on the error output say, and it is what it was.
pub record NamesNot (says : Outputs) (asked : Bool) (name : Text) (status : ℕ) (err_old : Option (List ℕ)) (err : Written) : Type 0 where
  pub status_is : status ≡ 3
  pub is_left : says.is_left name
  pub reported : ReportsFailed asked (report_text Write) (device name (says.tells name)) err_old err.contents err.has_failed

module _ (says : Outputs) (source : Reading → Option Text → Type 0) (name : Text) (t : Task) (prefixes : Option (Option (List ℕ))) (known : Option (List ℕ))
    (left : FilesRead) (status : ℕ) (err_old : Option (List ℕ)) (err : Written) where
  -- The task is done, and the file of this name has all that was written.
  pub record IsKept : Type 0 where
    pub output : Written
    pub ends : RunsInto (into says source) name t prefixes known left 0 output err_old err
    pub status_is : status ≡ 0
    pub has : says.has name output.contents

  -- The run stopped, and the file of this name is what it was.
  pub record IsDiscarded : Type 0 where
    pub output : Written
    pub ends : RunsInto (into says source) name t prefixes known left status output err_old err
    pub stopped : status ≢ 0
    pub is_left : says.is_left name

  -- The run is done, but what was written could not get the name.
  pub record IsUnnamed : Type 0 where
    pub output : Written
    pub err_then : Written
    pub ends : RunsInto (into says source) name t prefixes known left 0 output err_old err_then
    pub unnamed : NamesNot says t.explain name status err_then.contents err

  -- what became of that file, and of the task
  abbrev pub IsFiled : Type 0
  IsFiled = IsKept ⊎ (IsDiscarded ⊎ IsUnnamed)

-- No output was created for this name, which the status and the text on the error output say, and nothing was read.
pub record IsNotCreated (says : Outputs) (asked : Bool) (name : Text) (NothingRead : Type 0) (status : ℕ) (err_old : Option (List ℕ)) (err : Written) : Type 0 where
  pub why : NoOutput
  pub unwritable : why ≡ NotOpen → says.is_unwritable name
  pub unread : NothingRead
  pub status_is : status ≡ output_status why
  pub reported : ReportsNoOutput says.tells asked name why err_old err.contents err.has_failed

-- How a task that writes the file of this name ends, over documents of these bytes. Where they were read they tell this then.
abbrev pub EndsInto : Outputs → (Reading → Option Text → Type 0) → Text → Task → Option (Option (List ℕ)) → Option (List ℕ) → Option FilesRead → ℕ
    → Option (List ℕ) → Written → Type 0
EndsInto says source name t prefixes known files status err_old err =
    ((left : FilesRead) × (files ≡ Some left) × IsFiled says source name t prefixes known left status err_old err)
    ⊎ IsNotCreated says t.explain name (files ≡ None) status err_old err

-- how a task ends whose lines go to the output
abbrev pub EndsOnto : Devices → Task → Option (Option (List ℕ)) → Option (List ℕ) → Option FilesRead → Ending → Type 0
EndsOnto devices t prefixes known files e = (left : FilesRead) × (files ≡ Some left) × RunEnds devices standard_output t prefixes known left e

-- By the name of the file that the task writes: without one it ended so over the output, and else over that file, and nothing came to the output.
abbrev pub EndsTo : Option Text → Outputs → Devices → Task → Option (Option (List ℕ)) → Option (List ℕ) → Option FilesRead → Ending → Type 0
EndsTo None says devices t prefixes known files e = EndsOnto devices t prefixes known files e
EndsTo (Some name) says devices t prefixes known files e =
    EndsInto says devices.source name t prefixes known files e.status e.err_old e.err × (e.out.contents ≡ e.out_old)

-- What becomes of a run that goes on after bad lines, which go into a file of their own: it is there whole or not at all.
use Rattle.std.specs.Prelude.{◌≡◌, ◌⊎◌, ℕ, Bool, true, false, List, Option, Some, None, option_map, unwrap_or}
use Rattle.std.specs.String.{string_bytes}
use Rattle.clap.specs.Words.{Text}
use Rattle.rdf_stream.specs.declared.explains.Evidence.{Evidence}
use Rattle.rdf_stream.specs.Places.{NearRead}
use Rattle.rdf_stream.specs.declared.watch.Nearby.TheVariants.{Unasked}
use Rattle.rdf_stream.specs.Devices.{Reading, Written}
use Rattle.rdf_stream.specs.Expected.{NoDetails}
use Rattle.rdf_stream.specs.Jobs.{JobRead}
use Rattle.rdf_stream.specs.Languages.{conversion_of}
use Rattle.rdf_stream.specs.Skips.{SkipStops, SkipsAll}
use Rattle.rdf_stream.specs.declared.fault.StreamFault.{StreamFault}
use Rattle.rdf_stream.specs.declared.skips.SkipSummary.{SkipSummary}
use Rattle.rdf_command.specs.declared.task.Action.{Action}
use Rattle.rdf_command.specs.declared.task.Action.TheVariants.{Check}
use Rattle.rdf_command.specs.declared.task.Task.{Task}
use Rattle.rdf_command.specs.Outputs.{EndsTo, IsEmpty, IsNotCreated, NamesNot, Outputs, into, output_of}
use Rattle.rdf_command.specs.Reasons.{Devices, ReportsStop, broken, device, standard_output}
use Rattle.rdf_command.specs.Runs.{Ending, FilesRead, PrefixesStop, StartsWith, ending, job_of}
use Rattle.rdf_command.specs.Statuses.{ReportsCounts, skip_status, status_of}
use Rattle.rdf_command.specs.Words.{name_of}

-- the name of the file for bad lines, where the task has one
abbrev pub skip_of : Task → Option Text
skip_of t = option_map string_bytes t.skip

-- what such a run is told: what is done, whether a refusal is explained, the name of the document, that of the output, and that of the file for bad lines
pub record Told : Type 0 where
  pub action : Action
  pub explain : Bool
  pub document : Text
  pub output : Text
  pub bad : Text

-- what the output is called by the name of the file that the lines of quads go to, or without one
abbrev pub output_called : Option Text → Text
output_called name = unwrap_or name standard_output

-- what the run of a task is told, whose bad lines go into the file of this name
abbrev pub told_of : Task → Text → Told
told_of t bad = record { action = t.action; explain = t.explain; document = name_of t; output = output_called (output_of t); bad = bad }

-- The document was read to its end, with these counts: the lines of the quads of its good lines were written and flushed, and the file for bad lines
-- has the others.
pub record IsPutAside (says : Outputs) (how : Told) (job : JobRead) (known : Option (List ℕ)) (out_old : Option (List ℕ)) (out : Written) (s : SkipSummary) : Type 0 where
  pub first : Option (List ℕ)
  pub empty : IsEmpty first
  pub bad : Option (List ℕ)
  pub skips : SkipsAll (conversion_of job) known out_old out.contents first bad s
  pub flushed : out.is_flushed ≡ true
  pub has : says.has how.bad bad

-- The document was read to its end, but the file for bad lines could not get its name.
pub record LosesAside (says : Outputs) (how : Told) (job : JobRead) (known : Option (List ℕ)) (e : Ending) : Type 0 where
  pub s : SkipSummary
  pub first : Option (List ℕ)
  pub empty : IsEmpty first
  pub bad : Option (List ℕ)
  pub skips : SkipsAll (conversion_of job) known e.out_old e.out.contents first bad s
  pub unnamed : NamesNot says how.explain how.bad e.status e.err_old e.err

-- The document was read to its end, which the status and the line with the counts say.
pub record IsCounted (s : SkipSummary) (status : ℕ) (err_old : Option (List ℕ)) (err : Written) : Type 0 where
  pub status_is : status ≡ skip_status s
  pub reported : ReportsCounts s err_old err.contents err.has_failed

module _ (says : Outputs) (devices : Devices) (how : Told) (job : JobRead) (known : Option (List ℕ)) (left : Reading) (e : Ending) where
  -- The run stopped for a fault, which its status and the text on the error output say, and the file for bad lines is what it was. Where a write failed, the
  -- device is the output if that has failed, and else the file for bad lines.
  pub record StopsAside : Type 0 where
    pub fault : StreamFault
    pub first : Option (List ℕ)
    pub empty : IsEmpty first
    pub bad : Written
    pub stops : SkipStops fault (conversion_of job) known left e.out_old e.out.contents first bad.contents e.out.has_failed bad.has_failed
    pub status_is : e.status ≡ status_of fault
    pub is_left : says.is_left how.bad
    pub evidence : Evidence NearRead
    pub none : NoDetails evidence.details
    pub unasked : evidence.near ≡ Unasked
    pub reported : ReportsStop how.explain (device how.document (devices.source left))
        (broken e.out.has_failed (device how.output (devices.output e.out)) (device how.bad (says.output bad))) fault evidence e.err_old e.err.contents e.err.has_failed

  -- Bad lines were not put aside, and the file for them is what it was, or could not be created.
  abbrev pub NotPutAside : Type 0
  NotPutAside =
      StopsAside ⊎ (LosesAside says how job known e
      ⊎ ((e.out.contents ≡ e.out_old) × IsNotCreated says how.explain how.bad (left.remaining ≡ known) e.status e.err_old e.err))

  -- how such a run ends whose lines go to an output
  abbrev pub AsideOnto : Type 0
  AsideOnto = ((s : SkipSummary) × IsPutAside says how job known e.out_old e.out s × IsCounted s e.status e.err_old e.err) ⊎ NotPutAside

-- how such a run ends whose lines go to an output that is to be the file of this name
abbrev pub AsideInto : Text → Outputs → (Reading → Option Text → Type 0) → Told → JobRead → Option (List ℕ) → Reading → ℕ → Option (List ℕ) → Written → Type 0
AsideInto name says source how job known left status err_old err =
    ((first : Option (List ℕ)) × IsEmpty first × (output : Written)
    × (((s : SkipSummary) × IsPutAside says how job known first output s
    × ((says.has name output.contents × IsCounted s status err_old err) ⊎ NamesNot says how.explain name status err_old err))
    ⊎ (says.is_left name × NotPutAside says (into says source) how job known left (ending status first output err_old err))))
    ⊎ IsNotCreated says how.explain name (left.remaining ≡ known) status err_old err

-- How such a check ends: the lines of quads go to an output of which nothing is known. It does not fail, so no reason of it is told.
abbrev pub AsideOnly : Outputs → (Reading → Option Text → Type 0) → Told → JobRead → Option (List ℕ) → Reading → ℕ → Option (List ℕ) → Written → Type 0
AsideOnly says source how job known left status err_old err =
    (nothing : Written) × (nothing.contents ≡ None) × (nothing.has_failed ≡ false)
    × AsideOnto says (into says source) how job known left (ending status None nothing err_old err)

-- by the name of the file that the lines of quads go to: without one they went to the output, and else to that file, and nothing came to the output
abbrev pub AsideOut : Option Text → Outputs → Devices → Told → JobRead → Option (List ℕ) → Reading → Ending → Type 0
AsideOut None says devices how job known left e = AsideOnto says devices how job known left e
AsideOut (Some name) says devices how job known left e = (e.out.contents ≡ e.out_old) × AsideInto name says devices.source how job known left e.status e.err_old e.err

-- by what is done, and the name of that file: a check writes no line
abbrev pub AsideAt : Action → Option Text → Outputs → Devices → Told → JobRead → Option (List ℕ) → Reading → Ending → Type 0
AsideAt Check output says devices how job known left e = (e.out.contents ≡ e.out_old) × AsideOnly says devices.source how job known left e.status e.err_old e.err
AsideAt action output says devices how job known left e = AsideOut output says devices how job known left e

-- the same by what it is told
abbrev pub AsideBy : Option Text → Outputs → Devices → Told → JobRead → Option (List ℕ) → Reading → Ending → Type 0
AsideBy output says devices how = AsideAt how.action output says devices how

-- The document was read with the bindings to start with, and the run ended so; or the file of bindings was not loaded, which the status and the text on
-- the error output say, and nothing was written.
abbrev pub AsideEnds : Outputs → Devices → Text → Task → Option (Option (List ℕ)) → Option (List ℕ) → FilesRead → Ending → Type 0
AsideEnds says devices bad t prefixes known left e =
    ((bindings : List (List ℕ × List ℕ)) × StartsWith t.limits prefixes left.prefixes bindings
    × AsideBy (output_of t) says devices (told_of t bad) (job_of t bindings) known left.document e)
    ⊎ PrefixesStop devices t prefixes left.prefixes e

-- By the name of the file for bad lines: without one the task ended as it does where a bad line is refused, and else they were put aside.
abbrev pub EndsBySkip : Option Text → Outputs → Devices → Task → Option (Option (List ℕ)) → Option (List ℕ) → Option FilesRead → Ending → Type 0
EndsBySkip None says devices t prefixes known files e = EndsTo (output_of t) says devices t prefixes known files e
EndsBySkip (Some bad) says devices t prefixes known files e = (left : FilesRead) × (files ≡ Some left) × AsideEnds says devices bad t prefixes known left e

-- What is reported of a file or a device that failed, with the system's reason where an explanation is asked for.
use Rattle.std.specs.Prelude.{◌≡◌, ◌⊎◌, Bool, true, false, List, [], ◌++◌, Option, Some, None, codes, decimal, ℕ}
use Rattle.clap.specs.Words.{Text}
use Rattle.rdf_stream.specs.Devices.{Reading, Written}
use Rattle.rdf_stream.specs.Messages.{report_text}
use Rattle.rdf_stream.specs.Told.{told, written}
use Rattle.rdf_stream.specs.declared.devices.Drain as drain
use Rattle.rdf_stream.specs.declared.devices.Source as source
use Rattle.rdf_stream.specs.declared.explains.Evidence.{Evidence}
use Rattle.rdf_stream.specs.Places.{NearRead}
use Rattle.rdf_stream.specs.declared.fault.LoadFault.{LoadFault}
use Rattle.rdf_stream.specs.declared.fault.LoadFault.TheVariants as load
use Rattle.rdf_stream.specs.declared.fault.LoadFault.TheVariants.{Bad}
use Rattle.rdf_stream.specs.declared.fault.StreamFault.{StreamFault}
use Rattle.rdf_stream.specs.declared.fault.StreamFault.TheVariants.{Read, Write, Memory}
use Rattle.rdf_command.specs.declared.explains.Explains as explains
use Rattle.rdf_command.specs.declared.host.NoOutput.{NoOutput}
use Rattle.rdf_command.specs.declared.host.NoOutput.TheVariants as output
use Rattle.rdf_command.specs.Statuses.{Reports, ReportsExplained, ReportsExplainedOf, ReportsLoad, ReportsOf, prefixes_text}

-- what the sources and the output of a run tell of a failure, by what they tell of themselves then: this reason, or none
pub record Devices : Type 1 where
  pub source : Reading → Option Text → Type 0
  pub output : Written → Option Text → Type 0

-- a source that is in this state tells this reason of its failure, or none
abbrev pub source_tells : {S : Type 0} → source.Ghosts S → explains.Ghosts S → Reading → Option Text → Type 0
source_tells {S} says asked left why = (s : S) × (told says s ≡ left) × asked.tells s why

-- a drain that is in this state does
abbrev pub drain_tells : {D : Type 0} → drain.Ghosts D → explains.Ghosts D → Written → Option Text → Type 0
drain_tells {D} says asked left why = (d : D) × (written says d ≡ left) × asked.tells d why

abbrev pub devices_of : {S D : Type 0} → source.Ghosts S → explains.Ghosts S → drain.Ghosts D → explains.Ghosts D → Devices
devices_of reads asked writes asked_too = record { source = source_tells reads asked; output = drain_tells writes asked_too }

-- a device that failed: what it is called, and the reason that it gives when it is asked for one
pub record Device : Type 1 where
  pub name : Text
  pub tells : Option Text → Type 0

abbrev pub device : Text → (Option Text → Type 0) → Device
device name tells = record { name = name; tells = tells }

-- what the output is called where it is no file
abbrev pub standard_output : Text
standard_output = codes "standard output"

-- the first of two devices where it has failed, and else the second
abbrev pub broken : Bool → Device → Device → Device
broken true first second = first
broken false first second = second

-- of a device that is there, what it tells, and of none nothing
abbrev pub OneTells : {S : Type 0} → (S → Option Text → Type 0) → Option S → Option Text → Type 0
OneTells tells None why = why ≡ None
OneTells tells (Some s) why = tells s why

-- what a host tells of files that do not open: which they are, and the reason that it gives when it is asked for one; and what the devices of the run tell
pub record Shut : Type 1 where
  pub is : Text → Type 0
  pub tells : Text → Option Text → Type 0
  pub devices : Devices

-- the line with the name of the file and the reason, or nothing where there is none
abbrev pub reason_line : Text → Option Text → List ℕ
reason_line name None = []
reason_line name (Some why) = name ++ codes ": " ++ why ++ codes "\n"

-- What is reported by this line of a device that failed, where an explanation is asked for or not. The line of the reason takes memory, and is left out where
-- that is refused.
abbrev pub ReportsFailed : Bool → List ℕ → Device → Option (List ℕ) → Option (List ℕ) → Bool → Type 0
ReportsFailed false line d old new failed = Reports line old new failed
ReportsFailed true line d old new failed =
    (why : Option Text) × d.tells why × (Reports (line ++ reason_line d.name why) old new failed ⊎ Reports line old new failed)

-- the same of one of several documents, that of this name; where memory for its lines is refused, want of memory is reported in their place
abbrev pub ReportsFailedOf : Text → Bool → List ℕ → Device → Option (List ℕ) → Option (List ℕ) → Bool → Type 0
ReportsFailedOf name false line d old new failed = ReportsOf name line old new failed
ReportsFailedOf name true line d old new failed = (why : Option Text) × d.tells why × ReportsOf name (line ++ reason_line d.name why) old new failed

-- what is reported of a file of this name that did not open
abbrev pub ReportsShut : (Text → Option Text → Type 0) → Bool → Text → Option (List ℕ) → Option (List ℕ) → Bool → Type 0
ReportsShut tells asked name = ReportsFailed asked (codes "rdfconv: cannot open file\n") (device name (tells name))

-- the same of one of several documents
abbrev pub ReportsShutOf : (Text → Option Text → Type 0) → Bool → Text → Option (List ℕ) → Option (List ℕ) → Bool → Type 0
ReportsShutOf tells asked name = ReportsFailedOf name asked (codes "cannot open file\n") (device name (tells name))

-- what is reported where no output of this name was created
abbrev pub ReportsNoOutput : (Text → Option Text → Type 0) → Bool → Text → NoOutput → Option (List ℕ) → Option (List ℕ) → Bool → Type 0
ReportsNoOutput tells asked name output.NotOpen old new failed = ReportsShut tells asked name old new failed
ReportsNoOutput tells asked name output.Memory old new failed = Reports (report_text Memory) old new failed

-- What is reported of the fault of a run that reads this document and writes to this output, where an explanation is asked for or not.
abbrev pub ReportsStop : Bool → Device → Device → StreamFault → Evidence NearRead → Option (List ℕ) → Option (List ℕ) → Bool → Type 0
ReportsStop true document output Read evidence old new failed = ReportsFailed true (report_text Read) document old new failed
ReportsStop true document output Write evidence old new failed = ReportsFailed true (report_text Write) output old new failed
ReportsStop asked document output fault evidence old new failed = ReportsExplained asked document.name fault evidence old new failed

-- the same of one of several documents
abbrev pub ReportsStopOf : Bool → Device → Device → StreamFault → Evidence NearRead → Option (List ℕ) → Option (List ℕ) → Bool → Type 0
ReportsStopOf true document output Read evidence old new failed = ReportsFailedOf document.name true (codes "read failed\n") document old new failed
ReportsStopOf true document output Write evidence old new failed = ReportsFailedOf document.name true (codes "write failed\n") output old new failed
ReportsStopOf asked document output fault evidence old new failed = ReportsExplainedOf asked document.name fault evidence old new failed

-- the line that names the place of a bad line in a file of bindings of this name
abbrev pub bad_prefixes_text : Text → ℕ → List ℕ
bad_prefixes_text name line = name ++ codes ":" ++ decimal line ++ codes ": bad prefixes\n"

-- What is reported of a file of bindings that was not loaded, where an explanation is asked for or not. The line that names the place takes memory, and is
-- left out where that is refused.
abbrev pub ReportsBindings : Bool → Device → LoadFault → Option (List ℕ) → Option (List ℕ) → Bool → Type 0
ReportsBindings true file (Bad f) old new failed =
    Reports (prefixes_text f.line ++ bad_prefixes_text file.name f.line) old new failed ⊎ ReportsLoad (Bad f) old new failed
ReportsBindings true file load.Read old new failed = ReportsFailed true (report_text Read) file old new failed
ReportsBindings asked file fault old new failed = ReportsLoad fault old new failed

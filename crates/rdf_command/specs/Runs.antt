-- What a run of the program does.
use Rattle.std.specs.Prelude.{◌≡◌, ◌≢◌, ◌⊎◌, ℕ, Bool, true, false, List, [], ◌++◌, codes, decimal, Option, Some, None, IfSome, option_map, Err}
use Rattle.std.specs.String.{string_bytes}
use Rattle.clap.specs.Words.{Text}
use Rattle.std.specs.Io.KnownBytes.{Appends}
use Rattle.rdf_driver.specs.declared.summary.Summary.{Summary}
use Rattle.rdf_stream.specs.declared.explains.Evidence.{Evidence}
use Rattle.rdf_stream.specs.declared.watch.Nearby.{Nearby}
use Rattle.rdf_stream.specs.declared.watch.Nearby.TheVariants.{Unasked, Asked}
use Rattle.rdf_stream.specs.Places.{HandsOut, NearRead, TellsNear}
use Rattle.rdf_iri.specs.Limits.{Sizes}
use Rattle.rdf_terms.specs.declared.kind.Dialect.{Dialect}
use Rattle.rdf_stream.specs.Checks.{CheckStops, IsAccepted}
use Rattle.rdf_stream.specs.Converts.{IsConverted, IsPrompt, StopsFor}
use Rattle.rdf_stream.specs.declared.devices.Drain as drain
use Rattle.rdf_stream.specs.declared.devices.Source as source
use Rattle.rdf_stream.specs.Devices.{AppendsFront, Reading, Written}
use Rattle.rdf_stream.specs.Expected.{ExpectsFor, NoDetails, trees_of}
use Rattle.rdf_stream.specs.Faults.{IsSentOn}
use Rattle.rdf_stream.specs.Told.{told, written}
use Rattle.rdf_iri.specs.Bindings.{BindingMap}
use Rattle.rdf_stream.specs.Jobs.{JobRead, word_of}
use Rattle.rdf_stream.specs.Loads.{LoadStops, Loads}
use Rattle.rdf_stream.specs.declared.fault.LoadFault.{LoadFault}
use Rattle.rdf_stream.specs.Languages.{conversion_of, language_of}
use Rattle.rdf_stream.specs.Shows.{Shows, dialect_of, showing_of}
use Rattle.rdf_stream.specs.declared.fault.StreamFault.{StreamFault}
use Rattle.rdf_stream.specs.declared.fault.StreamFault.TheVariants.{Write, Memory}
use Rattle.rdf_command.specs.declared.task.Action.{Action}
use Rattle.rdf_command.specs.declared.task.Action.TheVariants.{Check, Show, Convert}
use Rattle.rdf_command.specs.declared.task.Task.{Task}
use Rattle.rdf_command.specs.declared.runs.Files.{Files}
use Rattle.rdf_command.specs.Reasons.{Device, Devices, OneTells, ReportsBindings, ReportsStop, device}
use Rattle.rdf_command.specs.Statuses.{load_status, status_of}
use Rattle.rdf_command.specs.Words.{name_by, name_of}

-- the job that a task asks for, with these bindings
abbrev pub job_of : Task → List (List ℕ × List ℕ) → JobRead
job_of t bindings = record { form = t.form; base = t.base; bindings = bindings; escapes = t.escapes; node_prefix = word_of t.node_prefix; graph = t.graph; limits = t.limits }

-- How a run ended: its status, the bytes that the output held before and what it tells now, and the same of the error output.
pub record Ending : Type 0 where
  pub status : ℕ
  pub out_old : Option (List ℕ)
  pub out : Written
  pub err_old : Option (List ℕ)
  pub err : Written

abbrev pub ending : ℕ → Option (List ℕ) → Written → Option (List ℕ) → Written → Ending
ending status out_old out err_old err = record { status = status; out_old = out_old; out = out; err_old = err_old; err = err }

-- The claim holds of the ending with this status and these outputs, as they were and as they are now.
abbrev pub AsWritten : {O E : Type 0} → (Ending → Type 0) → ℕ → drain.Ghosts O → drain.Ghosts E → O → O → E → E → Type 0
AsWritten claim status out err out_old out_new err_old err_new =
    claim (ending status (out.contents out_old) (written out out_new) (err.contents err_old) (written err err_new))

-- what sources that were read tell of themselves: that of the bindings, where there is one, and that of the document
pub record FilesRead : Type 0 where
  pub prefixes : Option Reading
  pub document : Reading

-- what these files tell
abbrev pub files_told : {I : Type 0} → source.Ghosts I → Files I → FilesRead
files_told says files = record { prefixes = option_map (told says) files.prefixes; document = told says files.document }

-- no call was made of these sources
pub record AreFresh {I : Type 0} (has_ended has_failed : I → Bool) (files : Files I) : Type 0 where
  pub prefixes : IfSome files.prefixes (λ s. (has_ended s ≡ false) × (has_failed s ≡ false))
  pub more : has_ended files.document ≡ false
  pub live : has_failed files.document ≡ false

-- the line that says what is in an accepted document
abbrev pub accepted_text : Summary → List ℕ
accepted_text s = codes "accepted, " ++ decimal s.quads ++ codes " quads, " ++ decimal s.bytes ++ codes " bytes\n"

-- what stands in front of a line about a document: nothing, or its name, a colon and a space
abbrev pub front_of : Option (List ℕ) → List ℕ
front_of None = []
front_of (Some name) = name ++ codes ": "

-- The bytes are a document within the limits, and the line that counts what is in it was written, with its name in front if it has one.
abbrev pub IsCheckedAs : Option (List ℕ) → JobRead → List ℕ → Option (List ℕ) → Option (List ℕ) → Type 0
IsCheckedAs name job bytes old new = (s : Summary) × IsAccepted (language_of job) bytes s × Appends old new (front_of name ++ accepted_text s)

-- Memory was refused: while the document was read, or for the line that counts what is in it.
abbrev pub LacksMemory : JobRead → Option (List ℕ) → Reading → Type 0
LacksMemory job known left =
    CheckStops Memory (language_of job) known left ⊎ IfSome known (λ bytes. (s : Summary) × IsAccepted (language_of job) bytes s)

-- Why a check stopped. The line was not written, but for a beginning where the drain failed.
abbrev pub StopsCheckAs : Option (List ℕ) → StreamFault → JobRead → Option (List ℕ) → Reading → Option (List ℕ) → Option (List ℕ) → Bool → Type 0
StopsCheckAs name Write job known left old new write_failed =
    (write_failed ≡ true) × IfSome known (λ bytes. (s : Summary) × IsAccepted (language_of job) bytes s × AppendsFront old new (front_of name ++ accepted_text s))
StopsCheckAs name Memory job known left old new write_failed = LacksMemory job known left × (new ≡ old)
StopsCheckAs name fault job known left old new write_failed = CheckStops fault (language_of job) known left × (new ≡ old)

-- what an accepted document brings
abbrev pub Does : Action → JobRead → List ℕ → Option (List ℕ) → Option (List ℕ) → Type 0
Does Check job bytes old new = IsCheckedAs None job bytes old new
Does Show job bytes old new = (s : Summary) × Shows job bytes old new s
Does Convert job bytes old new = IsConverted (conversion_of job) bytes old new

-- why a run stopped, and what it had written
abbrev pub StopsAction : Action → StreamFault → JobRead → Option (List ℕ) → Reading → Option (List ℕ) → Option (List ℕ) → Bool → Type 0
StopsAction Check fault job known left old new write_failed = StopsCheckAs None fault job known left old new write_failed
StopsAction Show fault job known left old new write_failed = StopsFor fault (showing_of job) known left old new write_failed
StopsAction Convert fault job known left old new write_failed = StopsFor fault (conversion_of job) known left old new write_failed

-- a conversion hands over each line before it asks for more, and so does what shows tokens
abbrev pub HandsOver : Action → JobRead → Option (List ℕ) → Reading → Option (List ℕ) → Option (List ℕ) → Type 0
HandsOver Convert job known left old new = IsPrompt (conversion_of job) known left old new
HandsOver Show job known left old new = IsPrompt (showing_of job) known left old new
HandsOver Check job known left old new = Unit

-- after a refusal what was written has been flushed; a check has written nothing
abbrev pub SendsOn : Action → StreamFault → Bool → Type 0
SendsOn Check fault flushed = Unit
SendsOn action fault flushed = IsSentOn fault flushed

-- the place of a refusal, which is asked for with an explanation
abbrev pub asked_near : Bool → Nearby NearRead
asked_near true = Asked
asked_near false = Unasked

-- What is told of the place of a fault, in these tokens of a source, where an explanation is asked for; and the limits of the job.
abbrev pub TellsPlace : Bool → Dialect → ℕ → StreamFault → JobRead → Option (List ℕ) → Reading → Evidence NearRead → Type 0
TellsPlace asked dialect limit fault job known left evidence =
    HandsOut (asked_near asked) (TellsNear dialect limit (Err fault) known left) evidence.near × (evidence.limits ≡ job.limits)

-- the same of a document, and what is known of a token that was unexpected
abbrev pub TellsOf : Bool → StreamFault → JobRead → Option (List ℕ) → Reading → Evidence NearRead → Type 0
TellsOf asked fault job known left evidence =
    ExpectsFor fault (language_of job) (trees_of job) known left evidence.details
    × TellsPlace asked (language_of job).dialect (language_of job).limit fault job known left evidence

-- What is known of a fault. `show` looks at tokens alone, and knows nothing of one that was unexpected.
abbrev pub TellsEvidence : Bool → Action → StreamFault → JobRead → Option (List ℕ) → Reading → Evidence NearRead → Type 0
TellsEvidence asked Show fault job known left evidence =
    NoDetails evidence.details × TellsPlace asked (dialect_of job.form) job.limits.token fault job known left evidence
TellsEvidence asked action fault job known left evidence = TellsOf asked fault job known left evidence

-- The document was accepted, and what the task asks for was written and flushed.
abbrev pub IsDone : Task → List (List ℕ × List ℕ) → Option (List ℕ) → Option (List ℕ) → Written → Type 0
IsDone t bindings known out_old out = IfSome known (λ bytes. Does t.action (job_of t bindings) bytes out_old out.contents) × (out.is_flushed ≡ true)

-- The run stopped for a fault, which its status and the text on the error output say, with what is known of its place and of an unexpected token, or the reason of the device
-- that failed, where the task asks for an explanation. The output has this name.
pub record RunStops (devices : Devices) (name : Text) (t : Task) (bindings : List (List ℕ × List ℕ)) (known : Option (List ℕ)) (source : Reading) (e : Ending) : Type 0 where
  pub fault : StreamFault
  pub status_is : e.status ≡ status_of fault
  pub stops : StopsAction t.action fault (job_of t bindings) known source e.out_old e.out.contents e.out.has_failed
  pub sent : SendsOn t.action fault e.out.is_flushed
  pub evidence : Evidence NearRead
  pub expected : TellsEvidence t.explain t.action fault (job_of t bindings) known source evidence
  pub reported : ReportsStop t.explain (device (name_of t) (devices.source source)) (device name (devices.output e.out)) fault evidence
      e.err_old e.err.contents e.err.has_failed

-- A run with these bindings, over a source of these bytes, left the source and the two outputs like this: it is done at 0, and else it stopped.
-- In either case no line waited while more was asked for.
abbrev pub DocumentEnds : Devices → Text → Task → List (List ℕ × List ℕ) → Option (List ℕ) → Reading → Ending → Type 0
DocumentEnds devices name t bindings known source e =
    (e.status ≡ 0 → IsDone t bindings known e.out_old e.out) × (e.status ≢ 0 → RunStops devices name t bindings known source e)
    × HandsOver t.action (job_of t bindings) known source e.out_old e.out.contents

-- The bindings that a document starts with: none, or those of a file of these bytes, whose source tells this then.
abbrev pub StartsWith : Sizes → Option (Option (List ℕ)) → Option Reading → List (List ℕ × List ℕ) → Type 0
StartsWith sizes None left bindings = bindings ≡ []
StartsWith sizes (Some known) None bindings = ⊥
StartsWith sizes (Some known) (Some left) bindings = (b : BindingMap) × Loads sizes known left b × (bindings ≡ b.bindings)

-- Why there are no bindings to start with: the file of these bytes was not loaded, and its source tells this then.
abbrev pub StartsNot : LoadFault → Sizes → Option (Option (List ℕ)) → Option Reading → Type 0
StartsNot fault sizes (Some known) (Some left) = LoadStops fault sizes known left
StartsNot fault sizes prefixes left = ⊥

-- the file of bindings of a task, and the reason that its source gives, which tells this of itself
abbrev pub bindings_device : Devices → Task → Option Reading → Device
bindings_device devices t left = device (name_by (option_map string_bytes t.prefixes)) (OneTells devices.source left)

-- The file of bindings was not loaded, which the status and the text on the error output say, and nothing was written.
pub record PrefixesStop (devices : Devices) (t : Task) (prefixes : Option (Option (List ℕ))) (left : Option Reading) (e : Ending) : Type 0 where
  pub fault : LoadFault
  pub stops : StartsNot fault t.limits prefixes left
  pub status_is : e.status ≡ load_status fault
  pub unwritten : e.out.contents ≡ e.out_old
  pub reported : ReportsBindings t.explain (bindings_device devices t left) fault e.err_old e.err.contents e.err.has_failed

-- The document was read with the bindings to start with, and the run ended so; or there are none to start with. The files tell this then.
abbrev pub RunEnds : Devices → Text → Task → Option (Option (List ℕ)) → Option (List ℕ) → FilesRead → Ending → Type 0
RunEnds devices name t prefixes known left e =
    ((bindings : List (List ℕ × List ℕ)) × StartsWith t.limits prefixes left.prefixes bindings × DocumentEnds devices name t bindings known left.document e)
    ⊎ PrefixesStop devices t prefixes left.prefixes e

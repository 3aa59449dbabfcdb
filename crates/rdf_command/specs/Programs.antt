-- What the whole program does, over what it is started with: words, standard input and files, as the program's host says.
use Rattle.std.specs.Prelude.{◌≡◌, ◌⊎◌, ℕ, Bool, true, false, List, [], ◌∷◌, Option, Some, None, option_map, ⊤}
use Rattle.std.specs.String.{string_bytes}
use Rattle.clap.specs.Words.{Text}
use Rattle.clap.specs.declared.builder.value_parser.ValueParser.{ValueParser}
use Rattle.clap.specs.declared.error.kind.ErrorKind.TheVariants.{InvalidValue}
use Rattle.rdf_stream.specs.Devices.{Reading, Written}
use Rattle.rdf_stream.specs.declared.form.Form.{Form}
use Rattle.rdf_options.specs.Options.{rdfconv}
use Rattle.rdf_terms.specs.declared.fault.TermFault.{TermFault}
use Rattle.rdf_terms.specs.declared.fault.TermFault.TheVariants.{BadTerm}
use Rattle.rdf_command.specs.declared.host.Host as host
use Rattle.rdf_command.specs.declared.task.Document.{Document}
use Rattle.rdf_command.specs.declared.task.Task.{Task}
use Rattle.rdf_command.specs.declared.task.WordsFault.{WordsFault}
use Rattle.rdf_command.specs.declared.task.WordsFault.TheVariants.{Memory}
use Rattle.rdf_command.specs.Addresses.{Folders, IsAddress, IsFolderFor, LacksAddress}
use Rattle.rdf_command.specs.Asides.{EndsBySkip, skip_of}
use Rattle.rdf_command.specs.BadIris.{RefusesWith, lines_for}
use Rattle.rdf_command.specs.Outputs.{Outputs}
use Rattle.rdf_command.specs.Reasons.{Devices, ReportsShut, Shut}
use Rattle.rdf_command.specs.Runs.{Ending, FilesRead, PrefixesStop}
use Rattle.rdf_command.specs.Several.{EndsEach, GivesBindings}
use Rattle.rdf_command.specs.Statuses.{GoesTo, Reports, address_status, address_text}
use Rattle.rdf_command.specs.Words.{GivesNone, GivesTask, IsUsageOf, TakesFormats, further_of, name_of}

-- These words give the task, as the command line of the program defines it.
abbrev pub IsTaskOf : List Text → Task → Type 0
IsTaskOf words t = (formats : ValueParser) × TakesFormats formats × GivesTask (rdfconv formats) words t

-- These words give no task, for this reason.
abbrev pub IsNoTaskOf : List Text → WordsFault → Type 0
IsNoTaskOf words fault = (formats : ValueParser) × TakesFormats formats × GivesNone (rdfconv formats) words fault

-- the words of the command line give the task
abbrev pub IsGiven : (List Text → Type 0) → Task → Type 0
IsGiven has_words t = (words : List Text) × has_words words × IsTaskOf words t

-- These are the lines that report and explain a fault of these words, or there are none.
abbrev pub IsToldBy : List Text → WordsFault → Option (List ℕ) → Type 0
IsToldBy words fault lines = (formats : ValueParser) × TakesFormats formats × (lines ≡ lines_for (rdfconv formats) words fault)

-- the words of the command line give no task, for this reason, of which these lines tell where there are any
abbrev pub GiveNone : (List Text → Type 0) → WordsFault → Option (List ℕ) → Type 0
GiveNone has_words fault lines = (words : List Text) × has_words words × IsNoTaskOf words fault × IsToldBy words fault lines

-- There is no task: the words give none, one of them is no UTF-8, or memory was refused.
abbrev pub IsNotGiven : (List Text → Type 0) → Type 0 → WordsFault → Option (List ℕ) → Type 0
IsNotGiven has_words has_bad_word fault lines =
    GiveNone has_words fault lines ⊎ ((lines ≡ None) × ((has_bad_word × IsUsageOf InvalidValue fault) ⊎ (fault ≡ Memory)))

-- the name of the file that the task reads, where it reads one
abbrev pub file_of : Task → Option Text
file_of t = option_map string_bytes t.file

-- the name of the file of bindings, where the task has one
abbrev pub prefixes_of : Task → Option Text
prefixes_of t = option_map string_bytes t.prefixes

-- the file of bindings of this name has these bytes, where there is a name and the bytes are known
abbrev pub HasPrefixes : (Option Text → Option (List ℕ) → Type 0) → Option Text → Option (Option (List ℕ)) → Type 0
HasPrefixes has_document None None = ⊤
HasPrefixes has_document (Some path) (Some known) = has_document (Some path) known
HasPrefixes has_document name known = ⊥

-- A file that the task names so did not open, which the status and the text on the error output say, and nothing was written.
pub record IsNotOpen (shut : Shut) (t : Task) (Names : Text → Type 0) (e : Ending) : Type 0 where
  pub path : Text
  pub named : Names path
  pub does_not : shut.is path
  pub status_is : e.status ≡ 3
  pub unwritten : e.out.contents ≡ e.out_old
  pub reported : ReportsShut shut.tells t.explain path e.err_old e.err.contents e.err.has_failed

-- What the task names was opened, the file of bindings where there is one, and the document, its file or else standard input; and the run of the
-- task over these ended so, with the files given back, whose lines went to the output or to a file, and bad ones to a file where that is asked for. Or a
-- file did not open.
abbrev pub OneEnds : (Option Text → Option (List ℕ) → Type 0) → Shut → Outputs → Task → Option FilesRead → Ending → Type 0
OneEnds has_document shut says t files e =
    ((prefixes : Option (Option (List ℕ))) × (known : Option (List ℕ)) × HasPrefixes has_document (prefixes_of t) prefixes
    × has_document (file_of t) known × EndsBySkip (skip_of t) says shut.devices t prefixes known files e)
    ⊎ IsNotOpen shut t (λ path. (prefixes_of t ≡ Some path) ⊎ (file_of t ≡ Some path)) e

-- A base was asked for and there is none, for this cause or for want of memory, which the status and the text on the error output say, and nothing was written.
pub record HasNoBase (Cause : Type 0) (e : Ending) : Type 0 where
  pub fault : TermFault
  pub why : fault ≡ BadTerm → Cause
  pub status_is : e.status ≡ address_status fault
  pub unwritten : e.out.contents ≡ e.out_old
  pub reported : Reports (address_text fault) e.err_old e.err.contents e.err.has_failed

-- By whether the base is to be the document's address: if so, it ended as the same task with this base does, or there is no such base and nothing was read.
abbrev pub OneEndsAt : Bool → Folders → (Option Text → Option (List ℕ) → Type 0) → Shut → Outputs → Task → Option FilesRead → Ending → Type 0
OneEndsAt false folders has_document shut says t files e = OneEnds has_document shut says t files e
OneEndsAt true folders has_document shut says t files e =
    ((folder : Text) × (base : List ℕ) × folders.is folder × IsAddress t.limits.iri folder (file_of t) base
    × OneEnds has_document shut says (record t { base = Some base }) files e)
    ⊎ ((files ≡ None) × HasNoBase (LacksAddress folders t.limits.iri (file_of t)) e)

-- all documents of a task, each with its format and its name
abbrev pub documents_of : Task → List (Form × Text)
documents_of t = (t.form, name_of t) ∷ further_of t.more.items

-- The file of bindings was read, where there is one, and the documents were checked in turn, from the folder where addresses are asked for.
pub record ChecksEach (folders : Folders) (has_document : Option Text → Option (List ℕ) → Type 0) (shut : Shut) (t : Task) (e : Ending) : Type 0 where
  pub prefixes : Option (Option (List ℕ))
  pub opened : HasPrefixes has_document (prefixes_of t) prefixes
  pub bytes : Option (List ℕ)
  pub given : GivesBindings t.limits prefixes bytes
  pub folder : Option Text
  pub found : IsFolderFor folders t.addressed folder
  pub ends : EndsEach has_document shut (record { base = t.base; folder = folder; limits = t.limits; explain = t.explain; prefixes = bytes }) (documents_of t) e

-- The file of bindings was opened and gave none, and no document was read.
pub record ChecksNone (has_document : Option Text → Option (List ℕ) → Type 0) (shut : Shut) (t : Task) (e : Ending) : Type 0 where
  pub prefixes : Option (Option (List ℕ))
  pub opened : HasPrefixes has_document (prefixes_of t) prefixes
  pub left : Option Reading
  pub none : PrefixesStop shut.devices t prefixes left e

-- How a check of several documents ends: each was checked, or there are no bindings, their file did not open, or addresses are asked for and there is no
-- folder that names start from.
abbrev pub SeveralEnd : Folders → (Option Text → Option (List ℕ) → Type 0) → Shut → Task → Ending → Type 0
SeveralEnd folders has_document shut t e =
    ChecksEach folders has_document shut t e
    ⊎ (ChecksNone has_document shut t e
    ⊎ (IsNotOpen shut t (λ path. prefixes_of t ≡ Some path) e ⊎ ((t.addressed ≡ true) × HasNoBase folders.is_untold e)))

-- By the documents after the first: without any the task is run over its document, and else each is checked, and no file is given back.
abbrev pub EndsBy : List Document → Folders → (Option Text → Option (List ℕ) → Type 0) → Shut → Outputs → Task → Option FilesRead → Ending → Type 0
EndsBy [] folders has_document shut says t files e = OneEndsAt t.addressed folders has_document shut says t files e
EndsBy (d ∷ ds) folders has_document shut says t files e = (files ≡ None) × SeveralEnd folders has_document shut t e

-- how a task ends
abbrev pub TaskEnds : Folders → (Option Text → Option (List ℕ) → Type 0) → Shut → Outputs → Task → Option FilesRead → Ending → Type 0
TaskEnds folders has_document shut says t = EndsBy t.more.items folders has_document shut says t

-- The words give a task, which ended so; or they give none, which the status and the text on an output say.
abbrev pub ProgramEnds : (List Text → Type 0) → Type 0 → Folders → (Option Text → Option (List ℕ) → Type 0) → Shut → Outputs → Option FilesRead → Ending → Type 0
ProgramEnds has_words has_bad_word folders has_document shut says files e =
    ((task : Task) × IsGiven has_words task × TaskEnds folders has_document shut says task files e)
    ⊎ ((fault : WordsFault) × (lines : Option (List ℕ)) × IsNotGiven has_words has_bad_word fault lines
    × RefusesWith lines fault e.status e.err_old e.err.contents e.err.has_failed × GoesTo fault e.out_old e.out.contents e.err_old e.err.contents)

-- what a host tells of files that are to be written
abbrev pub outputs_of : {H I O : Type 0} → host.Ghosts H I O → H → (Written → Option Text → Type 0) → Outputs
outputs_of host h output =
    record { has = host.has_output h; is_left = host.is_left h; is_unwritable = host.is_unwritable h; tells = host.has_reason h; output = output }

-- what a host tells of files that do not open, where a run has these devices
abbrev pub shut_of : {H I O : Type 0} → host.Ghosts H I O → H → Devices → Shut
shut_of says h devices = record { is = says.is_shut h; tells = says.has_reason h; devices = devices }

-- what a host tells of the folder that names start from
abbrev pub folders_of : {H I O : Type 0} → host.Ghosts H I O → H → Folders
folders_of host h = record { is = host.has_folder h; is_untold = host.has_no_folder h }

-- The program ended so over what its host starts it with: the words, the documents, the files that do not open, and those that it writes. These devices, and
-- these files that are written, tell the reasons of their failures.
abbrev pub HostEnds : {H I O : Type 0} → host.Ghosts H I O → H → Devices → (Written → Option Text → Type 0) → Option FilesRead → Ending → Type 0
HostEnds says h devices output files =
    ProgramEnds (says.has_words h) (says.has_bad_word h) (folders_of says h) (says.has_document h) (shut_of says h devices) (outputs_of says h output) files

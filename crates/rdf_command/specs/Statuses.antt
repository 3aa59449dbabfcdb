-- The status that the program exits with, and the texts that it writes.
use Rattle.std.specs.Prelude.{◌≡◌, ◌≢◌, ◌⊎◌, ◌==◌, ℕ, Bool, true, false, List, [], ◌++◌, Option, codes, cond, decimal}
use Rattle.std.specs.Io.KnownBytes.{Appends}
use Rattle.std.specs.String.{string_bytes}
use Rattle.clap.specs.Words.{kind_of}
use Rattle.clap.specs.declared.error.kind.ErrorKind.{ErrorKind}
use Rattle.clap.specs.declared.error.kind.ErrorKind.TheVariants.{DisplayHelp, DisplayVersion}
use Rattle.rdf_stream.specs.Devices.{AppendsFront}
use Rattle.rdf_stream.specs.declared.explains.Evidence.{Evidence}
use Rattle.rdf_stream.specs.Places.{NearRead}
use Rattle.rdf_stream.specs.Explains.{explain_text}
use Rattle.rdf_stream.specs.Messages.{fault_text, report_text}
use Rattle.rdf_stream.specs.declared.fault.LoadFault.{LoadFault}
use Rattle.rdf_stream.specs.declared.fault.LoadFault.TheVariants as load
use Rattle.rdf_stream.specs.declared.fault.LoadFault.TheVariants.{Bad}
use Rattle.rdf_stream.specs.declared.fault.StreamFault.{StreamFault}
use Rattle.rdf_stream.specs.declared.fault.StreamFault.TheVariants.{Refused, Read, Write, Memory}
use Rattle.rdf_stream.specs.declared.skips.SkipSummary.{SkipSummary}
use Rattle.rdf_terms.specs.declared.fault.TermFault.{TermFault}
use Rattle.rdf_terms.specs.declared.fault.TermFault.TheVariants as term
use Rattle.rdf_command.specs.declared.host.NoOutput.{NoOutput}
use Rattle.rdf_command.specs.declared.host.NoOutput.TheVariants as output
use Rattle.rdf_command.specs.declared.task.WordsFault.{WordsFault}
use Rattle.rdf_command.specs.declared.task.WordsFault.TheVariants as words

-- 0 is for what was accepted, and 2 for words that are no command
abbrev pub status_of : StreamFault → ℕ
status_of (Refused f) = 1
status_of Read = 3
status_of Write = 3
status_of Memory = 4

-- The text is written to a device, or a beginning of it, where the device failed.
abbrev pub Reports : List ℕ → Option (List ℕ) → Option (List ℕ) → Bool → Type 0
Reports text old new failed = AppendsFront old new text × (failed ≡ false → Appends old new text)

-- a text about the document of this name; it takes memory, and where that is refused, want of memory is reported in its place
abbrev pub ReportsOf : List ℕ → List ℕ → Option (List ℕ) → Option (List ℕ) → Bool → Type 0
ReportsOf name text old new failed = Reports (name ++ codes ": " ++ text) old new failed ⊎ Reports (report_text Memory) old new failed

-- what is reported of the fault of the document of this name
abbrev pub ReportsFaultOf : List ℕ → StreamFault → Option (List ℕ) → Option (List ℕ) → Bool → Type 0
ReportsFaultOf name fault old new failed = ReportsOf name (fault_text fault ++ codes "\n") old new failed

-- the lines that explain a refusal of the document of this name, where that is asked for
abbrev pub explanation : Bool → List ℕ → StreamFault → Evidence NearRead → List ℕ
explanation true name (Refused f) evidence = explain_text name f evidence
explanation asked name fault evidence = []

-- the line that reports a document whose name ends in no format
abbrev pub no_format_text : List ℕ → List ℕ
no_format_text name = codes "rdfconv: no format in the name " ++ name ++ codes "\n"

-- the line that reports a bad line of a file of bindings
abbrev pub prefixes_text : ℕ → List ℕ
prefixes_text line = codes "rdfconv: bad prefixes at line " ++ decimal line ++ codes "\n"

-- What is reported of a fault. The text of a refusal takes memory, and nothing of it is reported where that is refused.
abbrev pub ReportsFault : StreamFault → Option (List ℕ) → Option (List ℕ) → Bool → Type 0
ReportsFault (Refused f) old new failed = Reports (report_text (Refused f)) old new failed ⊎ (new ≡ old)
ReportsFault fault old new failed = Reports (report_text fault) old new failed

-- What is reported of a fault of the document of this name, where its refusal is asked to be explained or not. The lines that explain it take memory
-- too, and are left out where that is refused.
abbrev pub ReportsExplained : Bool → List ℕ → StreamFault → Evidence NearRead → Option (List ℕ) → Option (List ℕ) → Bool → Type 0
ReportsExplained asked name fault evidence old new failed =
    Reports (report_text fault ++ explanation asked name fault evidence) old new failed ⊎ ReportsFault fault old new failed

-- the same of one of several documents
abbrev pub ReportsExplainedOf : Bool → List ℕ → StreamFault → Evidence NearRead → Option (List ℕ) → Option (List ℕ) → Bool → Type 0
ReportsExplainedOf asked name fault evidence old new failed =
    ReportsOf name (fault_text fault ++ codes "\n" ++ explanation asked name fault evidence) old new failed ⊎ ReportsFaultOf name fault old new failed

-- a line of a file of bindings that is refused is a mistake of the words
abbrev pub load_status : LoadFault → ℕ
load_status (Bad f) = 2
load_status load.Read = 3
load_status load.Memory = 4

-- What is reported of a file of bindings that was not loaded. The text of a line takes memory, and nothing of it is reported where that is refused.
abbrev pub ReportsLoad : LoadFault → Option (List ℕ) → Option (List ℕ) → Bool → Type 0
ReportsLoad (Bad f) old new failed = Reports (prefixes_text f.line) old new failed ⊎ (new ≡ old)
ReportsLoad load.Read old new failed = Reports (report_text Read) old new failed
ReportsLoad load.Memory old new failed = Reports (report_text Memory) old new failed

-- the status of a document that was read to its end, where bad lines were put aside: 1 where there are any
abbrev pub skip_status : SkipSummary → ℕ
skip_status s = cond (s.bad_lines == 0) 0 1

-- the line that counts the quads of such a document and its bad lines
abbrev pub counts_text : SkipSummary → List ℕ
counts_text s = codes "rdfconv: " ++ decimal s.quads ++ codes " quads, " ++ decimal s.bad_lines ++ codes " lines put aside\n"

-- What is reported of it. The line takes memory, and nothing is reported where that is refused.
abbrev pub ReportsCounts : SkipSummary → Option (List ℕ) → Option (List ℕ) → Bool → Type 0
ReportsCounts s old new failed = Reports (counts_text s) old new failed ⊎ (new ≡ old)

-- the status where an output was not created
abbrev pub output_status : NoOutput → ℕ
output_status output.NotOpen = 3
output_status output.Memory = 4

-- the status where a document has no address to be its base
abbrev pub address_status : TermFault → ℕ
address_status term.BadTerm = 2
address_status term.Memory = 4

-- what is reported then
abbrev pub address_text : TermFault → List ℕ
address_text term.BadTerm = codes "rdfconv: bad base\n"
address_text term.Memory = report_text Memory

-- what is reported then of one of several documents, that of this name
abbrev pub ReportsNoAddressOf : List ℕ → TermFault → Option (List ℕ) → Option (List ℕ) → Bool → Type 0
ReportsNoAddressOf name term.BadTerm old new failed = ReportsOf name (codes "bad base\n") old new failed
ReportsNoAddressOf name term.Memory old new failed = Reports (report_text Memory) old new failed

-- help or the version was asked for
abbrev pub IsAskedFor : ErrorKind → Type 0
IsAskedFor kind = (kind ≡ DisplayHelp) ⊎ (kind ≡ DisplayVersion)

-- 0 where help or the version was asked for, and else 2
abbrev pub IsUsageStatus : ErrorKind → ℕ → Type 0
IsUsageStatus kind status = (IsAskedFor kind → status ≡ 0) × (kind ≢ DisplayHelp → kind ≢ DisplayVersion → status ≡ 2)

-- The status of words that are no task, and the text that is reported where it is no text of clap's. The line about a name takes memory, and nothing is
-- reported where that is refused.
abbrev pub RefusesWords : WordsFault → ℕ → Option (List ℕ) → Option (List ℕ) → Bool → Type 0
RefusesWords (words.Usage e) status old new failed = IsUsageStatus (kind_of e) status
RefusesWords words.BadBase status old new failed = (status ≡ 2) × Reports (codes "rdfconv: bad base\n") old new failed
RefusesWords words.BadNodePrefix status old new failed = (status ≡ 2) × Reports (codes "rdfconv: bad node prefix\n") old new failed
RefusesWords words.BadGraph status old new failed = (status ≡ 2) × Reports (codes "rdfconv: bad graph\n") old new failed
RefusesWords words.BadSkip status old new failed = (status ≡ 2) × Reports (codes "rdfconv: --skip takes one document of nt or nq\n") old new failed
RefusesWords (words.NoFormat name) status old new failed = (status ≡ 2) × (Reports (no_format_text (string_bytes name)) old new failed ⊎ (new ≡ old))
RefusesWords words.Memory status old new failed = (status ≡ 4) × Reports (report_text Memory) old new failed

-- help and the version change the output alone, and all else the error output alone
abbrev pub GoesTo : {O E : Type 0} → WordsFault → O → O → E → E → Type 0
GoesTo (words.Usage e) out_old out_new err_old err_new =
    (IsAskedFor (kind_of e) → err_new ≡ err_old) × (kind_of e ≢ DisplayHelp → kind_of e ≢ DisplayVersion → out_new ≡ out_old)
GoesTo fault out_old out_new err_old err_new = out_new ≡ out_old

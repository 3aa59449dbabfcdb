-- What a call asks for, and what it answers.
use Rattle.std.specs.Prelude.{◌≡◌, ◌≢◌, ◌⊎◌, ◌<◌, ◌++◌, ℕ, Bool, true, false, List, [], ◌∷◌, None, Some, length, take, drop, min}
use Rattle.std.specs.Str.{IsUtf8, chars}
use Rattle.rdf_iri.specs.Bindings.{FailsAt, IsReadFrom}
use Rattle.rdf_iri.specs.Limits.{InRange, Sizes}
use Rattle.rdf_iri.specs.Scope.{BaseFits}
use Rattle.rdf_iri.specs.declared.fault.BindingReason.{BindingReason}
use Rattle.rdf_lines.specs.NodePrefixes.{IsNodePrefix}
use Rattle.rdf_terms.specs.Terms.{IsIri}
use Rattle.rdf_terms.specs.declared.reason.Reason.{Reason}
use Rattle.rdf_stream.specs.declared.fault.StreamFault.{StreamFault}
use Rattle.rdf_stream.specs.Checks.{CheckStops, IsAccepted, IsRefusedFor}
use Rattle.rdf_stream.specs.Converts.{Accepts, RefusesDocument, StopsFor}
use Rattle.rdf_stream.specs.Devices.{Reading}
use Rattle.rdf_stream.specs.Jobs.{JobRead}
use Rattle.rdf_stream.specs.Languages.{conversion_of, language_of}
use Rattle.rdf_c.specs.Numbers.{base_of, number_of_binding_reason, number_of_escapes, number_of_form, number_of_reason, sizes_of, summary_of}
use Rattle.rdf_c.specs.declared.request.JobFault.{JobFault}
use Rattle.rdf_c.specs.declared.request.JobFault.TheVariants.{NoJob, Prefixes, Memory}
use Rattle.rdf_c.specs.declared.request.Request.{Request}
use Rattle.rdf_c.specs.declared.outcome.Outcome.{Outcome}

-- No text, or one that is an IRI.
abbrev pub IsBaseText : List ℕ → Type 0
IsBaseText [] = Unit
IsBaseText (b ∷ bs) = IsUtf8 (b ∷ bs) × IsIri (chars (b ∷ bs))

-- No text, or one of ASCII letters and digits.
abbrev pub IsWordText : List ℕ → Type 0
IsWordText word_text = IsUtf8 word_text × IsNodePrefix (chars word_text)

-- The request, the base, the prefixes and the word are of this job, and there is such a job.
pub record AsksFor (request : Request) (base_text prefixes word_text : List ℕ) (job : JobRead) : Type 0 where
  pub form : request.format ≡ number_of_form job.form
  pub base : job.base ≡ base_of base_text
  pub bindings : IsReadFrom job.limits prefixes (record { bindings = job.bindings; limits = job.limits })
  pub escapes : request.ascii ≡ number_of_escapes job.escapes
  pub word : job.node_prefix ≡ chars word_text
  pub graph : job.graph ≡ None
  pub limits : job.limits ≡ sizes_of request
  pub range : InRange job.limits
  pub fits : BaseFits job.base job.limits
  pub good : IsBaseText base_text
  pub good_word : IsWordText word_text

-- The request, the base and the word are of no job, whatever the prefixes.
abbrev pub AsksForNothing : Request → List ℕ → List ℕ → Type 0
AsksForNothing request base_text word_text = (prefixes : List ℕ) (job : JobRead) → AsksFor request base_text prefixes word_text job → ⊥

-- One of the six statuses.
abbrev pub IsStatus : ℕ → Type 0
IsStatus s = (s ≡ 0) ⊎ (s ≡ 1) ⊎ (s ≡ 2) ⊎ (s ≡ 4) ⊎ (s ≡ 5) ⊎ (s ≡ 6)

-- The first line of the prefixes that fails is this one, and this is why.
pub record GivesLine (request : Request) (prefixes : List ℕ) (o : Outcome) : Type 0 where
  pub reason : BindingReason
  pub number : o.reason ≡ number_of_binding_reason reason
  pub fails : FailsAt reason (sizes_of request) prefixes o.line

-- The front of the lines stands in the output, and the rest of the output is as it was.
pub record Gives (lines old new : List ℕ) (o : Outcome) : Type 0 where
  pub needed : o.needed ≡ length lines
  pub written : o.written ≡ min (length lines) (length old)
  pub front : new ≡ take o.written lines ++ drop o.written old

-- The input is a document of the job, and these are the lines of its quads.
pub record GivesLines (job : JobRead) (input old new : List ℕ) (o : Outcome) : Type 0 where
  pub lines : List ℕ
  pub accepts : Accepts (conversion_of job) input (Some []) (Some lines) (summary_of o)
  pub gives : Gives lines old new o

-- The input is refused at the place, and these are the lines of the quads that are due before it.
pub record GivesRefusal (job : JobRead) (input old new : List ℕ) (o : Outcome) : Type 0 where
  pub lines : List ℕ
  pub reason : Reason
  pub number : o.reason ≡ number_of_reason reason
  pub refuses : RefusesDocument reason (conversion_of job) input true (record { offset = o.offset; line = o.line }) (Some []) (Some lines)
  pub gives : Gives lines old new o

-- A status with which nothing is written.
abbrev pub WritesNothing : ℕ → Type 0
WritesNothing s = (s ≡ 2) ⊎ (s ≡ 4) ⊎ (s ≡ 6)

-- How the conversion of a job ends.
pub record Converts (job : JobRead) (input old new : List ℕ) (o : Outcome) : Type 0 where
  pub whole : o.status ≡ 0 → GivesLines job input old new o × (o.needed ≡ o.written)
  pub front : o.status ≡ 5 → GivesLines job input old new o × (o.written < o.needed)
  pub refused : o.status ≡ 1 → GivesRefusal job input old new o
  pub kept : o.status ≡ 4 → new ≡ old
  pub found : o.status ≢ 2
  pub loaded : o.status ≢ 6
  pub status : IsStatus o.status

-- How a call that converts ends.
pub record HasConverted (request : Request) (base_text prefixes word_text input old new : List ℕ) (o : Outcome) : Type 0 where
  pub whole : o.status ≡ 0 → (job : JobRead) × AsksFor request base_text prefixes word_text job × GivesLines job input old new o × (o.needed ≡ o.written)
  pub front : o.status ≡ 5 → (job : JobRead) × AsksFor request base_text prefixes word_text job × GivesLines job input old new o × (o.written < o.needed)
  pub refused : o.status ≡ 1 → (job : JobRead) × AsksFor request base_text prefixes word_text job × GivesRefusal job input old new o
  pub no_job : o.status ≡ 2 → AsksForNothing request base_text word_text
  pub bad_prefixes : o.status ≡ 6 → GivesLine request prefixes o
  pub kept : WritesNothing o.status → new ≡ old
  pub status : IsStatus o.status

-- The input is refused at the place.
pub record GivesPlace (job : JobRead) (input : List ℕ) (o : Outcome) : Type 0 where
  pub reason : Reason
  pub number : o.reason ≡ number_of_reason reason
  pub refused : IsRefusedFor reason (language_of job) input true (record { offset = o.offset; line = o.line })

-- How the check of a job ends.
pub record Checks (job : JobRead) (input : List ℕ) (o : Outcome) : Type 0 where
  pub whole : o.status ≡ 0 → IsAccepted (language_of job) input (summary_of o)
  pub refused : o.status ≡ 1 → GivesPlace job input o
  pub found : o.status ≢ 2
  pub loaded : o.status ≢ 6
  pub status : IsStatus o.status

-- How a call that checks ends.
pub record HasChecked (request : Request) (base_text prefixes input : List ℕ) (o : Outcome) : Type 0 where
  pub whole : o.status ≡ 0 → (job : JobRead) × AsksFor request base_text prefixes [] job × IsAccepted (language_of job) input (summary_of o)
  pub refused : o.status ≡ 1 → (job : JobRead) × AsksFor request base_text prefixes [] job × GivesPlace job input o
  pub no_job : o.status ≡ 2 → AsksForNothing request base_text []
  pub bad_prefixes : o.status ≡ 6 → GivesLine request prefixes o
  pub status : IsStatus o.status

-- ---- within a call

-- Why a text gives no base.
abbrev pub NamesNoBase : List ℕ → JobFault → Type 0
NamesNoBase base_text NoJob = IsBaseText base_text → ⊥
NamesNoBase base_text (Prefixes f) = ⊥
NamesNoBase base_text Memory = Unit

-- Why a text gives no word.
abbrev pub NamesNoWord : List ℕ → JobFault → Type 0
NamesNoWord word_text NoJob = IsWordText word_text → ⊥
NamesNoWord word_text (Prefixes f) = ⊥
NamesNoWord word_text Memory = Unit

-- Why the prefixes are not read.
abbrev pub FailsToBind : Sizes → List ℕ → JobFault → Type 0
FailsToBind sizes prefixes NoJob = ⊥
FailsToBind sizes prefixes (Prefixes f) = FailsAt f.reason sizes prefixes f.line
FailsToBind sizes prefixes Memory = Unit

-- Why there is no job.
abbrev pub AsksForNone : Request → List ℕ → List ℕ → List ℕ → JobFault → Type 0
AsksForNone request base_text prefixes word_text NoJob = AsksForNothing request base_text word_text
AsksForNone request base_text prefixes word_text fault = FailsToBind (sizes_of request) prefixes fault

-- A conversion stopped, with these lines.
abbrev pub Stopped : StreamFault → JobRead → List ℕ → List ℕ → Type 0
Stopped fault job input lines =
    (left : Reading) × (left.has_failed ≡ false) × (write_failed : Bool) ×
    StopsFor fault (conversion_of job) (Some input) left (Some []) (Some lines) write_failed

-- A check stopped.
abbrev pub CheckStopped : StreamFault → JobRead → List ℕ → Type 0
CheckStopped fault job input = (left : Reading) × (left.has_failed ≡ false) × CheckStops fault (language_of job) (Some input) left

-- What a check of several documents does: one after the other, with a line for each, to the last one or until an output fails.
use Rattle.std.specs.Prelude.{◌≡◌, ◌⊎◌, ◌||◌, ℕ, Bool, true, false, List, [], ◌∷◌, cond, Option, Some, None, IfSome, nat_lt, ⊤}
use Rattle.rdf_iri.specs.Bindings.{BindingMap, IsReadFrom}
use Rattle.rdf_iri.specs.Limits.{Sizes}
use Rattle.rdf_lines.specs.declared.form.Escapes.TheVariants.{Plain}
use Rattle.rdf_stream.specs.declared.explains.Evidence.{Evidence}
use Rattle.rdf_stream.specs.Places.{NearRead}
use Rattle.rdf_stream.specs.Devices.{Reading, Written}
use Rattle.rdf_stream.specs.Jobs.{JobRead}
use Rattle.rdf_stream.specs.Loads.{BindsNot, HasGivenAll}
use Rattle.rdf_stream.specs.declared.fault.LoadFault.{LoadFault}
use Rattle.rdf_stream.specs.declared.fault.LoadFault.TheVariants.{Memory}
use Rattle.rdf_stream.specs.declared.fault.StreamFault.{StreamFault}
use Rattle.rdf_stream.specs.declared.form.Form.{Form}
use Rattle.rdf_terms.specs.declared.fault.TermFault.{TermFault}
use Rattle.rdf_terms.specs.declared.fault.TermFault.TheVariants.{BadTerm}
use Rattle.rdf_command.specs.Addresses.{HasNoAddress, IsAddress}
use Rattle.rdf_command.specs.Reasons.{Devices, ReportsShutOf, ReportsStopOf, Shut, device, standard_output}
use Rattle.rdf_command.specs.Runs.{Ending, IsCheckedAs, StopsCheckAs, TellsOf, ending}
use Rattle.rdf_command.specs.Statuses.{ReportsLoad, ReportsNoAddressOf, address_status, load_status, status_of}
use Rattle.rdf_command.specs.Words.{file_by}

-- the greater of two statuses
abbrev pub worse : ℕ → ℕ → ℕ
worse a b = cond (nat_lt a b) b a

-- what all documents are read with: the base, the limits, and the bytes of the file of bindings where there is one; and whether refusals are explained.
-- Where there is a folder each has its address as its base, in this folder.
pub record Shared : Type 0 where
  pub base : Option (List ℕ)
  pub folder : Option (List ℕ)
  pub limits : Sizes
  pub explain : Bool
  pub prefixes : Option (List ℕ)

-- the bindings of these bytes, or none where there are no bytes
abbrev pub BindsFrom : Sizes → Option (List ℕ) → List (List ℕ × List ℕ) → Type 0
BindsFrom sizes None bindings = bindings ≡ []
BindsFrom sizes (Some bytes) bindings = (b : BindingMap) × IsReadFrom sizes bytes b × (bindings ≡ b.bindings)

-- why these bytes give none
abbrev pub BindsNotFrom : LoadFault → Sizes → Option (List ℕ) → Type 0
BindsNotFrom fault sizes None = fault ≡ Memory
BindsNotFrom fault sizes (Some bytes) = BindsNot fault sizes bytes

-- the job of one document: what is written of quads has no say in a check
abbrev pub check_job : Shared → Form → List (List ℕ × List ℕ) → JobRead
check_job shared form bindings =
    record { form = form; base = shared.base; bindings = bindings; escapes = Plain; node_prefix = []; graph = None; limits = shared.limits }

-- The job is that of a document of this format, with the bindings of the bytes.
abbrev pub IsCheckJob : Shared → Form → JobRead → Type 0
IsCheckJob shared form job =
    (bindings : List (List ℕ × List ℕ)) × BindsFrom shared.limits shared.prefixes bindings × (job ≡ check_job shared form bindings)

-- The document was accepted, and its line written and flushed.
pub record AcceptsOne (job : JobRead) (name : List ℕ) (known : Option (List ℕ)) (e : Ending) : Type 0 where
  pub status_is : e.status ≡ 0
  pub checked : IfSome known (λ bytes. IsCheckedAs (Some name) job bytes e.out_old e.out.contents)
  pub flushed : e.out.is_flushed ≡ true
  pub untold : e.err.contents ≡ e.err_old

-- The document was not accepted, for a fault that the status and the line about it say, with what is known of its place and of an unexpected token where an explanation
-- is asked for.
pub record StopsOne (devices : Devices) (asked : Bool) (job : JobRead) (name : List ℕ) (known : Option (List ℕ)) (left : Reading) (e : Ending) : Type 0 where
  pub fault : StreamFault
  pub status_is : e.status ≡ status_of fault
  pub stops : StopsCheckAs (Some name) fault job known left e.out_old e.out.contents e.out.has_failed
  pub evidence : Evidence NearRead
  pub expected : TellsOf asked fault job known left evidence
  pub reported : ReportsStopOf asked (device name (devices.source left)) (device standard_output (devices.output e.out)) fault evidence
      e.err_old e.err.contents e.err.has_failed

-- The document of this format and name was opened and read.
pub record ReadsOne (has_document : Option (List ℕ) → Option (List ℕ) → Type 0) (devices : Devices) (shared : Shared) (d : Form × List ℕ) (e : Ending) : Type 0 where
  pub job : JobRead
  pub is_job : IsCheckJob shared d.0 job
  pub known : Option (List ℕ)
  pub opened : has_document (file_by (Some d.1)) known
  pub left : Reading
  pub ends : AcceptsOne job d.1 known e ⊎ StopsOne devices shared.explain job d.1 known left e

-- The file of this name did not open.
pub record OpensNone (asked : Bool) (shut : Shut) (d : Form × List ℕ) (e : Ending) : Type 0 where
  pub path : List ℕ
  pub named : file_by (Some d.1) ≡ Some path
  pub does_not : shut.is path
  pub status_is : e.status ≡ 3
  pub unwritten : e.out.contents ≡ e.out_old
  pub reported : ReportsShutOf shut.tells asked d.1 e.err_old e.err.contents e.err.has_failed

-- There was nothing to read it with.
pub record BindsNone (shared : Shared) (e : Ending) : Type 0 where
  pub fault : LoadFault
  pub binds_not : BindsNotFrom fault shared.limits shared.prefixes
  pub status_is : e.status ≡ load_status fault
  pub unwritten : e.out.contents ≡ e.out_old
  pub reported : ReportsLoad fault e.err_old e.err.contents e.err.has_failed

-- how one of several documents ends
abbrev pub EndsOne : (Option (List ℕ) → Option (List ℕ) → Type 0) → Shut → Shared → Form × List ℕ → Ending → Type 0
EndsOne has_document shut shared d e = ReadsOne has_document shut.devices shared d e ⊎ (OpensNone shared.explain shut d e ⊎ BindsNone shared e)

-- The document has no address to be its base, which the status and its line on the error output say, and it was not opened.
pub record AddressesNone (folder : List ℕ) (shared : Shared) (d : Form × List ℕ) (e : Ending) : Type 0 where
  pub fault : TermFault
  pub why : fault ≡ BadTerm → HasNoAddress shared.limits.iri folder (file_by (Some d.1))
  pub status_is : e.status ≡ address_status fault
  pub unwritten : e.out.contents ≡ e.out_old
  pub reported : ReportsNoAddressOf d.1 fault e.err_old e.err.contents e.err.has_failed

-- By the folder: without one the document ended so with the base of all, and else with its address in the folder as its base; or it has none.
abbrev pub EndsAt : Option (List ℕ) → (Option (List ℕ) → Option (List ℕ) → Type 0) → Shut → Shared → Form × List ℕ → Ending → Type 0
EndsAt None has_document shut shared d e = EndsOne has_document shut shared d e
EndsAt (Some folder) has_document shut shared d e =
    ((base : List ℕ) × IsAddress shared.limits.iri folder (file_by (Some d.1)) base × EndsOne has_document shut (record shared { base = Some base }) d e)
    ⊎ AddressesNone folder shared d e

-- one of the outputs has failed
abbrev pub has_failed_output : Written → Written → Bool
has_failed_output out err = out.has_failed || err.has_failed

-- the status so far after a document with this one, which is at least 3 where an output has failed
abbrev pub status_after : ℕ → ℕ → Bool → ℕ
status_after so_far status failed = cond failed (worse (worse so_far status) 3) (worse so_far status)

-- one claim or another
abbrev pub Either : Bool → Type 0 → Type 0 → Type 0
Either true P Q = P
Either false P Q = Q

-- The documents that are left were checked in turn, from a status and outputs so far to the last of them, or to the first after which an output had
-- failed. The outputs are as that document left them.
abbrev pub EndsLeft : (Option (List ℕ) → Option (List ℕ) → Type 0) → Shut → Shared → List (Form × List ℕ) → ℕ → ℕ
    → Written → Written → Written → Written → Type 0
EndsLeft has_document shut shared [] so_far status out_now out err_now err = (status ≡ so_far) × (out ≡ out_now) × (err ≡ err_now)
EndsLeft has_document shut shared (d ∷ ds) so_far status out_now out err_now err =
    (own : ℕ) × (out_next : Written) × (err_next : Written)
    × EndsAt shared.folder has_document shut shared d (ending own out_now.contents out_next err_now.contents err_next)
    × Either (has_failed_output out_next err_next)
    ((status ≡ status_after so_far own true) × (out ≡ out_next) × (err ≡ err_next))
    (EndsLeft has_document shut shared ds (status_after so_far own false) status out_next out err_next err)

-- the same of all documents, from outputs with these contents
abbrev pub EndsEach : (Option (List ℕ) → Option (List ℕ) → Type 0) → Shut → Shared → List (Form × List ℕ) → Ending → Type 0
EndsEach has_document shut shared ds e =
    (out_first : Written) × (err_first : Written) × (out_first.contents ≡ e.out_old) × (err_first.contents ≡ e.err_old)
    × EndsLeft has_document shut shared ds 0 e.status out_first e.out err_first e.err

-- The file of bindings, where there is one, had these bytes, and they are bindings.
abbrev pub GivesBindings : Sizes → Option (Option (List ℕ)) → Option (List ℕ) → Type 0
GivesBindings sizes None None = ⊤
GivesBindings sizes (Some known) (Some bytes) = ((left : Reading) × HasGivenAll known left bytes) × ((b : BindingMap) × IsReadFrom sizes bytes b)
GivesBindings sizes prefixes given = ⊥

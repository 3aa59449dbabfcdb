-- Documents that are checked in turn: what is left to do completes the whole.
use Rattle.rdf_command.proofs.Prelude.{◌≡◌, ◌==◌, ◌||◌, ℕ, Bool, true, false, List, [], ◌∷◌, Option, None, arith, eqb-true, length, refl, sym, subst, ◌∙◌, true≢false, Written, LoadFault, Bad, Form, Task, Outputs, EndsBy, OneEndsAt, SeveralEnd, Shut, Ending, FilesRead, ending, Either, EndsAt, EndsEach, EndsLeft, Shared, has_failed_output, status_after}
use Rattle.std.proofs.lemmas.Bool.{false≢true}
use Rattle.rdf_iri.specs.Limits.{Sizes}
use Rattle.rdf_stream.specs.Devices.{Reading}
use Rattle.rdf_stream.specs.Loads.{BindsNot, HasGivenAll, LoadStops, ReadsNot}
use Rattle.rdf_stream.specs.declared.fault.LoadFault.TheVariants.{Memory, Read}
use Rattle.rdf_command.specs.declared.task.Document.{Document}
use Rattle.rdf_command.specs.Addresses.{Folders}

module _ (has_document : Option (List ℕ) → Option (List ℕ) → Type 0) (shut : Shut) (shared : Shared) (whole : List (Form × List ℕ))
    (out_old err_old : Option (List ℕ)) where
  -- Whatever is done with the documents that are left, or nothing where an output has failed, all of them have ended so then.
  abbrev pub Completes : List (Form × List ℕ) → Bool → ℕ → Written → Written → Type 0
  Completes left failed so_far out_now err_now =
      (status : ℕ) (out err : Written)
      → Either failed ((status ≡ so_far) × (out ≡ out_now) × (err ≡ err_now)) (EndsLeft has_document shut shared left so_far status out_now out err_now err)
      → EndsEach has_document shut shared whole (ending status out_old out err_old err)

  -- a document more
  pub next_completes : (d : Form × List ℕ) (left : List (Form × List ℕ)) (so_far own : ℕ) (failed : Bool) (out_now err_now out_next err_next : Written)
      → Completes (d ∷ left) false so_far out_now err_now → EndsAt shared.folder has_document shut shared d
      (ending own out_now.contents out_next err_now.contents err_next)
      → failed ≡ has_failed_output out_next err_next → Completes left failed (status_after so_far own failed) out_next err_next
  next_completes d left so_far own failed out_now err_now out_next err_next before one is status out err rest =
      before status out err (own, out_next, err_next, one, subst (λ b. Either b Stops Goes) is (go failed rest))
    where
      Stops : Type 0
      Stops = (status ≡ status_after so_far own true) × (out ≡ out_next) × (err ≡ err_next)

      Goes : Type 0
      Goes = EndsLeft has_document shut shared left (status_after so_far own false) status out_next out err_next err

      go : (b : Bool)
          → Either b ((status ≡ status_after so_far own b) × (out ≡ out_next) × (err ≡ err_next))
          (EndsLeft has_document shut shared left (status_after so_far own b) status out_next out err_next err)
          → Either b Stops Goes
      go true r = r
      go false r = r

  -- no document is left, or an output has failed
  pub completed : (so_far : ℕ) (failed : Bool) (out_now err_now : Written) → Completes [] failed so_far out_now err_now
      → EndsEach has_document shut shared whole (ending so_far out_old out_now err_old err_now)
  completed so_far true out_now err_now c = c so_far out_now err_now (refl, refl, refl)
  completed so_far false out_now err_now c = c so_far out_now err_now (refl, refl, refl)

  pub stopped : (left : List (Form × List ℕ)) (so_far : ℕ) (failed : Bool) (out_now err_now : Written) → failed ≡ true →
      Completes left failed so_far out_now err_now
      → EndsEach has_document shut shared whole (ending so_far out_old out_now err_old err_now)
  stopped left so_far true out_now err_now e c = c so_far out_now err_now (refl, refl, refl)
  stopped left so_far false out_now err_now e c = absurd (false≢true e)

-- before the first document nothing is done
pub first_completes : (has_document : Option (List ℕ) → Option (List ℕ) → Type 0) (shut : Shut) (shared : Shared) (whole : List (Form × List ℕ))
    (out_now err_now : Written) → Completes has_document shut shared whole out_now.contents err_now.contents whole false 0 out_now err_now
first_completes has_document shut shared whole out_now err_now status out err ends = (out_now, err_now, refl, refl, ends)

-- where no output has failed each may be written to
pub both_live : (a b failed : Bool) → failed ≡ (a || b) → failed ≡ false → (a ≡ false) × (b ≡ false)
both_live true b failed e f = absurd (false≢true (sym f ∙ e))
both_live false b failed e f = (refl, sym e ∙ f)

-- ---- the file of bindings

-- the source of the file did not give all its bytes
pub none_by_source : (fault : LoadFault) (sizes : Sizes) (known : Option (List ℕ)) (left : Reading) → ReadsNot fault known left →
    LoadStops fault sizes known left
none_by_source (Bad f) sizes known left r = absurd r
none_by_source Read sizes known left r = r
none_by_source Memory sizes known left r = r

-- the bytes that it gave are no bindings
pub none_by_bytes : (fault : LoadFault) (sizes : Sizes) (known : Option (List ℕ)) (left : Reading) (bytes : List ℕ) →
    HasGivenAll known left bytes → BindsNot fault sizes bytes
    → LoadStops fault sizes known left
none_by_bytes (Bad f) sizes known left bytes h r = (bytes, h, r)
none_by_bytes Read sizes known left bytes h r = absurd r
none_by_bytes Memory sizes known left bytes h r = record { bytes = bytes; consumed = h.consumed; ended = λ e. h.at_end; live = h.live }

-- ---- a task

-- A task with further documents ends as a check of several does.
pub several_end : (more : List Document) (folders : Folders) (has_document : Option (List ℕ) → Option (List ℕ) → Type 0) (shut : Shut)
    (says : Outputs) (t : Task) (e : Ending)
    → (length more == 0) ≡ false → SeveralEnd folders has_document shut t e → EndsBy more folders has_document shut says t None e
several_end [] folders has_document shut says t e some ends = absurd (true≢false some)
several_end (d ∷ ds) folders has_document shut says t e some ends = (refl, ends)

-- one without ends as its run does
pub one_ends : (more : List Document) (folders : Folders) (has_document : Option (List ℕ) → Option (List ℕ) → Type 0) (shut : Shut)
    (says : Outputs) (t : Task) (files : Option FilesRead)
    (e : Ending) → (length more == 0) ≡ true → OneEndsAt t.addressed folders has_document shut says t files e →
    EndsBy more folders has_document shut says t files e
one_ends [] folders has_document shut says t files e none ends = ends
one_ends (d ∷ ds) folders has_document shut says t files e none ends =
    let same : length (d ∷ ds) ≡ 0 = eqb-true _ _ none in absurd (omega arith)

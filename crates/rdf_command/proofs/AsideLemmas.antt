-- How a run ends that goes on after bad lines: what its steps say of it, taken together.
use Rattle.rdf_command.proofs.Prelude.{◌≡◌, ℕ, false, List, Option, inl, inr, subst, sym, Written, Task, AsideBy, AsideEnds, AsideOnto, StopsAside, Told, output_called, told_of, Outputs, output_of, Device, Devices, ReportsStop, broken, device, Ending, FilesRead, StartsWith, job_of, name_of}
use Rattle.clap.specs.Words.{Text}
use Rattle.rdf_stream.specs.Devices.{Reading}
use Rattle.rdf_stream.specs.Jobs.{JobRead}

module _ (says : Outputs) (devices : Devices) (bad : Text) (t : Task) (prefixes : Option (Option (List ℕ))) (known : Option (List ℕ))
    (before : Option Reading) (source : Reading) (e : Ending) where
  -- what a run is told, with these names of its document and of its output
  abbrev with_names : Text → Text → Told
  with_names document called = record { action = t.action; explain = t.explain; document = document; output = called; bad = bad }

  pub aside_ends : (bindings : List (List ℕ × List ℕ)) → StartsWith t.limits prefixes before bindings → (job : JobRead) → job ≡ job_of t bindings
      → (document : Text) → document ≡ name_of t → (called : Text) → called ≡ output_called (output_of t) → (output : Option Text) → output ≡ output_of t
      → AsideBy output says devices (with_names document called) job known source e
      → AsideEnds says devices bad t prefixes known (record { prefixes = before; document = source }) e
  aside_ends bindings starts job is document named called so output to ends =
      let by_job = subst (λ j. AsideBy output says devices (with_names document called) j known source e) is ends in
      let by_name = subst (λ n. AsideBy output says devices (with_names n called) (job_of t bindings) known source e) named by_job in
      let by_output = subst (λ n. AsideBy output says devices (with_names (name_of t) n) (job_of t bindings) known source e) so by_name in
      inl (bindings, starts, subst (λ o. AsideBy o says devices (told_of t bad) (job_of t bindings) known source e) to by_output)

-- What is said of such a run of a task with another name for bad lines is said of the task.
pub aside_of : (t other : Task) (says : Outputs) (devices : Devices) (bad : Text) (prefixes : Option (Option (List ℕ)))
    (known : Option (List ℕ)) (left : FilesRead) (e : Ending)
    → AsideEnds says devices bad (record t { skip = other.skip }) prefixes known left e → AsideEnds says devices bad t prefixes known left e
aside_of t other says devices bad prefixes known left e (inl h) = inl h
aside_of t other says devices bad prefixes known left e (inr p) =
    inr (record { fault = p.fault; stops = p.stops; status_is = p.status_is; unwritten = p.unwritten; reported = p.reported })

-- Nothing is told of an output that has not failed.
module _ (says : Outputs) (source : Reading → Option Text → Type 0) (one other : Written → Option Text → Type 0) (how : Told) (job : JobRead)
    (known : Option (List ℕ)) (left : Reading) (e : Ending) (live : e.out.has_failed ≡ false) where
  abbrev these : Devices
  these = record { source = source; output = one }

  abbrev those : Devices
  those = record { source = source; output = other }

  stops : StopsAside says these how job known left e → StopsAside says those how job known left e
  stops s =
      let reports : Device → Type 0 =
      λ d. ReportsStop how.explain (device how.document (source left)) d s.fault s.evidence e.err_old e.err.contents e.err.has_failed in
      let bad = device how.bad (says.output s.bad) in
      let of_bad = subst (λ b. reports (broken b (device how.output (one e.out)) bad)) live s.reported in
      record {
        fault = s.fault;
        first = s.first;
        empty = s.empty;
        bad = s.bad;
        stops = s.stops;
        status_is = s.status_is;
        is_left = s.is_left;
        evidence = s.evidence;
        none = s.none;
        unasked = s.unasked;
        reported = subst (λ b. reports (broken b (device how.output (other e.out)) bad)) (sym live) of_bad;
      }

  pub aside_live : AsideOnto says these how job known left e → AsideOnto says those how job known left e
  aside_live (inl put) = inl put
  aside_live (inr (inl s)) = inr (inl (stops s))
  aside_live (inr (inr lost)) = inr (inr lost)

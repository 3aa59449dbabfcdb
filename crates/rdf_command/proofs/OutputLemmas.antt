-- How a task ends whose lines go to a file: what its steps say of it, taken together.
use Rattle.rdf_command.proofs.Prelude.{◌≡◌, ◌≢◌, ◌∙◌, ℕ, zero, suc, true, List, Option, Some, None, arith, inl, inr, refl, sym, subst, Written, report_text, LoadFault, Bad, Write, Task, EndsInto, EndsTo, IsEmpty, IsFiled, Outputs, RunsInto, into, output_of, Devices, ReportsFailed, device, standard_output, Ending, FilesRead, RunEnds, RunStops, ending, load_status}
use Rattle.clap.specs.Words.{Text}
use Rattle.rdf_stream.specs.Devices.{Reading}
use Rattle.rdf_stream.specs.declared.fault.LoadFault.TheVariants.{Memory, Read}

module _ (says : Outputs) (source : Reading → Option Text → Type 0) (name : Text) (t : Task) (prefixes : Option (Option (List ℕ)))
    (known : Option (List ℕ)) (left : FilesRead) (first : Option (List ℕ)) (output : Written)
    (err_old : Option (List ℕ)) (err_then err : Written) (empty : IsEmpty first) where
  -- what became of the output of a run that ended so
  abbrev pub Fate : ℕ → Type 0
  Fate status = IsFiled says source name t prefixes known left status err_old err

  -- the run ended with this status, and the error output then
  abbrev pub Ran : ℕ → Written → Type 0
  Ran own told = RunEnds (into says source) name t prefixes known left (ending own first output err_old told)

  pub fate : (own status : ℕ) → Ran own err_then → (own ≢ 0 → (status ≡ own) × (err ≡ err_then))
      → (status ≡ 0 → (own ≡ 0) × (err ≡ err_then) × says.has name output.contents) → (status ≢ 0 → says.is_left name)
      → (own ≡ 0 → status ≢ 0 → (status ≡ 3) × ReportsFailed t.explain (report_text Write)
      (device name (says.tells name)) err_then.contents err.contents err.has_failed) → Fate status
  fate zero zero ends stopped kept is_left unnamed =
      let k = kept refl in
      inl (record { output = output; ends = (first, empty, subst (Ran 0) (sym k.1) ends); status_is = refl; has = k.2 })
  fate zero (suc n) ends stopped kept is_left unnamed =
      let some : suc n ≢ 0 = λ e. omega (arith, e) in
      let u = unnamed refl some in
      inr (inr (record {
        output = output;
        err_then = err_then;
        ends = (first, empty, ends);
        unnamed = record { status_is = u.0; is_left = is_left some; reported = u.1 };
      }))
  fate (suc n) status ends stopped kept is_left unnamed =
      let some : suc n ≢ 0 = λ e. omega (arith, e) in
      let s = stopped some in
      let runs = subst (Ran status) (sym s.1) (subst (λ n. Ran n err_then) (sym s.0) ends) in
      let goes : status ≢ 0 = λ e. some (sym s.0 ∙ e) in
      inr (inl (record { output = output; ends = (first, empty, runs); stopped = goes; is_left = is_left goes }))

-- What is said of a task's run with other names for its files is said of the task.
module _ (t other : Task) (prefixes : Option (Option (List ℕ))) (known : Option (List ℕ)) where
  -- the task with these names
  abbrev So : Task
  So = record t { output = other.output; skip = other.skip }

  of_stop : (devices : Devices) (name : Text) (bindings : List (List ℕ × List ℕ)) (source : Reading) (e : Ending)
      → RunStops devices name So bindings known source e → RunStops devices name t bindings known source e
  of_stop devices name bindings source e s =
      record { fault = s.fault; status_is = s.status_is; stops = s.stops; sent = s.sent; evidence = s.evidence; expected = s.expected; reported = s.reported }

  run_of : (devices : Devices) (name : Text) (left : FilesRead) (e : Ending) → RunEnds devices name So prefixes known left e →
      RunEnds devices name t prefixes known left e
  run_of devices name left e (inl (bindings, starts, (done, stops, prompt))) =
      inl (bindings, starts, (done, (λ n. of_stop devices name bindings left.document e (stops n)), prompt))
  run_of devices name left e (inr p) =
      inr (record { fault = p.fault; stops = p.stops; status_is = p.status_is; unwritten = p.unwritten; reported = p.reported })

  -- so is what becomes of a file
  into_of : (says : Outputs) (source : Reading → Option Text → Type 0) (name : Text) (files : Option FilesRead) (status : ℕ)
      (err_old : Option (List ℕ)) (err : Written)
      → EndsInto says source name So prefixes known files status err_old err → EndsInto says source name t prefixes known files status err_old err
  into_of says source name files status err_old err (inr none) = inr none
  into_of says source name files status err_old err (inl (left, given, fate)) = inl (left, given, go fate)
    where
      runs : (own : ℕ) (output then : Written) → RunsInto (into says source) name So prefixes known left own output err_old then →
          RunsInto (into says source) name t prefixes known left own output err_old then
      runs own output then r = (r.0, r.1, run_of (into says source) name left (ending own r.0 output err_old then) r.2)

      go : IsFiled says source name So prefixes known left status err_old err → IsFiled says source name t prefixes known left status err_old err
      go (inl k) = inl (record { output = k.output; ends = runs 0 k.output err k.ends; status_is = k.status_is; has = k.has })
      go (inr (inl d)) = inr (inl (record { output = d.output; ends = runs status d.output err d.ends; stopped = d.stopped; is_left = d.is_left }))
      go (inr (inr u)) =
          inr (inr (record { output = u.output; err_then = u.err_then; ends = runs 0 u.output u.err_then u.ends; unnamed = u.unnamed }))

  -- so is the end of a task that writes the file of a name, or none
  pub ends_to : (says : Outputs) (devices : Devices) (files : Option FilesRead) (e : Ending) (name : Option Text) →
      EndsTo name says devices So prefixes known files e
      → EndsTo name says devices t prefixes known files e
  ends_to says devices files e None (left, given, ends) = (left, given, run_of devices standard_output left e ends)
  ends_to says devices files e (Some name) (ends, unwritten) = (into_of says devices.source name files e.status e.err_old e.err ends, unwritten)

  -- the end of a task that writes the file of this name
  pub ends_into : (says : Outputs) (devices : Devices) (files : Option FilesRead) (e : Ending) (name : Text) → output_of t ≡ Some name
      → EndsInto says devices.source name So prefixes known files e.status e.err_old e.err → e.out.contents ≡ e.out_old
      → EndsTo (output_of t) says devices t prefixes known files e
  ends_into says devices files e name some ends unwritten =
      subst (λ o. EndsTo o says devices t prefixes known files e) (sym some) (into_of says devices.source name files e.status e.err_old e.err ends, unwritten)

-- ---- a run with status 0

-- a file of bindings that was not loaded has another
pub some_load_status : (fault : LoadFault) → load_status fault ≡ 0 → ⊥
some_load_status (Bad f) e = omega (arith, e)
some_load_status Read e = omega (arith, e)
some_load_status Memory e = omega (arith, e)

-- what was written is flushed then
pub flushed_then : (devices : Devices) (name : Text) (t : Task) (prefixes : Option (Option (List ℕ))) (known : Option (List ℕ)) (left : FilesRead) (e : Ending)
    → RunEnds devices name t prefixes known left e → e.status ≡ 0 → e.out.is_flushed ≡ true
flushed_then devices name t prefixes known left e (inl (bindings, starts, (done, stops, prompt))) none = (done none).1
flushed_then devices name t prefixes known left e (inr p) none = absurd (some_load_status p.fault (sym p.status_is ∙ none))

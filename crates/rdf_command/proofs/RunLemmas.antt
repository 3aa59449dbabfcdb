-- How a run over a document ends, by the job that it was read with.
use Rattle.rdf_command.proofs.Prelude.{◌≡◌, ℕ, true, List, ◌++◌, Option, Some, None, IfSome, refl, sym, subst, inl, ◌∙◌, arith, AppendsFront, Written, Evidence, NearRead, StreamFault, Refused, Write, Task, Devices, ReportsStop, device, Does, HandsOver, RunEnds, SendsOn, StartsWith, StopsAction, TellsEvidence, accepted_text, ending, job_of, status_of, name_of}
use Rattle.clap.specs.Words.{Text}
use Rattle.rdf_driver.specs.declared.summary.Summary.{Summary}
use Rattle.rdf_stream.specs.Checks.{IsAccepted}
use Rattle.rdf_stream.specs.Devices.{Reading}
use Rattle.rdf_stream.specs.Jobs.{JobRead}
use Rattle.rdf_stream.specs.Languages.{language_of}
use Rattle.rdf_stream.specs.declared.fault.StreamFault.TheVariants.{Read, Memory}

pub some_status : (fault : StreamFault) → status_of fault ≡ 0 → ⊥
some_status (Refused f) e = omega (arith, e)
some_status Read e = omega (arith, e)
some_status Write e = omega (arith, e)
some_status Memory e = omega (arith, e)

module _ (devices : Devices) (name : Text) (t : Task) (prefixes : Option (Option (List ℕ))) (left : Option Reading)
    (bindings : List (List ℕ × List ℕ)) (starts : StartsWith t.limits prefixes left bindings)
    (job : JobRead) (is : job ≡ job_of t bindings) (known : Option (List ℕ)) (source : Reading) (out_old : Option (List ℕ)) (out : Written)
    (err_old : Option (List ℕ)) (err : Written) (prompt : HandsOver t.action job known source out_old out.contents) where
  -- the run ended with this status
  abbrev pub Ends : ℕ → Type 0
  Ends status = RunEnds devices name t prefixes known (record { prefixes = left; document = source }) (ending status out_old out err_old err)

  -- by the task's job
  prompt_so : HandsOver t.action (job_of t bindings) known source out_old out.contents
  prompt_so = subst (λ j. HandsOver t.action j known source out_old out.contents) is prompt

  pub run_done : IfSome known (λ bytes. Does t.action job bytes out_old out.contents) → out.is_flushed ≡ true → Ends 0
  run_done done flushed =
      inl (
        bindings,
        starts,
        (
          (λ e. (subst (λ j. IfSome known (λ bytes. Does t.action j bytes out_old out.contents)) is done, flushed)),
          (λ n. absurd (n refl)),
          prompt_so,
        ),
      )

  pub run_stopped : (fault : StreamFault) (status : ℕ) → status ≡ status_of fault →
      StopsAction t.action fault job known source out_old out.contents out.has_failed
      → SendsOn t.action fault out.is_flushed → (evidence : Evidence NearRead) → TellsEvidence t.explain t.action fault job known source evidence
      → ReportsStop t.explain (device (name_of t) (devices.source source)) (device name (devices.output out)) fault evidence err_old err.contents err.has_failed
      → Ends status
  run_stopped fault status same stops sent evidence expected reported =
      inl (
        bindings,
        starts,
        (
          (λ e. absurd (some_status fault (sym same ∙ e))),
          (λ n. record {
            fault = fault;
            status_is = same;
            stops = subst (λ j. StopsAction t.action fault j known source out_old out.contents out.has_failed) is stops;
            sent = sent;
            evidence = evidence;
            expected = subst (λ j. TellsEvidence t.explain t.action fault j known source evidence) is expected;
            reported = reported;
          }),
          prompt_so,
        ),
      )

-- the line about an accepted document, of which a beginning was written
pub front_told : (known : Option (List ℕ)) (job : JobRead) (s : Summary) (front text : List ℕ) (old new : Option (List ℕ)) →
    IfSome known (λ bytes. IsAccepted (language_of job) bytes s)
    → text ≡ front ++ accepted_text s → AppendsFront old new text
    → IfSome known (λ bytes. (x : Summary) × IsAccepted (language_of job) bytes x × AppendsFront old new (front ++ accepted_text x))
front_told None job s front text old new accepted is written = tt
front_told (Some bytes) job s front text old new accepted is written = (s, accepted, subst (AppendsFront old new) is written)

use Rattle.rdf_command.proofs.Prelude.{◌∙◌, subst, sym, option_map, AsTold, StopsCheckAs}
use Rattle.rdf_command.proofs.RunLemmas.{front_told}
use Rattle.rdf_command.proofs.runs.check_to.Goals as goal

pub returns-in-Err-write_out-clause-stops : goal.returns-in-Err-write_out-clause-stops
returns-in-Err-write_out-clause-stops g c =
    subst (λ f. AsTold (StopsCheckAs (option_map (λ s. s.now) c.args.name) f c.args.job) g.S.Source g.O.Drain c.args.source.now
    c.check_expecting.new.source c.args.out.now c.write_out.new.out)
    (sym c.stop_of-in-Err-write_out.ensures.fault) (
      c.in-Err-write_out.ensures.failed,
      front_told _ c.args.job c.in-Ok.summary _ _ _ _ c.in-Ok.ensures.accepted
          (c.as_slice.ensures.value ∙ c.in-Ok-accepted_line.ensures) c.in-Err-write_out.ensures.err,
    )

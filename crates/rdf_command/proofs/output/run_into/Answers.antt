use Rattle.rdf_command.proofs.Prelude.{ap, inl, refl, written, outputs_of, drain_tells, source_tells}
use Rattle.rdf_command.proofs.OutputLemmas.{fate, flushed_then}
use Rattle.rdf_command.proofs.output.run_into.Goals as goal

pub finish-requires-clause-flushed : goal.finish-requires-clause-flushed
finish-requires-clause-flushed g c none = flushed_then _ _ c.args.task _ _ _ _ c.run_to_output-status.ensures.ends none

pub returns : goal.returns
returns g c =
    let told = written g.E.Drain in
    inl (
      _,
      refl,
      fate (outputs_of g.H.Host c.args.host.now (drain_tells g.H.Output.Drain g.H.Output.Explains))
          (source_tells g.H.Input.Source g.H.Input.Explains) c.args.name.now c.args.task _ _ _ (g.H.Output.Drain.contents c.in-Ok.output)
          (written g.H.Output.Drain c.run_to_output-status.new.out)
          (g.E.Drain.contents c.args.err.now) (told c.run_to_output-status.new.err) (told c.finish.new.err) c.in-Ok.ensures.empty
          c.run_to_output-status.result c.finish.result c.run_to_output-status.ensures.ends
          (λ some. let s = c.finish.ensures.stopped some in (s.0, ap told s.1)) (λ none. let k = c.finish.ensures.kept none in
          (k.0, ap told k.1, k.2)) c.finish.ensures.left c.finish.ensures.unnamed,
    )

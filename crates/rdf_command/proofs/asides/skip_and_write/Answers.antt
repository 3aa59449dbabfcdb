use Rattle.rdf_command.proofs.Prelude.{option_map, subst, sym, told, written, AsideOut, told_by, outputs_of, devices_of, drain_tells, ending}
use Rattle.rdf_command.proofs.asides.skip_and_write.Goals as goal

pub returns-in-None : goal.returns-in-None
returns-in-None g c =
    subst (λ output. AsideOut (option_map (λ s. s.now) output) (outputs_of g.H.Host c.args.host.now (drain_tells g.H.Output.Drain g.H.Output.Explains))
    (devices_of g.S.Source g.S.Explains g.O.Drain g.O.Explains) (told_by c.args.how.now) c.args.job (g.S.Source.remaining c.args.source.now)
    (told g.S.Source c.skip_onto.new.source)
    (ending c.skip_onto.result (g.O.Drain.contents c.args.out.now) (written g.O.Drain c.skip_onto.new.out)
    (g.E.Drain.contents c.args.err.now) (written g.E.Drain c.skip_onto.new.err))) (sym c.in-None.is) c.skip_onto.ensures

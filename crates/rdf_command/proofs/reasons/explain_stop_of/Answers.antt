use Rattle.rdf_command.proofs.Prelude.{device}
use Rattle.rdf_command.proofs.ReasonLemmas.{stop_as_of}
use Rattle.rdf_command.proofs.reasons.explain_stop_of.Goals as goal

pub returns-in-Refused : goal.returns-in-Refused
returns-in-Refused g c =
    stop_as_of _ _ _ (device c.args.document.0.now (g.S.Explains.tells c.args.document.1.now))
    (device c.args.output.0.now (g.O.Explains.tells c.args.output.1.now))
    _ _ c.args.stop.now.evidence c.in-Refused.is (λ r. r) c.tell_stop_of.ensures

pub returns-in-Memory : goal.returns-in-Memory
returns-in-Memory g c =
    stop_as_of _ _ _ (device c.args.document.0.now (g.S.Explains.tells c.args.document.1.now))
    (device c.args.output.0.now (g.O.Explains.tells c.args.output.1.now))
    _ _ c.args.stop.now.evidence c.in-Memory.is (λ r. r) c.tell_stop_of-in-Memory.ensures

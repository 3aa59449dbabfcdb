use Rattle.rdf_command.proofs.Prelude.{◌∙◌, device}
use Rattle.rdf_command.proofs.ReasonLemmas.{stop_as, stop_read, stop_write}
use Rattle.rdf_command.proofs.reasons.explain_stop.Goals as goal

pub returns-in-Read : goal.returns-in-Read
returns-in-Read g c =
    stop_read _ _ _ (device c.args.document.0.now (g.S.Explains.tells c.args.document.1.now))
    (device c.args.output.0.now (g.O.Explains.tells c.args.output.1.now))
    _ _ c.args.stop.now.evidence c.in-Read.is (c.as_bytes.ensures.value ∙ c.read_failed.ensures) c.tell_failed.ensures

pub returns-in-Write : goal.returns-in-Write
returns-in-Write g c =
    stop_write _ _ _ (device c.args.document.0.now (g.S.Explains.tells c.args.document.1.now))
    (device c.args.output.0.now (g.O.Explains.tells c.args.output.1.now))
    _ _ c.args.stop.now.evidence c.in-Write.is (c.as_bytes-in-Write.ensures.value ∙ c.write_failed.ensures) c.tell_failed-in-Write.ensures

pub returns-in-Refused : goal.returns-in-Refused
returns-in-Refused g c =
    stop_as _ _ _ (device c.args.document.0.now (g.S.Explains.tells c.args.document.1.now))
    (device c.args.output.0.now (g.O.Explains.tells c.args.output.1.now))
    _ _ c.args.stop.now.evidence c.in-Refused.is (λ r. r) c.tell_stop.ensures

pub returns-in-Memory : goal.returns-in-Memory
returns-in-Memory g c =
    stop_as _ _ _ (device c.args.document.0.now (g.S.Explains.tells c.args.document.1.now))
    (device c.args.output.0.now (g.O.Explains.tells c.args.output.1.now))
    _ _ c.args.stop.now.evidence c.in-Memory.is (λ r. r) c.tell_stop-in-Memory.ensures

use Rattle.rdf_command.proofs.Prelude.{◌∙◌, device}
use Rattle.rdf_command.proofs.ReasonLemmas.{bindings_read}
use Rattle.rdf_command.proofs.reasons.explain_bindings.Goals as goal

pub returns-in-Read-clause-reported : goal.returns-in-Read-clause-reported
returns-in-Read-clause-reported g c =
    bindings_read _ _ _ (device c.args.file.0.now (g.S.Explains.tells c.args.file.1.now)) _ _ c.in-Read.is
    (c.as_bytes.ensures.value ∙ c.read_failed.ensures) c.tell_failed.ensures

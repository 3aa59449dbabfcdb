use Rattle.rdf_command.proofs.ReportLemmas.{told_of}
use Rattle.rdf_command.proofs.reports.tell_stop_of.Goals as goal

pub returns-in-Ok : goal.returns-in-Ok
returns-in-Ok g c =
    told_of c.args.explain c.args.name.now c.args.stop.now.fault c.args.stop.now.evidence _ _ _ c.deref.result.now c.in-Ok.text.items
    c.deref.ensures.value c.in-Ok.ensures c.tell_of.ensures

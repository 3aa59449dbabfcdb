use Rattle.rdf_lines.proofs.Prelude.{subst, IfSome, form_of, WrittenAt}
use Rattle.rdf_lines.proofs.PlacedLines.{plain_iris_bytes}
use Rattle.rdf_lines.proofs.writer.put_short_iris.Goals as goal

pub returns-in-Plain-clause-written : goal.returns-in-Plain-clause-written
returns-in-Plain-clause-written c =
    let line = plain_iris_bytes (form_of c.args.form.now) c.args.subject c.args.predicate c.args.object c.in-Plain.is in
    subst (λ bytes. IfSome c.put_few_at_once.result (λ end. WrittenAt c.args.slot.now c.put_few_at_once.new.slot c.args.at bytes end))
    line c.put_few_at_once.ensures.written

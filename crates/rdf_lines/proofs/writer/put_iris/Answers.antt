use Rattle.rdf_lines.proofs.Prelude.{subst, IfOk, form_of, WrittenAt}
use Rattle.rdf_lines.proofs.PlacedLines.{plain_iris_bytes}
use Rattle.rdf_lines.proofs.writer.put_iris.Goals as goal

pub returns-in-Some-clause-written : goal.returns-in-Some-clause-written
returns-in-Some-clause-written g c =
    let line = plain_iris_bytes (form_of c.args.form.now) c.args.subject c.args.predicate c.args.object c.in-Plain.is in
    subst (λ bytes. IfOk c.put_iris_at_once.result (λ end. WrittenAt c.args.out.now.items c.put_iris_at_once.new.out.items c.args.at bytes end))
    line c.put_iris_at_once.ensures.written

use Rattle.rdf_lines.proofs.Prelude.{ap, Form}
use Rattle.rdf_lines.proofs.form.WrittenForm.new.Goals as goal

pub returns : goal.returns
returns c = ap {B = Form} (λ word. record { style = c.args.style; escapes = c.args.escapes; prefix = word }) c.none.ensures

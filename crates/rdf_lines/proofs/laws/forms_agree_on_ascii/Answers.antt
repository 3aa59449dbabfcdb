use Rattle.rdf_lines.proofs.FormsAgree.{forms_agree}
use Rattle.rdf_lines.proofs.laws.forms_agree_on_ascii.Goals as goal

pub returns : goal.returns
returns c = forms_agree

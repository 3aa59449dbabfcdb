use Rattle.rdf_trig.proofs.Prelude.{ap, Chosen}
use Rattle.rdf_trig.proofs.reader.Options.rules.Goals as goal

pub returns-clause-form : goal.returns-clause-form
returns-clause-form g c = ap (λ (x : Chosen). x.form) c.self.view_is

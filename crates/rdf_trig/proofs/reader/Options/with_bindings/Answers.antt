use Rattle.rdf_trig.proofs.Prelude.{ap, Chosen}
use Rattle.rdf_trig.proofs.reader.Options.with_bindings.Goals as goal

pub returns : goal.returns
returns g c = ap (λ (x : Chosen). record { form = x.form; start = record x.start { bindings = c.args.bindings.bindings } }) c.self.view_is

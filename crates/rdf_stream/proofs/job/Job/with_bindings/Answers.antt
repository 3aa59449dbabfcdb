use Rattle.rdf_stream.proofs.Prelude.{ap, JobRead}
use Rattle.rdf_stream.proofs.job.Job.with_bindings.Goals as goal

pub returns : goal.returns
returns g c = ap (λ (j : JobRead). record j { bindings = c.args.bindings.bindings }) c.self.view_is

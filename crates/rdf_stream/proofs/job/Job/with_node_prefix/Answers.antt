use Rattle.rdf_stream.proofs.Prelude.{ap, JobRead}
use Rattle.rdf_stream.proofs.job.Job.with_node_prefix.Goals as goal

pub returns : goal.returns
returns g c = ap (λ (j : JobRead). record j { node_prefix = c.args.prefix }) c.self.view_is

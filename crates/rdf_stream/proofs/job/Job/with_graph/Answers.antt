use Rattle.rdf_stream.proofs.Prelude.{ap, Some, JobRead}
use Rattle.rdf_stream.proofs.job.Job.with_graph.Goals as goal

pub returns : goal.returns
returns g c = ap (λ (j : JobRead). record j { graph = Some c.args.graph }) c.self.view_is

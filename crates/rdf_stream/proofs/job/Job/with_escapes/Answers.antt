use Rattle.rdf_stream.proofs.Prelude.{ap, JobRead}
use Rattle.rdf_stream.proofs.job.Job.with_escapes.Goals as goal

pub returns : goal.returns
returns g c = ap (λ (j : JobRead). record j { escapes = c.args.escapes }) c.job.view_is

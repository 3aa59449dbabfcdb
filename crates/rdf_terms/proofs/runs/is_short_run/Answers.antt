use Rattle.rdf_terms.proofs.Prelude.{goes_over}
use Rattle.rdf_terms.proofs.RunsLemmas.{run_decides}
use Rattle.rdf_terms.proofs.runs.is_short_run.Goals as goal

pub returns-in_default : goal.returns-in_default
returns-in_default c = run_decides (goes_over c.args.run) c.args.bytes.now c.short_run_end.result c.short_run_end.ensures

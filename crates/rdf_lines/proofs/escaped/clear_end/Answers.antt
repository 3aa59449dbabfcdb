use Rattle.rdf_lines.proofs.EscapedParts.{run_clear}
use Rattle.rdf_lines.proofs.escaped.clear_end.Goals as goal

pub returns-clause-clear : goal.returns-clause-clear
returns-clause-clear c = run_clear c.args.bytes.now c.args.from c.run_end.result c.requires.clear c.run_end.ensures

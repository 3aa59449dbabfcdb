use Rattle.rdf_trig.proofs.code.LawfulGrammar.{begins_here}
use Rattle.rdf_trig.proofs.reader.tree_reader.Goals as goal

pub new-requires-2-clause-begins : goal.new-requires-2-clause-begins
new-requires-2-clause-begins g c = ∣ (c.args.options, begins_here c.new.result c.args.options c.new.ensures) ∣₁

pub returns-clause-read : goal.returns-clause-read
returns-clause-read g c = c.new-2.ensures.read c.args.options (begins_here c.new.result c.args.options c.new.ensures)

use Rattle.rdf_trig.proofs.code.LawfulGrammar.{lawful}
use Rattle.rdf_trig.proofs.grammar.TreeGrammarGrammar.dialect.Goals as goal

pub returns-clause-lawful : goal.returns-clause-lawful
returns-clause-lawful g c = lawful

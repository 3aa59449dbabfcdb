use Rattle.rdf_stream.proofs.PassesLemmas.{rewrites_none}
use Rattle.rdf_stream.proofs.passes.TreeGrammarPasses.pass_escaped.Goals as goal

pub returns-clause-passes : goal.returns-clause-passes
returns-clause-passes g c = rewrites_none _ _ _ _

use Rattle.rdf_stream.proofs.PassesLemmas.{passes_none}
use Rattle.rdf_stream.proofs.passes.TreeGrammarPasses.pass.Goals as goal

pub returns-clause-passes : goal.returns-clause-passes
returns-clause-passes g c = passes_none _ _ _ _

use Rattle.rdf_stream.proofs.PassesLemmas.{lines_passed}
use Rattle.rdf_stream.proofs.passes.LineGrammarPasses.pass.Goals as goal

pub returns-clause-passes : goal.returns-clause-passes
returns-clause-passes g c = lines_passed _ _ _ _ c.pass_lines.ensures.passes

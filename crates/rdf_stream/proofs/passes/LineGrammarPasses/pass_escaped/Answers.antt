use Rattle.rdf_stream.proofs.Prelude.{IfOk-weaker}
use Rattle.rdf_stream.proofs.PassesLemmas.{lines_rewritten, refused_rewritten}
use Rattle.rdf_stream.proofs.passes.LineGrammarPasses.pass_escaped.Goals as goal

pub returns-clause-passes : goal.returns-clause-passes
returns-clause-passes g c = IfOk-weaker _ _ _ (λ n. lines_rewritten _ _ _ _ _) c.pass_escaped.ensures.passes

pub returns-clause-refused : goal.returns-clause-refused
returns-clause-refused g c = refused_rewritten _ _ _ _ _ _ c.pass_escaped.ensures.refused

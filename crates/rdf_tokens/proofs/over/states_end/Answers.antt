-- The states go over a whole text at most.
use Rattle.rdf_tokens.proofs.Prelude.{refl, arith}
use Rattle.rdf_tokens.proofs.ByteLemmas.{at-start}
use Rattle.rdf_tokens.proofs.OverLemmas.{few, come-end}
use Rattle.rdf_tokens.proofs.over.states_end.Goals as goal

pub returns-clause-end : goal.returns-clause-end
returns-clause-end c = come-end c.args.dialect c.args.text.now c.walk_on.result c.walk_on.ensures.came c.walk_on.ensures.stop

pub returns-clause-few : goal.returns-clause-few
returns-clause-few c =
    let h = c.walk_on.ensures.came.here in
    let i = h.inside in
    omega (arith, few c.args.text.now c.walk_on.result.at c.walk_on.result.count h, i)

pub walk_on-requires-clause-came : goal.walk_on-requires-clause-came
walk_on-requires-clause-came c = record { here = at-start c.args.text.now c.utf8.text; state = refl }

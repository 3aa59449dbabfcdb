-- The loop over the kinds: those before the one in hand were asked, and after the last one all were.
use Rattle.rdf_driver.proofs.Prelude.{refl, subst, sym, number, KnowsNext}
use Rattle.rdf_driver.proofs.KindsLemmas.{AskedTo, asked_one, asked_all}
use Rattle.rdf_driver.proofs.expected.expected.Goals as goal

pub kinds-preserved : goal.kinds-preserved
kinds-preserved g c =
    let known = KnowsNext g.G.Grammar.words g.G.Foresees.trees c.args.grammar.now in
    subst (λ n. AskedTo known n c.asked-kinds.result) (sym c.in-Some.ensures)
    (asked_one known (number c.kinds.kind) c.kinds.kinds c.asked-kinds.result c.kinds.kind refl c.asked-kinds.ensures.exact
    c.asked-kinds.ensures.others c.kinds.invariant)

pub returns-in-None : goal.returns-in-None
returns-in-None g c =
    let known = KnowsNext g.G.Grammar.words g.G.Foresees.trees c.args.grammar.now in
    record {
      exact = asked_all known (number c.kinds.kind) c.asked-kinds.result c.in-None.ensures (asked_one known (number c.kinds.kind)
          c.kinds.kinds c.asked-kinds.result c.kinds.kind refl c.asked-kinds.ensures.exact c.asked-kinds.ensures.others c.kinds.invariant);
    }

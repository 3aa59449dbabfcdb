use Rattle.rdf_terms.proofs.Prelude.{sym, ltb-true, ltb-false}
use Rattle.rdf_terms.specs.Owned.{owned_quad}
use Rattle.rdf_terms.proofs.ViewLemmas.{seen_here, seen_past}
use Rattle.rdf_terms.proofs.list.QuadList.get.Goals as goal

pub returns-in-Some : goal.returns-in-Some
returns-in-Some g c =
    seen_here owned_quad _ _ _ c.args.index c.deref.ensures.value c.self.view_is c.in-Some.quad.now _
    (ltb-true c.args.index _ (sym c.in-Some.ensures.lookup.0)) c.in-Some.ensures.lookup.1 c.view.ensures

pub returns-in-None : goal.returns-in-None
returns-in-None g c =
    seen_past owned_quad _ _ _ c.args.index c.deref.ensures.value c.self.view_is (ltb-false c.args.index _ (sym c.in-None.ensures.lookup.0))

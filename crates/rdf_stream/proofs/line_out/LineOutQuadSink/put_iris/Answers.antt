use Rattle.rdf_stream.proofs.Prelude.{refl, sym, subst, ◌∙◌, eqb-true, on_err_weaker, on_ok_weaker, IsQuad}
use Rattle.rdf_terms.specs.Views.{quad_of}
use Rattle.rdf_stream.proofs.LineOutLemmas.{left_by, taken_by}
use Rattle.rdf_stream.proofs.OutputLemmas.{no_graph}
use Rattle.rdf_stream.proofs.line_out.LineOutQuadSink.put_iris.Goals as goal

pub returns-then-is_none-clause-left : goal.returns-then-is_none-clause-left
returns-then-is_none-clause-left g c =
    let seen = subst (λ q. ∥ IsQuad (quad_of q) ∥₁) c.of_iris.ensures c.see_quad.ensures in
    on_err_weaker c.put_line_of_iris.result
    (left_by g.D.Drain.contents g.D.Drain.has_failed c.args.self.now _ _ seen _ (sym (no_graph _ (eqb-true _ 0 (sym c.is_none.ensures ∙ c.if-is_none.true)))))
    c.put_line_of_iris.ensures.left

pub returns-clause-left : goal.returns-clause-left
returns-clause-left g c =
    let seen = subst (λ q. ∥ IsQuad (quad_of q) ∥₁) c.of_iris.ensures c.see_quad.ensures in
    on_err_weaker c.put_iris_in_graph.result
    (left_by g.D.Drain.contents g.D.Drain.has_failed c.args.self.now _ _ seen _ refl)
    c.put_iris_in_graph.ensures.left

pub returns-then-is_none-clause-taken : goal.returns-then-is_none-clause-taken
returns-then-is_none-clause-taken g c =
    let seen = subst (λ q. ∥ IsQuad (quad_of q) ∥₁) c.of_iris.ensures c.see_quad.ensures in
    on_ok_weaker c.put_line_of_iris.result
    (taken_by g.D.Drain.contents g.D.Drain.has_failed c.args.self.now _ _ seen _ (sym (no_graph _ (eqb-true _ 0 (sym c.is_none.ensures ∙ c.if-is_none.true)))))
    c.put_line_of_iris.ensures.taken

pub returns-clause-taken : goal.returns-clause-taken
returns-clause-taken g c =
    let seen = subst (λ q. ∥ IsQuad (quad_of q) ∥₁) c.of_iris.ensures c.see_quad.ensures in
    on_ok_weaker c.put_iris_in_graph.result
    (taken_by g.D.Drain.contents g.D.Drain.has_failed c.args.self.now _ _ seen _ refl)
    c.put_iris_in_graph.ensures.taken

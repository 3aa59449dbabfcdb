use Rattle.rdf_stream.proofs.Prelude.{refl, sym, ◌∙◌, eqb-true, on_err_weaker, on_ok_weaker}
use Rattle.rdf_stream.proofs.LineOutLemmas.{left_by, taken_by}
use Rattle.rdf_stream.proofs.OutputLemmas.{no_graph}
use Rattle.rdf_stream.proofs.line_out.LineOutQuadSink.put.Goals as goal

pub returns-then-is_none-clause-left : goal.returns-then-is_none-clause-left
returns-then-is_none-clause-left g c =
    on_err_weaker c.put_as_it_is.result
    (left_by g.D.Drain.contents g.D.Drain.has_failed c.args.self.now _ _ c.see_quad.ensures _
    (sym (no_graph _ (eqb-true _ 0 (sym c.is_none.ensures ∙ c.if-is_none.true)))))
    c.put_as_it_is.ensures.left

pub returns-clause-left : goal.returns-clause-left
returns-clause-left g c =
    on_err_weaker c.put_in_graph.result (left_by g.D.Drain.contents g.D.Drain.has_failed c.args.self.now _ _ c.see_quad.ensures _ refl)
    c.put_in_graph.ensures.left

pub returns-then-is_none-clause-taken : goal.returns-then-is_none-clause-taken
returns-then-is_none-clause-taken g c =
    on_ok_weaker c.put_as_it_is.result
    (taken_by g.D.Drain.contents g.D.Drain.has_failed c.args.self.now _ _ c.see_quad.ensures _
    (sym (no_graph _ (eqb-true _ 0 (sym c.is_none.ensures ∙ c.if-is_none.true)))))
    c.put_as_it_is.ensures.taken

pub returns-clause-taken : goal.returns-clause-taken
returns-clause-taken g c =
    on_ok_weaker c.put_in_graph.result (taken_by g.D.Drain.contents g.D.Drain.has_failed c.args.self.now _ _ c.see_quad.ensures _ refl)
    c.put_in_graph.ensures.taken

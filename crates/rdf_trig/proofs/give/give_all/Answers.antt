-- The three quads that a token may give out are put in their order; after a failed put some of them were.
use Rattle.rdf_trig.proofs.Prelude.{◌++◌, [], sym, ap, subst, refl, length, length-append, arith, option_map, Appends, quad_of, kept, GaveUp}
use Rattle.rdf_trig.proofs.code.DueQuads.{given_in}
use Rattle.rdf_trig.proofs.code.PutsInRow.{appends_append, gave_more, gave_after, told_stops}
use Rattle.rdf_trig.proofs.give.give_all.Goals as goal

pub returns-in_err-rest-clause-err : goal.returns-in_err-rest-clause-err
returns-in_err-rest-clause-err g c =
    let told = c.in_err-rest.field-0.0 in
    told_stops c.from_residual.result told _ c.from_residual.ensures.1
    (λ form s. subst (λ qs. GaveUp g.S.QuadSink.takes g.S.QuadSink.leaves g.S.QuadSink.has_failed told qs c.args.sink.now c.put.new.sink)
    (sym (given_in form s c.args.state.now c.args.token.now _
    (option_map quad_of c.rest_quad.result) _ _ c.graph-graph.ensures c.rest_quad.ensures
    refl refl))
    (gave_more g.S.QuadSink.takes g.S.QuadSink.leaves g.S.QuadSink.has_failed told c.args.sink.now c.put.new.sink
    (kept (option_map quad_of c.rest_quad.result) []) _ c.in_err-rest.ensures.err))

pub returns-in_err-last-clause-err : goal.returns-in_err-last-clause-err
returns-in_err-last-clause-err g c =
    let told = c.in_err-last.field-0.0 in
    told_stops c.from_residual-in_err-last.result told _ c.from_residual-in_err-last.ensures.1
    (λ form s. subst (λ qs. GaveUp g.S.QuadSink.takes g.S.QuadSink.leaves g.S.QuadSink.has_failed told qs c.args.sink.now c.put-2.new.sink)
    (sym (given_in form s c.args.state.now c.args.token.now _
    (option_map quad_of c.rest_quad.result) (option_map quad_of c.last_quad.result) _ c.graph-graph.ensures c.rest_quad.ensures
    c.last_quad.ensures refl))
    (gave_after g.S.QuadSink.takes g.S.QuadSink.leaves g.S.QuadSink.has_failed told c.args.sink.now c.put.new.sink c.put-2.new.sink
    (kept (option_map quad_of c.rest_quad.result) []) _ c.in_ok-rest.ensures.ok
    (gave_more g.S.QuadSink.takes g.S.QuadSink.leaves g.S.QuadSink.has_failed told c.put.new.sink c.put-2.new.sink
    (kept (option_map quad_of c.last_quad.result) []) _ c.in_err-last.ensures.err)))

pub returns-in_err-due-clause-err : goal.returns-in_err-due-clause-err
returns-in_err-due-clause-err g c =
    let told = c.in_err-due.field-0.0 in
    told_stops c.from_residual-in_err-due.result told _ c.from_residual-in_err-due.ensures.1
    (λ form s. subst (λ qs. GaveUp g.S.QuadSink.takes g.S.QuadSink.leaves g.S.QuadSink.has_failed told qs c.args.sink.now c.put-3.new.sink)
    (sym (given_in form s c.args.state.now c.args.token.now _
    (option_map quad_of c.rest_quad.result) (option_map quad_of c.last_quad.result)
    (option_map quad_of c.due_quad.result) c.graph-graph.ensures c.rest_quad.ensures
    c.last_quad.ensures (c.due_quad.ensures form)))
    (gave_after g.S.QuadSink.takes g.S.QuadSink.leaves g.S.QuadSink.has_failed told c.args.sink.now c.put.new.sink c.put-3.new.sink
    (kept (option_map quad_of c.rest_quad.result) []) _ c.in_ok-rest.ensures.ok
    (gave_after g.S.QuadSink.takes g.S.QuadSink.leaves g.S.QuadSink.has_failed told c.put.new.sink c.put-2.new.sink c.put-3.new.sink
    (kept (option_map quad_of c.last_quad.result) []) (kept (option_map quad_of c.due_quad.result) []) c.in_ok-last.ensures.ok c.in_err-due.ensures.err)))

pub returns-clause-ok : goal.returns-clause-ok
returns-clause-ok g c = λ form s.
    subst (λ qs. Appends g.S.QuadSink.takes c.args.sink.now qs c.put-3.new.sink)
    (sym (given_in form s c.args.state.now c.args.token.now _
    (option_map quad_of c.rest_quad.result) (option_map quad_of c.last_quad.result)
    (option_map quad_of c.due_quad.result) c.graph-graph.ensures c.rest_quad.ensures
    c.last_quad.ensures (c.due_quad.ensures form)))
    (appends_append g.S.QuadSink.takes c.args.sink.now c.put.new.sink c.put-3.new.sink
    (kept (option_map quad_of c.rest_quad.result) []) _ c.in_ok-rest.ensures.ok
    (appends_append g.S.QuadSink.takes c.put.new.sink c.put-2.new.sink c.put-3.new.sink (kept (option_map quad_of c.last_quad.result) [])
    (kept (option_map quad_of c.due_quad.result) []) c.in_ok-last.ensures.ok c.in_ok-due.ensures.ok))

pub returns-clause-count : goal.returns-clause-count
returns-clause-count g c = λ form s.
    let size = ap length (given_in form s c.args.state.now c.args.token.now _
    (option_map quad_of c.rest_quad.result) (option_map quad_of c.last_quad.result)
    (option_map quad_of c.due_quad.result) c.graph-graph.ensures c.rest_quad.ensures
    c.last_quad.ensures (c.due_quad.ensures form)) in
    let a = length-append (kept (option_map quad_of c.rest_quad.result) [])
    ((kept (option_map quad_of c.last_quad.result) []) ++ (kept (option_map quad_of c.due_quad.result) [])) in
    let b = length-append (kept (option_map quad_of c.last_quad.result) []) (kept (option_map quad_of c.due_quad.result) []) in
    let first = c.in_ok-rest.ensures.count in
    let second = c.in_ok-last.ensures.count in
    let third = c.in_ok-due.ensures.count in
    omega (arith, size, a, b, first, second, third)

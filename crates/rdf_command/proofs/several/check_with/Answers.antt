-- The first document, each further one, and the end.
use Rattle.rdf_command.proofs.Prelude.{◌∙◌, ◌∷◌, ◌+◌, ap, drop, false, subst, sym, string_bytes, arith, drop_all, drop_more, written, documents_of, shut_of, devices_of, ending, EndsAt, shared_of, further_of, name_by}
use Rattle.rdf_command.proofs.SeveralLemmas.{Completes, both_live, completed, first_completes, next_completes, stopped}
use Rattle.rdf_command.proofs.several.check_with.Goals as goal

pub loop-document-init : goal.loop-document-init
loop-document-init g c =
    let has_document = g.H.Host.has_document c.args.host.now in
    let shut = shut_of g.H.Host c.args.host.now (devices_of g.H.Input.Source g.H.Input.Explains g.O.Drain g.O.Explains) in
    let shared = shared_of c.args.plan.now in
    let whole = documents_of c.args.task.now in
    let out = written g.O.Drain c.args.out.now in
    let err = written g.E.Drain c.args.err.now in
    let out_next = written g.O.Drain c.check_next-turn.new.out in
    let err_next = written g.E.Drain c.check_next-turn.new.err in
    let turn = c.check_next-turn.result in
    let one = subst (λ name. EndsAt shared.folder has_document shut shared (c.args.task.now.form, name)
    (ending turn.status out.contents out_next err.contents err_next))
    (c.name_by.ensures ∙ ap name_by c.as_deref.ensures.value) c.check_next-turn.ensures.ends in
    let next = next_completes has_document shut shared whole out.contents err.contents _ _ 0 turn.status turn.has_failed out err out_next err_next
    (first_completes has_document shut shared whole out err) one c.check_next-turn.ensures.failed in
    let at = subst (λ so_far. Completes has_document shut shared whole out.contents err.contents
    (further_of c.args.task.now.more.items) turn.has_failed so_far out_next err_next)
    (sym c.status_after-worst.ensures) next in
    record {
      completes = subst (λ more. Completes has_document shut shared whole out.contents err.contents
          (further_of more) turn.has_failed c.status_after-worst.result out_next err_next)
          (sym c.as_slice-more.ensures.value) at;
      failed = c.check_next-turn.ensures.failed;
    }

pub returns-then-turn : goal.returns-then-turn
returns-then-turn g c =
    stopped (g.H.Host.has_document c.args.host.now) (shut_of g.H.Host c.args.host.now
    (devices_of g.H.Input.Source g.H.Input.Explains g.O.Drain g.O.Explains)) (shared_of c.args.plan.now) (documents_of c.args.task.now)
    (g.O.Drain.contents c.args.out.now) (g.E.Drain.contents c.args.err.now) _ c.loop-document.worst c.loop-document.turn.has_failed
    (written g.O.Drain c.loop-document.out) (written g.E.Drain c.loop-document.err) c.if-turn.true c.loop-document.invariant.completes

pub check_next-turn-requires-in-loop-document-clause-out : goal.check_next-turn-requires-in-loop-document-clause-out
check_next-turn-requires-in-loop-document-clause-out g c = (both_live _ _ c.loop-document.turn.has_failed c.loop-document.invariant.failed c.if-turn.false).0

pub check_next-turn-requires-in-loop-document-clause-err : goal.check_next-turn-requires-in-loop-document-clause-err
check_next-turn-requires-in-loop-document-clause-err g c = (both_live _ _ c.loop-document.turn.has_failed c.loop-document.invariant.failed c.if-turn.false).1

pub loop-document-preserved : goal.loop-document-preserved
loop-document-preserved g c =
    let has_document = g.H.Host.has_document c.args.host.now in
    let shut = shut_of g.H.Host c.args.host.now (devices_of g.H.Input.Source g.H.Input.Explains g.O.Drain g.O.Explains) in
    let shared = shared_of c.args.plan.now in
    let whole = documents_of c.args.task.now in
    let out_old = g.O.Drain.contents c.args.out.now in
    let err_old = g.E.Drain.contents c.args.err.now in
    let at = c.loop-document.document-index in
    let all = c.as_slice-more.result.now in
    let d = c.document-item.result in
    let left = drop_more all at d c.loop-document-test.true ∙ ap (λ x. x ∷ drop (at + 1) all) (sym c.document-item.is) in
    let out_now = written g.O.Drain c.loop-document.out in
    let err_now = written g.E.Drain c.loop-document.err in
    let out_next = written g.O.Drain c.check_next-turn-in-loop-document.new.out in
    let err_next = written g.E.Drain c.check_next-turn-in-loop-document.new.err in
    let turn = c.check_next-turn-in-loop-document.result in
    let worst = c.loop-document.worst in
    let goes = subst (λ b. Completes has_document shut shared whole out_old err_old (further_of (drop at all)) b worst out_now err_now)
    c.if-turn.false c.loop-document.invariant.completes in
    let before = subst (λ ds. Completes has_document shut shared whole out_old err_old ds false worst out_now err_now) (ap further_of left) goes in
    let one = subst (λ name. EndsAt shared.folder has_document shut shared (d.form, name)
    (ending turn.status out_now.contents out_next err_now.contents err_next)) c.as_str.ensures.value
    c.check_next-turn-in-loop-document.ensures.ends in
    let next = next_completes has_document shut shared whole out_old err_old (d.form, string_bytes d.name)
    (further_of (drop (at + 1) all)) worst turn.status turn.has_failed out_now err_now out_next err_next
    before one c.check_next-turn-in-loop-document.ensures.failed in
    record {
      completes = subst (λ so_far. Completes has_document shut shared whole out_old err_old
          (further_of (drop (at + 1) all)) turn.has_failed so_far out_next err_next)
          (sym c.status_after-worst-in-loop-document.ensures) next;
      failed = c.check_next-turn-in-loop-document.ensures.failed;
    }

pub returns : goal.returns
returns g c =
    let all = c.as_slice-more.result.now in
    let end = drop_all c.loop-document.document-index all (omega (arith, c.loop-document-test.false)) in
    completed (g.H.Host.has_document c.args.host.now) (shut_of g.H.Host c.args.host.now
    (devices_of g.H.Input.Source g.H.Input.Explains g.O.Drain g.O.Explains)) (shared_of c.args.plan.now) (documents_of c.args.task.now)
    (g.O.Drain.contents c.args.out.now) (g.E.Drain.contents c.args.err.now) c.loop-document.worst c.loop-document.turn.has_failed
    (written g.O.Drain c.loop-document.out) (written g.E.Drain c.loop-document.err)
    (subst (λ ds. Completes (g.H.Host.has_document c.args.host.now) (shut_of g.H.Host c.args.host.now
    (devices_of g.H.Input.Source g.H.Input.Explains g.O.Drain g.O.Explains)) (shared_of c.args.plan.now) (documents_of c.args.task.now)
    (g.O.Drain.contents c.args.out.now) (g.E.Drain.contents c.args.err.now) ds c.loop-document.turn.has_failed c.loop-document.worst
    (written g.O.Drain c.loop-document.out) (written g.E.Drain c.loop-document.err)) (ap further_of end) c.loop-document.invariant.completes)

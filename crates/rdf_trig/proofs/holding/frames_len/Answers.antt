-- The next frame is counted, and the others are left.
use Rattle.rdf_trig.proofs.Prelude.{ap, arith, sum_by-drop_more, frame_bytes}
use Rattle.rdf_trig.proofs.holding.frames_len.Goals as goal

pub frame_len-held-requires : goal.frame_len-held-requires
frame_len-held-requires g c =
    let next = sum_by-drop_more frame_bytes c.args.frames.now c.loop-frame.frame-index c.frame-item.result c.loop-frame-test.true in
    let item = ap (frame_bytes {A = g.row.A.Denot}) c.frame-item.is in
    omega (arith, next, item)

pub overflow_add-held : goal.overflow_add-held
overflow_add-held g c =
    let next = sum_by-drop_more frame_bytes c.args.frames.now c.loop-frame.frame-index c.frame-item.result c.loop-frame-test.true in
    let item = ap (frame_bytes {A = g.row.A.Denot}) c.frame-item.is in
    omega (arith, next, item)

pub loop-frame-preserved : goal.loop-frame-preserved
loop-frame-preserved g c =
    let next = sum_by-drop_more frame_bytes c.args.frames.now c.loop-frame.frame-index c.frame-item.result c.loop-frame-test.true in
    let item = ap (frame_bytes {A = g.row.A.Denot}) c.frame-item.is in
    omega (arith, next, item)

use Rattle.rdf_trig.proofs.Prelude.{ap, ◌∙◌, arith, sum_by, frame_bytes}
use Rattle.rdf_trig.proofs.state.State.held.Goals as goal

pub returns : goal.returns
returns g c =
    let graph = c.len.ensures in
    let object = c.len-2.ensures in
    let text = c.len-3.ensures in
    let datatype = c.len-4.ensures in
    let tag = c.len-5.ensures in
    let name = c.len-6.ensures in
    let frame = c.frame_len.ensures in
    let frames = c.frames_len.ensures ∙ ap (λ fs. sum_by (frame_bytes {A = g.row.A.Denot}) fs) c.deref.ensures.value in
    let spares = c.len-7.ensures in
    omega (arith, graph, object, text, datatype, tag, name, frame, frames, spares)

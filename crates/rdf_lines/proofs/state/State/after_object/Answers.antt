use Rattle.rdf_lines.proofs.Prelude.{refl, ap, AfterGraph, object_of, predicate_of}
use Rattle.rdf_lines.proofs.state.State.after_object.Goals as goal

pub returns-in_ok-set_label-in-NQuads-LabelNode-clause-ok : goal.returns-in_ok-set_label-in-NQuads-LabelNode-clause-ok
returns-in_ok-set_label-in-NQuads-LabelNode-clause-ok g c =
    let s = c.args.self.now in
    let label = ap (AfterGraph s.subject (predicate_of s) (object_of s c.args.kind)) c.in_ok-set_label-in-NQuads-LabelNode.ensures.ok in
    rw c.in-NQuads-LabelNode.is-0 (rw c.in-NQuads-LabelNode.is-1 (label, refl))

use Rattle.rdf_stream.proofs.Prelude.{rules, ◌++◌, take, Appends-trans, append_assoc, take_rest, take-append-drop}
use Rattle.rdf_stream.proofs.put.put_all.Goals as goal

pub loop-rest-preserved : goal.loop-rest-preserved
loop-rest-preserved g c =
    let (moved, whole, written, live) = c.loop-rest.invariant in (
      moved ++ take c.in_ok-count.count c.loop-rest.rest.now,
      rw (take_rest, append_assoc, take-append-drop) whole,
      Appends-trans _ _ _ _ _ written c.in_ok-count.ensures.bytes,
      search rules,
    )

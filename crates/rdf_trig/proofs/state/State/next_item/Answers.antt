use Rattle.rdf_trig.proofs.Prelude.{◌≡◌, ℕ, Option, Some, subst, leaf, graph_of, rest_of, setting_in, up_in, moved, begun}
use Rattle.rdf_trig.specs.Machine as M
use Rattle.rdf_trig.proofs.code.TurnsLemmas.{on_ok}
use Rattle.rdf_trig.proofs.state.State.next_item.Goals as goal

pub returns-clause-takes : goal.returns-clause-takes
returns-clause-takes g c = on_ok c.object.result _ _ (λ h form s u.
    let self = c.args.self.now in
    let at = c.args.token.now.offset in
    let cells = c.cells-first in
    let replies : ℕ × ℕ → Option (ℕ × ℕ) → Type 0 = λ p rest. begun (setting_in s self) u self.name (M.InCollection p.0 at (up_in self))
    (rest_of (graph_of self.level self.graph) rest) c.args.start (leaf c.args.token.now)
    ≡ moved form s u c.object.new.self in
    subst (λ p. replies p (Some (p.1, at))) cells.ensures (subst (replies cells.result) c.of.ensures (h form s u))) c.object.ensures.takes

pub returns-clause-fits : goal.returns-clause-fits
returns-clause-fits g c =
    on_ok c.object.result _ _
    (λ h n t i f. h n t i (record {
      graph = f.graph;
      object = f.object;
      tail = f.tail;
      frame = f.frame;
      frames = f.frames;
      spares = f.spares;
    })) c.object.ensures.fits

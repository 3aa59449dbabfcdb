-- The object is at the place in hand, or at that of the last frame below.
use Rattle.rdf_trig.proofs.Prelude.{◌≡◌, subst, option_map, slice_get, length, ◌-◌, Some, chars, subject_by, term_by, quad_of, IsQuadAt, due_term}
use Rattle.rdf_trig.proofs.code.DueQuads.{due_here, due_above}
use Rattle.rdf_trig.proofs.give.due_quad.Goals as goal
use Rattle.rdf_trig.proofs.give.due_quad.Goals.{in-After, in_default+in-Some-last}

pub returns : goal.returns
returns g c form =
    let n = c.args.state.now in
    let t = c.args.token.now in
    let graph = option_map (subject_by chars) c.args.graph in
    let o = term_by chars c.in-Some.object in
    let q = Some (quad_of c.quad_at.result) in
    let due : Some o ≡ due_term n n.mode t = c.in-Some.ensures in
    elim c.match-state.branch [
      | in-After w ↦ due_here form n n.mode t graph o q w.in-After.is due (subst (λ f. IsQuadAt f.now graph o q) w.frame-is c.quad_at.ensures)
      | in_default+in-Some-last w ↦
          let f = w.in-Some-last.frame.now in
          let last = subst (λ fs. Some f ≡ slice_get fs (length fs - 1)) w.deref.ensures.value w.in-Some-last.ensures.value in
          due_above form n n.mode t graph o f q w.in_default.not-After w.in_default.not-AfterText due last
          (subst (λ f. IsQuadAt f.now graph o q) w.frame-is c.quad_at.ensures)
    ]

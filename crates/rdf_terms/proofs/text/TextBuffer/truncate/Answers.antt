use Rattle.rdf_terms.proofs.Prelude.{◌≤◌, List, ℕ, IsUtf8, take, take-take, length-take-le, sym, subst, arith, IsCharBoundary, IsUtf8-had, IsUtf8-take}
use Rattle.rdf_terms.proofs.text.TextBuffer.truncate.Goals as goal

-- a front of the text that ends between two characters is a text
pub invariant_of-self : goal.invariant_of-self
invariant_of-self g c =
    let items = c.self.inside.bytes.items in
    let text = take c.self.inside.len items in
    let b : IsCharBoundary text c.args.len = subst (λ (s : List ℕ). IsCharBoundary s c.args.len) (sym c.self.view_is) c.requires in
    let few : c.args.len ≤ c.self.inside.len = subst (λ n. c.args.len ≤ n) (length-take-le c.self.inside.len items c.self.invariant.0) b.0 in
    let u = IsUtf8-take text c.args.len (IsUtf8-had text c.self.invariant.1) b in
    (omega (arith, few, c.self.invariant.0), ∣ subst IsUtf8 (take-take c.args.len c.self.inside.len items few) u ∣₁)

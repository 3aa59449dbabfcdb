use Rattle.rdf_terms.proofs.Prelude.{rules, ℕ, ◌≡◌, ◌≤◌, List, length, take, drop, IsUtf8, sym, subst, take_at}
use Rattle.rdf_terms.proofs.text.TextBuffer.put_joined.Goals as goal

-- the slice that was filled is all that the buffer has
pub invariant_of-self-2 : goal.invariant_of-self-2
invariant_of-self-2 g c =
    let slot = c.place_joined-self-inside.new.slot in
    let end = c.place_joined-self-inside.result in
    let long : length slot ≡ c.fill.new.bytes.len = search rules in
    let whole = take_at slot (drop (length slot) c.fill.new.bytes.items) c.fill.new.bytes.len long in
    subst (λ (s : List ℕ). (end ≤ length s) × ∥ IsUtf8 (take end s) ∥₁) (sym whole)
    (c.place_joined-self-inside.ensures.within, ∣ c.place_joined-self-inside.ensures.utf8 ∣₁)

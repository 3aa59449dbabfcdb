use Rattle.rdf_trig.proofs.Prelude.{sym, subst, arith, chars, string_bytes, IsTag, IsTag-had}
use Rattle.rdf_trig.proofs.code.TextLemmas.{none_named, some_named, held_there}
use Rattle.rdf_trig.proofs.slots.TagText.view.Goals as goal

pub new-requires : goal.new-requires
new-requires g c =
    let w = chars (string_bytes c.self.inside.text) in
    let len = c.len.ensures in
    let some = c.if-len-gt0.true in
    let there = some_named w c.args.self.now c.self.view_is (omega (arith, len, some)) in
    subst (λ t. IsTag (chars t)) (sym c.as_str.ensures.value) (IsTag-had w (held_there (λ w. ∥ IsTag w ∥₁) w c.self.invariant there))

pub returns-else-len-gt0 : goal.returns-else-len-gt0
returns-else-len-gt0 g c =
    let len = c.len.ensures in
    let none = c.if-len-gt0.false in
    none_named (chars (string_bytes c.self.inside.text)) c.args.self.now c.self.view_is (omega (arith, len, none))

use Rattle.rdf_terms.proofs.Prelude.{ℕ, IsUtf8, List, sym, subst, take, IsUtf8-had}
use Rattle.rdf_terms.proofs.Places.{IsUtf8-filled}
use Rattle.rdf_terms.proofs.text.TextBuffer.push.Goals as goal

pub place_after-self-inside-requires-clause-utf8 : goal.place_after-self-inside-requires-clause-utf8
place_after-self-inside-requires-clause-utf8 g c =
    subst (λ (s : List ℕ). IsUtf8 (take c.self.inside.len s)) (sym c.as_mut_slice.ensures.value)
    (IsUtf8-filled c.self.inside.len c.self.inside.bytes.items c.fill.new.bytes.items c.self.invariant.0
    (IsUtf8-had _ c.self.invariant.1) c.in_ok-fill.ensures.kept)

use Rattle.rdf_terms.proofs.Prelude.{IsUtf8, take, sym, subst, IsUtf8-had}
use Rattle.rdf_terms.proofs.text.TextBuffer.as_bytes.Goals as goal

pub returns-clause-utf8 : goal.returns-clause-utf8
returns-clause-utf8 g c = subst (λ s. IsUtf8 (take c.self.inside.len s)) (sym c.as_slice.ensures.value) (IsUtf8-had _ c.self.invariant.1)

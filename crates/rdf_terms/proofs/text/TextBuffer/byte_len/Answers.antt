use Rattle.rdf_terms.proofs.Prelude.{rules, length, take, sym, ap, subst, ℕ, List, ◌≡◌, ◌∙◌, encode_utf8_all, chars, IsUtf8-had, encodes-chars}
use Rattle.rdf_terms.proofs.text.TextBuffer.byte_len.Goals as goal

pub returns : goal.returns
returns g c =
    subst (λ (t : List ℕ). c.self.inside.len ≡ length (encode_utf8_all (chars t))) c.self.view_is
    (search rules ∙ sym (ap length (encodes-chars (take c.self.inside.len c.self.inside.bytes.items) (IsUtf8-had _ c.self.invariant.1))))

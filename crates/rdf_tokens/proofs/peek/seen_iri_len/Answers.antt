-- A reference, by its brackets and the run between them.
use Rattle.rdf_tokens.proofs.Prelude.{◌≡◌, ◌+◌, ◌∙◌, true, sym, subst, IsUtf8, Turtle, IriRef, begins_iri}
use Rattle.rdf_tokens.specs.Quick.{IsToken}
use Rattle.rdf_tokens.proofs.PlainQuick.{quick_iri}
use Rattle.rdf_tokens.proofs.peek.seen_iri_len.Goals as goal

pub returns-then-stands_at : goal.returns-then-stands_at
returns-then-stands_at c =
    let bs = c.as_bytes-bytes.result.now in
    let v = c.as_bytes-bytes.ensures.value in
    let end = c.run_end-end.result in
    subst (λ b. IsToken Turtle b (end + 1) IriRef) v
    (quick_iri Turtle bs (subst IsUtf8 (sym v) c.utf8.text) (subst (λ b. begins_iri b ≡ true) (sym v) c.requires) end c.run_end-end.ensures
    (sym c.stands_at.ensures ∙ c.if-stands_at.true))

-- Two carets are a token.
use Rattle.rdf_tokens.proofs.Prelude.{◌∙◌, sym, subst, IsUtf8, Carets}
use Rattle.rdf_tokens.specs.Quick.{IsToken}
use Rattle.rdf_tokens.proofs.QuickLemmas.{quick_carets}
use Rattle.rdf_tokens.proofs.quick.quick_plain.Goals as goal

pub returns-then-are_carets : goal.returns-then-are_carets
returns-then-are_carets c = λ d.
    let bs = c.as_bytes-bytes.result.now in
    let v = c.as_bytes-bytes.ensures.value in
    subst (λ b. IsToken d b 2 Carets) v (quick_carets d bs (subst IsUtf8 (sym v) c.utf8.text) (sym c.are_carets.ensures ∙ c.if-are_carets.true))

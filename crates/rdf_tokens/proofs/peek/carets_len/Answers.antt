-- Two carets are a token.
use Rattle.rdf_tokens.proofs.Prelude.{◌∙◌, sym, subst, IsUtf8, Turtle, Carets}
use Rattle.rdf_tokens.specs.Quick.{IsToken}
use Rattle.rdf_tokens.proofs.QuickLemmas.{quick_carets}
use Rattle.rdf_tokens.proofs.peek.carets_len.Goals as goal

pub returns-then-are_carets : goal.returns-then-are_carets
returns-then-are_carets c =
    let bs = c.as_bytes.result.now in
    let v = c.as_bytes.ensures.value in
    subst (λ b. IsToken Turtle b 2 Carets) v (quick_carets Turtle bs (subst IsUtf8 (sym v) c.utf8.text) (sym c.are_carets.ensures ∙ c.if-are_carets.true))

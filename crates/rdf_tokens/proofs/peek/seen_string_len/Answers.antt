-- A string, by its quotes and the run between them.
use Rattle.rdf_tokens.proofs.Prelude.{◌≡◌, ◌+◌, ◌∙◌, true, sym, subst, IsUtf8, Turtle, ShortString, opens_with}
use Rattle.rdf_tokens.specs.declared.states.text.Quote.TheVariants.{Double}
use Rattle.rdf_tokens.specs.Quick.{IsToken}
use Rattle.rdf_tokens.proofs.StringLemmas.{run_string}
use Rattle.rdf_tokens.proofs.peek.seen_string_len.Goals as goal

pub returns-then-stands_at : goal.returns-then-stands_at
returns-then-stands_at c =
    let bs = c.as_bytes-bytes.result.now in
    let v = c.as_bytes-bytes.ensures.value in
    let end = c.run_end-end.result in
    subst (λ b. IsToken Turtle b (end + 1) ShortString) v
    (run_string Turtle Double bs (subst IsUtf8 (sym v) c.utf8.text) (subst (λ b. opens_with Turtle Double b ≡ true) (sym v) c.requires) end c.if-end-gt1.true
    c.run_end-end.ensures (sym c.stands_at.ensures ∙ c.if-stands_at.true))

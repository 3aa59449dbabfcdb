-- The character at the second byte.
use Rattle.rdf_tokens.proofs.Prelude.{◌≡◌, true, inl, inr, sym, ◌∙◌, subst, begins_high}
use Rattle.rdf_tokens.proofs.StringLemmas.{high_char}
use Rattle.rdf_tokens.proofs.strings.first_end.Goals as goal

pub returns-then-begins_high : goal.returns-then-begins_high
returns-then-begins_high c =
    let x = c.char_at in
    inr (inl (high_char c.args.text.now x.result.1 x.result.0
    (subst (λ b. begins_high b ≡ true) c.as_bytes-bytes.ensures.value (sym c.begins_high.ensures ∙ c.if-begins_high.true))
    x.ensures.is x.ensures.past x.ensures.fits))

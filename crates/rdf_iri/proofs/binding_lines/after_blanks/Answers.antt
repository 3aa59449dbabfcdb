-- The blanks are ASCII, so the text may be cut behind them.
use Rattle.rdf_iri.proofs.Prelude.{◌∙◌, ap, subst, List, ℕ, chars}
use Rattle.rdf_iri.proofs.BindingLemmas.{Blanks, behind_blanks}
use Rattle.rdf_iri.proofs.binding_lines.after_blanks.Goals as goal

pub range_from-requires : goal.range_from-requires
range_from-requires c =
    let b : Blanks c.as_bytes.result.now c.blanks_len.result =
    record { within = c.blanks_len.ensures.within; front = c.blanks_len.ensures.front; rest = c.blanks_len.ensures.rest } in
    λ _. (behind_blanks c.args.text.now c.blanks_len.result c.utf8.text
    (subst (λ (w : List ℕ). Blanks w c.blanks_len.result) c.as_bytes.ensures.value b)).boundary

pub returns : goal.returns
returns c =
    let b : Blanks c.as_bytes.result.now c.blanks_len.result =
    record { within = c.blanks_len.ensures.within; front = c.blanks_len.ensures.front; rest = c.blanks_len.ensures.rest } in
    ap chars c.range_from.ensures.value
    ∙ (behind_blanks c.args.text.now c.blanks_len.result c.utf8.text (subst (λ (w : List ℕ). Blanks w c.blanks_len.result) c.as_bytes.ensures.value b)).chars

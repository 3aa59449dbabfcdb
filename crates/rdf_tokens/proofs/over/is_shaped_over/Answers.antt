-- What is kept of a run without names tells that the states end within the limit.
use Rattle.rdf_tokens.proofs.Prelude.{◌≡◌, true, sym, ap, ◌∙◌, ends_within}
use Rattle.rdf_tokens.proofs.OverLemmas.{names-within}
use Rattle.rdf_tokens.proofs.over.is_shaped_over.Goals as goal

pub returns-then-ends_within-clause-over : goal.returns-then-ends_within-clause-over
returns-then-ends_within-clause-over c =
    let bs = c.args.text.now in
    let known : ends_within c.args.limit bs c.args.no_names.now ≡ true =
    ap (λ b. ends_within c.args.limit b c.args.no_names.now) (sym c.as_bytes.ensures.value) ∙ (sym c.ends_within.ensures ∙ c.if-ends_within.true) in
    sym (names-within c.args.dialect c.args.limit bs c.args.no_names.now c.requires.no_names known)

pub is_over_from-requires-clause-came : goal.is_over_from-requires-clause-came
is_over_from-requires-clause-came c = c.resumed.ensures.came c.args.dialect c.args.text.now c.utf8.text c.count_up.ensures.walked c.count_up.ensures.all

-- Only the spellings that begin with the first byte are looked at.
use Rattle.rdf_tokens.proofs.Prelude.{◌∙◌, ap, fixed, rows_of, live_by}
use Rattle.rdf_tokens.proofs.SpellingLemmas.{live_by-at}
use Rattle.rdf_tokens.proofs.states.fixed.is_fixed_live.Goals as goal

pub returns-in-Some : goal.returns-in-Some
returns-in-Some c =
    c.is_live_among.ensures ∙ (ap (λ rs. live_by rs c.args.text.now) c.spellings_at.ensures
    ∙ live_by-at (rows_of c.args.dialect fixed) c.in-Some.first.now c.args.text.now c.in-Some.ensures.value)

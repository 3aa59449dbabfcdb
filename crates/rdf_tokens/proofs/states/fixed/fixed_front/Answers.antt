use Rattle.rdf_tokens.proofs.Prelude.{◌∙◌, ap, fixed, rows_of, front_by}
use Rattle.rdf_tokens.proofs.SpellingLemmas.{front_by-at}
use Rattle.rdf_tokens.proofs.states.fixed.fixed_front.Goals as goal

pub returns-in-Some : goal.returns-in-Some
returns-in-Some c =
    c.front_among.ensures ∙ (ap (λ rs. front_by rs c.args.text.now) c.spellings_at.ensures
    ∙ front_by-at (rows_of c.args.dialect fixed) c.in-Some.first.now c.args.text.now c.in-Some.ensures.value)

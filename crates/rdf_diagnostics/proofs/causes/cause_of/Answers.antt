use Rattle.rdf_diagnostics.proofs.Prelude.{◌∙◌, ap, sym, cause_of, first}
use Rattle.rdf_diagnostics.proofs.causes.cause_of.Goals as goal

pub returns-in-NoToken : goal.returns-in-NoToken
returns-in-NoToken c =
    (c.first-in-NoToken.ensures ∙ ap first c.no_token_rows.ensures)
    ∙ ap (λ r. cause_of r c.args.offset c.args.before.now c.args.after.now) (sym c.in-NoToken.is)

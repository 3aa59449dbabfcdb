use Rattle.rdf_iri.proofs.Prelude.{[], ◌∷◌, ◌++◌, ap, ◌∙◌, eqb-true}
use Rattle.rdf_iri.proofs.base.ends_in_slash.Goals as goal

pub returns-in-Some : goal.returns-in-Some
returns-in-Some c =
    let front = c.in-Some.field-0-1.now in
    λ e. (front, c.in-Some.ensures.cases.0 ∙ ap (λ byte. front ++ byte ∷ []) (eqb-true c.in-Some.last.now 47 e))

use Rattle.rdf_trig.proofs.Prelude.{◌≡◌, true, sym, subst, ◌∙◌, is_unescaped, all_have}
use Rattle.rdf_trig.proofs.code.Backslashes.{iri_plain}
use Rattle.rdf_trig.proofs.plain.lacks_iri_escapes.Goals as goal

pub returns-clause-text : goal.returns-clause-text
returns-clause-text c = λ h.
    let lacks = sym c.is_run.ensures ∙ h in
    (iri_plain c.args.inside.now c.utf8.inside (subst (λ bs. all_have is_unescaped bs ≡ true) c.as_bytes.ensures.value lacks) c.requires).1

pub returns-clause-value : goal.returns-clause-value
returns-clause-value c = λ h.
    let lacks = sym c.is_run.ensures ∙ h in
    (iri_plain c.args.inside.now c.utf8.inside (subst (λ bs. all_have is_unescaped bs ≡ true) c.as_bytes.ensures.value lacks) c.requires).0

use Rattle.rdf_trig.proofs.Prelude.{ap, subst, ◌∙◌, chars, string_bytes, IsBound, leaf}
use Rattle.rdf_trig.proofs.code.LookUps.{binding_is}
use Rattle.rdf_trig.proofs.names.bind.Goals as goal

pub returns-clause-ok : goal.returns-clause-ok
returns-clause-ok g c =
    let old = c.args.scope.now in
    let new = c.bind.new.self in
    let iri = chars c.as_str-2.result.now in
    binding_is old new (chars (string_bytes c.args.prefix.now)) (leaf c.args.token.now) iri (ap chars c.as_str-2.ensures.value ∙ c.in_ok-reference.ensures.ok)
    (subst (λ p. IsBound old p iri new) (ap chars c.as_str.ensures.value) c.in_ok-bind.ensures.bound)

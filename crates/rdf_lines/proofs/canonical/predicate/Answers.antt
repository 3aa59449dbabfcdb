use Rattle.rdf_lines.proofs.Prelude.{◌≡◌, ◌∷◌, chars, PredicateStands}
use Rattle.rdf_lines.proofs.FrontsLemmas.{if_some, predicate_stands}
use Rattle.rdf_lines.proofs.canonical.predicate.Goals as goal

pub returns : goal.returns
returns c =
    let limit = c.args.limit in
    let text = c.args.text.now in
    let inner = c.in_ok-after_byte.field-0.now in
    let part = c.in_ok-iri.field-0 in
    if_some c.after_byte-2.result (λ rest. part.rest.now ≡ 32 ∷ rest.now) (λ rest. PredicateStands limit text rest.now)
    (λ rest e. predicate_stands limit (chars part.iri.now) text inner part.rest.now rest.now c.in_ok-after_byte.ensures
    c.in_ok-iri.ensures.stands e) c.after_byte-2.ensures

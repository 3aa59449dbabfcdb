use Rattle.rdf_lines.proofs.Prelude.{◌≡◌, ◌∷◌, chars, SubjectStands}
use Rattle.rdf_lines.proofs.FrontsLemmas.{if_some, iri_subject, label_subject}
use Rattle.rdf_lines.proofs.canonical.subject.Goals as goal

pub returns-in_ok-iri-in-Some : goal.returns-in_ok-iri-in-Some
returns-in_ok-iri-in-Some c =
    let limit = c.args.limit in
    let text = c.args.text.now in
    let part = c.in_ok-iri-in-Some.field-0 in
    if_some c.after_byte-in-Some.result (λ rest. part.rest.now ≡ 32 ∷ rest.now) (λ rest. SubjectStands limit text rest.now)
    (λ rest e. iri_subject limit (chars part.iri.now) text c.in-Some.text.now part.rest.now rest.now c.in-Some.ensures
    c.in_ok-iri-in-Some.ensures.stands e) c.after_byte-in-Some.ensures

pub returns-in_ok-label-in-None : goal.returns-in_ok-label-in-None
returns-in_ok-label-in-None c =
    let limit = c.args.limit in
    let text = c.args.text.now in
    let first = c.in_ok-after_byte-in-None.field-0.now in
    let second = c.in_ok-after_byte-in-None-2.field-0.now in
    let name = c.in_ok-label-in-None.field-0 in
    if_some c.after_byte-in-None-3.result (λ rest. name.rest.now ≡ 32 ∷ rest.now) (λ rest. SubjectStands limit text rest.now)
    (λ rest e. label_subject limit (chars name.name.now) text first second name.rest.now rest.now c.in_ok-after_byte-in-None.ensures
    c.in_ok-after_byte-in-None-2.ensures c.in_ok-label-in-None.ensures e) c.after_byte-in-None-3.ensures

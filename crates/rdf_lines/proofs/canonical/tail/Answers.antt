use Rattle.rdf_lines.proofs.Prelude.{sym, ◌∙◌, arith, chars}
use Rattle.rdf_lines.proofs.FrontsLemmas.{plain_tail, tagged_tail, typed_tail}
use Rattle.rdf_lines.proofs.canonical.tail.Goals as goal

pub returns-in-Some-clause-stands : goal.returns-in-Some-clause-stands
returns-in-Some-clause-stands c = let roomy = c.requires in plain_tail c.args.limit c.args.text.now c.in-Some.rest.now (omega (arith, roomy)) c.in-Some.ensures

pub returns-in-Some-after_byte-clause-stands : goal.returns-in-Some-after_byte-clause-stands
returns-in-Some-after_byte-clause-stands c =
    tagged_tail c.args.limit (chars c.in_ok-tag.field-0.name.now) c.args.text.now c.in-Some-after_byte.text.now c.in_ok-tag.field-0.rest.now c.in_ok-after_byte.field-0.now
    c.in-Some-after_byte.ensures c.in_ok-tag.ensures c.in_ok-after_byte.ensures

pub returns-clause-stands : goal.returns-clause-stands
returns-clause-stands c =
    let part = c.in_ok-part.part in
    typed_tail c.args.limit part.iri.now c.args.text.now c.in_ok-after_byte-2.field-0.now c.in_ok-after_byte-3.field-0.now
    c.in_ok-text.text.now part.rest.now c.in_ok-after_byte-4.field-0.now
    c.in_ok-part.ensures.utf8 (sym c.eq.ensures ∙ c.if-eq.false) c.in_ok-after_byte-2.ensures c.in_ok-after_byte-3.ensures
    c.in_ok-text.ensures c.in_ok-part.ensures.stands c.in_ok-after_byte-4.ensures

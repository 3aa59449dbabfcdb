use Rattle.rdf_lines.proofs.Prelude.{◌∷◌, inl, inr, refl, sym, ap, ◌∙◌, subst, arith, chars, Lang, Typed, TailSpelled}
use Rattle.rdf_terms.specs.Known.{known_chars}
use Rattle.rdf_lines.proofs.EscapedParts.{plain_spelled}
use Rattle.rdf_lines.proofs.escaped.tail.Goals as goal

pub returns-in-Some-clause-spelled : goal.returns-in-Some-clause-spelled
returns-in-Some-clause-spelled c =
    subst (λ t. TailSpelled c.args.limit 1 (Lang (chars t)) c.args.text.now c.in-Some-tag.part.rest.now) (sym c.new.ensures)
    (refl, record { inner = c.in-Some.text.now; opens = c.in-Some.ensures; spelled = c.in-Some-tag.ensures })

pub returns-in-Some-after_byte-clause-spelled : goal.returns-in-Some-after_byte-clause-spelled
returns-in-Some-after_byte-clause-spelled c =
    let part = c.in_ok-part.part in
    let carets = c.in-Some-after_byte.ensures ∙ ap (λ x. 94 ∷ x) c.in_ok-skip_byte.ensures in
    subst (λ t. TailSpelled c.args.limit 2 (Typed (chars t)) c.args.text.now part.rest.now) (sym c.new-in-Some-after_byte.ensures)
    (inr (
      refl,
      record {
        inner = c.in_ok-skip_byte.field-0.now;
        opens = carets;
        spelled = record {
          inner = c.in_ok-skip_byte-2.field-0.now;
          opens = c.in_ok-skip_byte-2.ensures;
          spelled = plain_spelled c.args.limit part.iri.now c.in_ok-skip_byte-2.field-0.now part.rest.now c.in_ok-part.ensures.utf8
              c.in_ok-part.ensures.stands;
        };
      },
    ))

pub returns-clause-spelled : goal.returns-clause-spelled
unfolding known_chars
returns-clause-spelled c = inl (refl, c.known.ensures, (let l = c.requires in omega (arith, l)), refl)

-- The first part of a tag, and each later one.
use Rattle.rdf_tokens.proofs.Prelude.{subst, arith, IsRun, IsLaterPart}
use Rattle.rdf_terms.specs.Classes.{is_letter}
use Rattle.rdf_tokens.proofs.TagQuick.{first_part, later_part}
use Rattle.rdf_tokens.proofs.quick.tag_parts_end.Goals as goal

pub loop-next-init : goal.loop-next-init
loop-next-init c =
    let end = c.letters_end-end.result in
    let r = c.letters_end-end.ensures in
    record {
      within = r.within;
      tag = λ d. first_part d c.args.text.now c.utf8.text c.requires end
          (subst (λ b. IsRun is_letter b 2 end) c.as_bytes-bytes.ensures.value r);
    }

pub loop-next-preserved : goal.loop-next-preserved
loop-next-preserved c =
    let at = c.loop-next.end in
    let next = c.in-Some.next in
    let p = c.in-Some.ensures in
    record {
      within = p.run.within;
      tag = λ d. later_part d c.args.text.now c.utf8.text c.requires at next (c.loop-next.invariant.tag d)
          (subst (λ b. IsLaterPart b at next) c.as_bytes-bytes.ensures.value p);
    }

pub loop-next-smaller : goal.loop-next-smaller
loop-next-smaller c =
    let on = c.in-Some.ensures.some in
    let within = c.in-Some.ensures.run.within in
    omega (arith, on, within)

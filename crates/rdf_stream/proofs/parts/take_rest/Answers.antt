-- Lines are passed where they can be, and the next part is read, up to the end.
use Rattle.rdf_stream.proofs.Prelude.{◌≡◌, ◌+◌, ◌-◌, length, take, drop, refl, sym, ap, ◌∙◌, arith, take-length, length-drop}
use Rattle.rdf_stream.proofs.PartsLemmas.{begun_on, front_at, front_within, halts_from, pass_later, takes_to}
use Rattle.rdf_stream.proofs.parts.take_rest.Goals as goal

pub returns-in-Err-clause-halts : goal.returns-in-Err-clause-halts
returns-in-Err-clause-halts g c =
    let front = c.front_from-front.result.now in
    let whole = sym (take-length front) ∙ front_at c.args.rest.now c.good_front.result.text.now front _ c.loop-at.at
    (length front) c.good_front.ensures.text c.front_from-front.ensures.stands (omega arith) in
    halts_from g.R.Parts.taken g.R.Parts.halts _ _ _ _ c.args.rest.now front c.loop-at.at
    (length front) c.loop-at.invariant.2.takes whole c.in-Err.ensures.halts

pub read_part-requires : goal.read_part-requires
read_part-requires g c = record { begun = begun_on g.R.Parts.taken _ _ _ c.loop-at.invariant.2.begun c.in-Ok.ensures.takes }

pub loop-at-preserved : goal.loop-at-preserved
loop-at-preserved g c =
    let rest = c.args.rest.now in
    let front = c.front_from-front.result.now in
    let i = c.loop-at.invariant.2 in
    let n = c.in-Ok.passed in
    let from = c.loop-at.at + n in
    let m = c.part_len.result in
    let passed = front_at rest c.good_front.result.text.now front _ c.loop-at.at n c.good_front.ensures.text
    c.front_from-front.ensures.stands c.in-Ok.ensures.within in
    let inside = front_within rest c.good_front.result.text.now front _ c.loop-at.at n c.good_front.ensures.text
    c.front_from-front.ensures.stands c.in-Ok.ensures.within i.within in
    let mid = takes_to g.R.Parts.taken _ _ _ rest (take n front) c.loop-at.at n i.takes c.in-Ok.ensures.takes passed in
    let size : (from + m) - from ≡ m = omega arith in
    let left = pass_later c.good_front.result.text.now front c.text_from-left.result.now c.loop-at.at ((from + m) - c.loop-at.at)
    (from + m) c.passes_ascii-is_ascii.result (omega arith) c.front_from-front.ensures
    c.text_from-left.ensures in (
      c.text_from-left.utf8,
      left,
      record {
        within = omega (arith, c.part_len.ensures.within, length-drop from rest, inside);
        takes = takes_to g.R.Parts.taken _ _ _ rest _ from m mid c.in-Ok-read_part.ensures.takes (ap (λ k. take k (drop from rest)) size);
        begun = begun_on g.R.Parts.taken _ _ _ (begun_on g.R.Parts.taken _ _ _ i.begun c.in-Ok.ensures.takes) c.in-Ok-read_part.ensures.takes;
        few = c.in-Ok-read_part.ensures.few;
      },
      λ first s. c.in-Ok-read_part.ensures.stays first (c.in-Ok.ensures.stays first (c.loop-at.invariant.3 first s)),
    )

pub returns-in-Err-read_part-clause-halts : goal.returns-in-Err-read_part-clause-halts
returns-in-Err-read_part-clause-halts g c =
    let rest = c.args.rest.now in
    let front = c.front_from-front.result.now in
    let n = c.in-Ok.passed in
    let passed = front_at rest c.good_front.result.text.now front _ c.loop-at.at n c.good_front.ensures.text
    c.front_from-front.ensures.stands c.in-Ok.ensures.within in
    let mid = takes_to g.R.Parts.taken _ _ _ rest (take n front) c.loop-at.at n c.loop-at.invariant.2.takes c.in-Ok.ensures.takes passed in
    halts_from g.R.Parts.taken g.R.Parts.halts _ _ _ _ rest _ (c.loop-at.at + n) _ mid refl c.in-Err-read_part.ensures.halts

pub returns-in-Err-clause-stays : goal.returns-in-Err-clause-stays
returns-in-Err-clause-stays g c = λ first s. c.in-Err.ensures.stays first (c.loop-at.invariant.3 first s)

pub returns-in-Err-read_part-clause-stays : goal.returns-in-Err-read_part-clause-stays
returns-in-Err-read_part-clause-stays g c = λ first s. c.in-Err-read_part.ensures.stays first (c.in-Ok.ensures.stays first (c.loop-at.invariant.3 first s))

pub returns-clause-stays : goal.returns-clause-stays
returns-clause-stays g c = c.loop-at.invariant.3

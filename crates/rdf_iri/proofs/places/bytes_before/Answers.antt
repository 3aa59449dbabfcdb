-- The loop that looks for a byte: none stands before its place.
use Rattle.rdf_iri.proofs.Prelude.{◌≡◌, ◌∙◌, ap, sym, length, take, drop, arith}
use Rattle.rdf_iri.proofs.CutPlaces.{cut_there, starts_there, ends_there, Lacks-more}
use Rattle.rdf_iri.proofs.places.bytes_before.Goals as goal

pub returns-then-byte-mark-clause-front : goal.returns-then-byte-mark-clause-front
returns-then-byte-mark-clause-front c =
    (cut_there c.args.mark c.args.text.now c.loop-i.i c.loop-i.invariant
    (starts_there c.args.mark c.args.text.now c.loop-i.i (omega arith) c.if-byte-mark.true)).0

pub returns-then-byte-mark-clause-rest : goal.returns-then-byte-mark-clause-rest
returns-then-byte-mark-clause-rest c =
    (cut_there c.args.mark c.args.text.now c.loop-i.i c.loop-i.invariant
    (starts_there c.args.mark c.args.text.now c.loop-i.i (omega arith) c.if-byte-mark.true)).1

pub loop-i-preserved : goal.loop-i-preserved
loop-i-preserved c = Lacks-more c.args.mark c.args.text.now c.loop-i.i c.loop-i.invariant (omega arith) c.if-byte-mark.false

-- at the end of the loop all bytes were looked at
whole : (c : goal.After-loop-i) → c.loop-i.i ≡ length c.args.text.now
whole c = omega (arith, c.loop-i.auto.i-end, c.loop-i-test.false)

pub returns-clause-front : goal.returns-clause-front
returns-clause-front c =
    ap (λ i. take i c.args.text.now) (sym (whole c))
    ∙ (cut_there c.args.mark c.args.text.now c.loop-i.i c.loop-i.invariant (ends_there c.args.mark c.args.text.now c.loop-i.i c.loop-i-test.false)).0

pub returns-clause-rest : goal.returns-clause-rest
returns-clause-rest c =
    ap (λ i. drop i c.args.text.now) (sym (whole c))
    ∙ (cut_there c.args.mark c.args.text.now c.loop-i.i c.loop-i.invariant (ends_there c.args.mark c.args.text.now c.loop-i.i c.loop-i-test.false)).1

-- The bytes of a segment are passed one by one, up to its '/' or the end of the path.
use Rattle.rdf_iri.proofs.Prelude.{arith}
use Rattle.rdf_iri.proofs.StepsLemmas.{into-slash, last-segment, lacks-one}
use Rattle.rdf_iri.proofs.steps.move_at_name.Goals as goal

pub returns-then-bytes-at-eq47 : goal.returns-then-bytes-at-eq47
returns-then-bytes-at-eq47 c =
    let i = c.loop-from.invariant in
    into-slash c.args.bytes.now c.args.from c.loop-from.at i.after c.loop-from-test.ensures.within c.if-bytes-at-eq47.true i.slash i.marks c.requires.name

pub loop-from-preserved : goal.loop-from-preserved
loop-from-preserved c =
    let i = c.loop-from.invariant in
    let l = c.loop-from-test.ensures in
    record {
      after = omega arith;
      within = omega (arith, l.within);
      slash = lacks-one 47 c.args.bytes.now c.args.from c.loop-from.at i.after l.within c.if-bytes-at-eq47.false i.slash;
      marks = (
        lacks-one 63 c.args.bytes.now c.args.from c.loop-from.at i.after l.within l.no_query i.marks.0,
        lacks-one 35 c.args.bytes.now c.args.from c.loop-from.at i.after l.within l.no_fragment i.marks.1,
      );
    }

pub returns : goal.returns
returns c =
    let i = c.loop-from.invariant in
    last-segment c.args.bytes.now c.args.from c.loop-from.at i.after c.loop-from-test.ensures i.slash i.marks c.requires.name

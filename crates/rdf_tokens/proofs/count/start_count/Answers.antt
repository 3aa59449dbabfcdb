use Rattle.rdf_tokens.proofs.Prelude.{arith}
use Rattle.rdf_tokens.proofs.CountLemmas.{starts-more}
use Rattle.rdf_tokens.proofs.count.start_count.Goals as goal

pub loop-at-preserved : goal.loop-at-preserved
loop-at-preserved c =
    let i = c.loop-at.invariant in
    record {
      within = omega arith;
      counted = omega (arith, i.counted, c.starts.ensures, starts-more c.args.bytes.now c.loop-at.at 16);
    }

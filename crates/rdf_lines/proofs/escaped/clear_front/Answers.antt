use Rattle.rdf_lines.proofs.Prelude.{arith}
use Rattle.rdf_lines.proofs.EscapedParts.{escape_clear}
use Rattle.rdf_lines.proofs.escaped.clear_front.Goals as goal

pub clear_end-at-requires-clause-clear : goal.clear_end-at-requires-clause-clear
clear_end-at-requires-clause-clear c =
    let test = c.loop-at-test.true in
    let within = c.loop-at.invariant.0 in
    escape_clear c.args.bytes.now c.loop-at.at (omega (arith, test, within)) c.if-bytes-at-eq92.true c.loop-at.invariant.1

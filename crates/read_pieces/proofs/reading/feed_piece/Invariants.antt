use Rattle.std.proofs.Common.{◌≡◌, false}
use Rattle.read_pieces.proofs.reading.feed_piece.Given as goal

abbrev pub invariant-loop : goal.invariant-loop
invariant-loop g l = g.S.QuadSink.has_failed l.sink ≡ false

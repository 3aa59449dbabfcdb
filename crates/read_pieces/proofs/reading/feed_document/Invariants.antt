use Rattle.std.proofs.Common.{◌≡◌, false}
use Rattle.read_pieces.proofs.reading.feed_document.Given as goal

abbrev pub invariant-loop-piece : goal.invariant-loop-piece
invariant-loop-piece g l = g.S.QuadSink.has_failed l.sink ≡ false

use Rattle.std.proofs.Common.{◌≡◌, false}
use Rattle.read_pieces.proofs.reading.feed_bytes.Given as goal

abbrev pub invariant-loop-byte : goal.invariant-loop-byte
invariant-loop-byte g l = g.S.QuadSink.has_failed l.sink ≡ false

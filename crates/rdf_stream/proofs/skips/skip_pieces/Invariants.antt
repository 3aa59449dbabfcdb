-- What left the source was taken.
use Rattle.rdf_stream.proofs.Prelude.{◌-◌, ◌^◌, length, reading, IsSkipping}
use Rattle.rdf_stream.proofs.PiecesLemmas.{IsReading}
use Rattle.rdf_stream.proofs.skips.skip_pieces.Given as goal

abbrev pub invariant-loop-count : goal.invariant-loop-count
invariant-loop-count g l =
    IsReading (IsSkipping g.D.Drain g.B.Drain) (λ a b. Unit) (g.S.Source.remaining l.initial.source)
    (reading g.S.Source.remaining g.S.Source.last g.S.Source.has_ended g.S.Source.has_failed l.source)
    (l.initial.sifter, l.initial.drain, l.initial.bad) (l.sifter, l.drain, l.bad) (length l.piece)

abbrev pub decreases-loop-count : goal.decreases-loop-count
decreases-loop-count g l = 2 ^ 63 - l.sifter.bytes

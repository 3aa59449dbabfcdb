-- What left the source was taken.
use Rattle.rdf_stream.proofs.Prelude.{◌-◌, ◌^◌, ◌≡◌, length, None, reading}
use Rattle.rdf_stream.specs.Watches.{Follows}
use Rattle.rdf_stream.proofs.PiecesLemmas.{IsReading}
use Rattle.rdf_stream.proofs.pieces.read_pieces.Given as goal

abbrev pub invariant-loop-count : goal.invariant-loop-count
invariant-loop-count g l =
    IsReading g.R.Run.taken g.R.Run.stays (g.S.Source.remaining l.initial.source) (reading g.S.Source.remaining g.S.Source.last
    g.S.Source.has_ended g.S.Source.has_failed l.source) (l.initial.run, l.initial.out) (l.run, l.out) (length l.piece)
    × Follows (g.S.Source.remaining l.initial.source)
    (reading g.S.Source.remaining g.S.Source.last g.S.Source.has_ended g.S.Source.has_failed l.source) l.watching
    × (l.watching.words ≡ l.initial.watching.words)
    × (l.initial.watching.watch ≡ None → l.watching.watch ≡ None)

abbrev pub decreases-loop-count : goal.decreases-loop-count
decreases-loop-count g l = 2 ^ 63 - g.R.Run.count l.run

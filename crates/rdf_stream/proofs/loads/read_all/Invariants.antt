-- What left the source was kept.
use Rattle.rdf_stream.proofs.Prelude.{◌-◌, ◌^◌, length, reading}
use Rattle.rdf_stream.proofs.LoadsLemmas.{IsGiving}
use Rattle.rdf_stream.proofs.loads.read_all.Given as goal

abbrev pub invariant-loop-count : goal.invariant-loop-count
invariant-loop-count g l =
    IsGiving (g.S.Source.remaining l.fn.source)
    (reading g.S.Source.remaining g.S.Source.last g.S.Source.has_ended g.S.Source.has_failed l.source) l.bytes.items (length l.piece)

abbrev pub decreases-loop-count : goal.decreases-loop-count
decreases-loop-count g l = 2 ^ 63 - length l.bytes.items

use Rattle.rdf_stream.proofs.Prelude.{◌≡◌, ◌++◌, length, without_crs}
use Rattle.rdf_lines.specs.WrittenBytes.{BeginsWith}
use Rattle.rdf_stream.proofs.without_crs.put_runs.Given as goal

abbrev pub invariant-loop-at : goal.invariant-loop-at
invariant-loop-at g l =
    (l.out ++ without_crs l.rest ≡ l.initial.out ++ without_crs l.lines)
    × BeginsWith l.initial.out l.out

abbrev pub decreases-loop-at : goal.decreases-loop-at
decreases-loop-at g l = length l.rest

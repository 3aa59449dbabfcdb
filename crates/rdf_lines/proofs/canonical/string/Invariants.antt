use Rattle.rdf_lines.proofs.Prelude.{length, CharactersStand}
use Rattle.rdf_lines.proofs.canonical.string.Given as goal

abbrev pub invariant-runs : goal.invariant-runs
invariant-runs l = CharactersStand l.text l.rest

abbrev pub decreases-runs : goal.decreases-runs
decreases-runs l = length l.rest

-- What was put is the front that is no longer in the rest.
use Rattle.rdf_stream.proofs.Prelude.{◌≡◌, ℕ, List, length, false, ◌++◌, Appends}
use Rattle.rdf_stream.proofs.put.put_all.Given as goal

abbrev pub invariant-loop-rest : goal.invariant-loop-rest
invariant-loop-rest g l = (moved : List ℕ) × (l.bytes ≡ moved ++ l.rest)
    × Appends (g.D.Drain.contents l.initial.drain) (g.D.Drain.contents l.drain) moved
    × (g.D.Drain.has_failed l.drain ≡ false)

abbrev pub decreases-loop-rest : goal.decreases-loop-rest
decreases-loop-rest g l = length l.rest

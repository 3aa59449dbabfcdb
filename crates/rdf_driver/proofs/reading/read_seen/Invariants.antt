use Rattle.rdf_driver.proofs.Prelude.{left, moment_of}
use Rattle.rdf_driver.proofs.ReadingLemmas.{Runs}
use Rattle.rdf_driver.proofs.reading.read_seen.Given as goal

abbrev pub invariant-seen : goal.invariant-seen
invariant-seen g l =
    Runs g.G.Grammar.words g.G.Accepts.takes g.G.Accepts.has_failed (moment_of l.initial.progress l.initial.sink) (moment_of l.progress l.sink)

abbrev pub decreases-seen : goal.decreases-seen
decreases-seen g l = left l.progress.scanner

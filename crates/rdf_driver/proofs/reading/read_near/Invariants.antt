use Rattle.rdf_tokens.specs.Peek.{MayPeek}
use Rattle.rdf_driver.proofs.Prelude.{left, moment_of}
use Rattle.rdf_driver.proofs.ReadingLemmas.{Runs}
use Rattle.rdf_driver.proofs.reading.read_near.Given as goal

abbrev pub invariant-near : goal.invariant-near
invariant-near g l =
    Runs g.G.Grammar.words g.G.Accepts.takes g.G.Accepts.has_failed (moment_of l.initial.progress l.initial.sink) (moment_of l.progress l.sink)
    × MayPeek l.progress.scanner

abbrev pub decreases-near : goal.decreases-near
decreases-near g l = left l.progress.scanner

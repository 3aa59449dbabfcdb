use Rattle.rdf_lines.proofs.Prelude.{length, BlanksStand}
use Rattle.rdf_lines.proofs.escaped.after_blanks.Given as goal

abbrev pub invariant-blanks : goal.invariant-blanks
invariant-blanks l = BlanksStand l.text l.rest

abbrev pub decreases-blanks : goal.decreases-blanks
decreases-blanks l = length l.rest

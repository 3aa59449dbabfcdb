-- The bytes before the place were taken, and what is left of the text may be passed.
use Rattle.rdf_stream.proofs.Prelude.{length, ◌-◌, MayPass, StaysOn}
use denote.Text.{Utf8}
use denote.Shadow.{shadow}
use Rattle.rdf_stream.proofs.PartsLemmas.{HasTaken}
use Rattle.rdf_stream.proofs.parts.take_rest.Given as goal

abbrev pub invariant-loop-at : goal.invariant-loop-at
invariant-loop-at g l =
    shadow (Utf8 l.left) × MayPass l.text l.at l.is_ascii l.left
    × HasTaken g.R.Parts.taken (l.initial.run, l.initial.out) (l.run, l.out) l.rest l.at (g.R.Parts.count l.run)
    × StaysOn g.R.Parts.stays (l.initial.run, l.initial.out) (l.run, l.out)

abbrev pub decreases-loop-at : goal.decreases-loop-at
decreases-loop-at g l = length l.rest - l.at

use Rattle.rdf_iri.proofs.Prelude.{◌≤◌, ◌-◌, ◌++◌, length, drop, slice_range, IsCharBoundary}
use Rattle.rdf_iri.proofs.WrittenOnward.{Comes}
use Rattle.rdf_iri.proofs.steps.put_onward.Given as goal

-- the text with what is kept of the reference is a directory
abbrev pub invariant-loop-next : goal.invariant-loop-next
invariant-loop-next g l = record {
  order : l.kept ≤ l.at;
  kept : IsCharBoundary l.reference l.kept;
  at : IsCharBoundary l.reference l.at;
  comes : Comes l.root l.initial.text (drop l.from l.reference) (l.text ++ slice_range l.reference l.kept l.at) (drop l.at l.reference);
}

abbrev pub decreases-loop-next : goal.decreases-loop-next
decreases-loop-next g l = length l.reference - l.at

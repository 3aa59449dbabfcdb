use Rattle.rdf_diagnostics.proofs.Prelude.{◌-◌, SameScan, HasTaken}
use Rattle.rdf_diagnostics.proofs.sight.Front.see_to.Given as goal

abbrev pub invariant-parts : goal.invariant-parts
invariant-parts g l = record {
  same : SameScan l.initial.self.scanner l.self.scanner;
  taken : HasTaken l.self.scanner l.fn.rest l.self.len;
}

abbrev pub decreases-parts : goal.decreases-parts
decreases-parts g l = l.fn.end - l.self.len

use Rattle.rdf_diagnostics.proofs.Prelude.{◌≡◌, HasTaken}
use Rattle.rdf_diagnostics.proofs.SightLemmas.{IsLongestTo}
use Rattle.rdf_diagnostics.proofs.sight.longest_open.Given as goal

abbrev pub invariant-ends : goal.invariant-ends
invariant-ends g l = record {
  dialect : l.front.scanner.dialect ≡ l.fn.dialect;
  limit : l.front.scanner.limit ≡ l.fn.limit;
  taken : HasTaken l.front.scanner l.fn.rest l.front.len;
  longest : IsLongestTo l.fn.dialect l.fn.limit l.fn.rest l.i l.longest;
}

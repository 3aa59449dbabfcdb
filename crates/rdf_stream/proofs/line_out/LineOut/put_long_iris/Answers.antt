use Rattle.rdf_stream.proofs.Prelude.{refl}
use Rattle.rdf_stream.proofs.LineOutLemmas.{waits, waits_same}
use Rattle.rdf_stream.proofs.line_out.LineOut.put_long_iris.Goals as goal

pub returns-in-Err-clause-left : goal.returns-in-Err-clause-left
returns-in-Err-clause-left g c = record {
  same = record { form = refl; buffer = refl; drain = refl };
  rest = _;
  moves = waits _ _ _ refl;
  live = λ h. waits_same _ _ _ c.in-Err.ensures.unchanged;
}

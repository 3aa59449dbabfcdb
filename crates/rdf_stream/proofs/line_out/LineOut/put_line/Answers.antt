use Rattle.rdf_stream.proofs.Prelude.{refl}
use Rattle.rdf_stream.proofs.LineOutLemmas.{waits, waits_same}
use Rattle.rdf_stream.proofs.line_out.LineOut.put_line.Goals as goal

pub returns-in-Err-NotLabelled-clause-left : goal.returns-in-Err-NotLabelled-clause-left
returns-in-Err-NotLabelled-clause-left g c = record {
  same = record { form = refl; buffer = refl; drain = refl };
  rest = _;
  moves = waits _ _ _ refl;
  live = λ h. waits_same _ _ _ c.in-Err-NotLabelled.ensures.unchanged;
}

pub returns-in-Err-Memory-clause-left : goal.returns-in-Err-Memory-clause-left
returns-in-Err-Memory-clause-left g c = record {
  same = record { form = refl; buffer = refl; drain = refl };
  rest = _;
  moves = waits _ _ _ refl;
  live = λ h. waits_same _ _ _ c.in-Err-Memory.ensures.unchanged;
}

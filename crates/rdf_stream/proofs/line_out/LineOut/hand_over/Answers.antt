use Rattle.rdf_stream.proofs.Prelude.{rules}
use Rattle.rdf_stream.proofs.line_out.LineOut.hand_over.Goals as goal

pub returns-clause-empty : goal.returns-clause-empty
returns-clause-empty g c = search rules

pub returns-clause-ok : goal.returns-clause-ok
returns-clause-ok g c = search rules

pub returns-in_err-put_all-clause-err : goal.returns-in_err-put_all-clause-err
returns-in_err-put_all-clause-err g c = search rules

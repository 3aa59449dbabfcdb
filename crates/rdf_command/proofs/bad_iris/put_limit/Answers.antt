use Rattle.rdf_command.proofs.Prelude.{on_ok_weaker}
use Rattle.rdf_stream.proofs.PutLemmas.{then_put}
use Rattle.rdf_command.proofs.bad_iris.put_limit.Goals as goal

pub returns : goal.returns
returns c = on_ok_weaker c.put_number.result (λ e. then_put c.args.line.now.items _ _ _ _ c.in_ok-extend_from_slice.ensures.items e) c.put_number.ensures

use Rattle.rdf_stream.proofs.PutLemmas.{then_put}
use Rattle.rdf_command.proofs.bad_iris.put_bad.Goals as goal

pub returns : goal.returns
returns c =
    let old = c.args.line.now.items in
    let after = then_put old _ _ _ _ c.in_ok-put_named.ensures c.in_ok-extend_from_slice.ensures.items in
    let before = then_put old _ _ _ _ after c.in_ok-put_number.ensures in
    then_put old _ _ _ _ before c.in_ok-extend_from_slice-2.ensures.items

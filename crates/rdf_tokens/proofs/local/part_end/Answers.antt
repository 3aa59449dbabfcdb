-- What stands there, and the run after it.
use Rattle.rdf_tokens.proofs.LocalLemmas.{leads_on}
use Rattle.rdf_tokens.proofs.RestStates.{rests_local}
use Rattle.rdf_tokens.proofs.local.part_end.Goals as goal

pub returns : goal.returns
returns c =
    let bs = c.args.bytes.now in
    leads_on bs c.args.at c.in_ok-end.end c.near_end.result c.in_ok-end.ensures (rests_local bs c.in_ok-end.end c.near_end.result c.near_end.ensures)

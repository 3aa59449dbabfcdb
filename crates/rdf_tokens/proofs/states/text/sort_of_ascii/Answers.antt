use Rattle.rdf_tokens.proofs.TextSorts.{table-ascii}
use Rattle.rdf_tokens.proofs.states.text.sort_of_ascii.Goals as goal

pub returns : goal.returns
returns c = table-ascii c.args.byte c.requires

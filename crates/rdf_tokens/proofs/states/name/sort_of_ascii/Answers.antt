use Rattle.rdf_tokens.proofs.NameSorts.{table-ascii}
use Rattle.rdf_tokens.proofs.states.name.sort_of_ascii.Goals as goal

pub returns : goal.returns
returns c = table-ascii c.args.byte c.requires

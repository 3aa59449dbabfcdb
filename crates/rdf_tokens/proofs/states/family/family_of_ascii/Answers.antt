use Rattle.rdf_tokens.proofs.FamilySorts.{table-ascii}
use Rattle.rdf_tokens.proofs.states.family.family_of_ascii.Goals as goal

pub returns : goal.returns
returns c = table-ascii c.args.byte c.requires

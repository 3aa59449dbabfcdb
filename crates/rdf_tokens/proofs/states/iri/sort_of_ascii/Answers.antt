use Rattle.rdf_tokens.proofs.IriSorts.{table-ascii}
use Rattle.rdf_tokens.proofs.states.iri.sort_of_ascii.Goals as goal

pub returns : goal.returns
returns c = table-ascii c.args.byte c.requires

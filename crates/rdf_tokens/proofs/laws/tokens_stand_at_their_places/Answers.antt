use Rattle.rdf_tokens.proofs.LawLemmas.{places}
use Rattle.rdf_tokens.proofs.laws.tokens_stand_at_their_places.Goals as goal

pub returns : goal.returns
returns c = places

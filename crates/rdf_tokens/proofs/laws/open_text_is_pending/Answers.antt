use Rattle.rdf_tokens.proofs.OpenText.{open_text_pending}
use Rattle.rdf_tokens.proofs.laws.open_text_is_pending.Goals as goal

pub returns : goal.returns
returns c = open_text_pending

-- The text was emptied, so what is pushed is all of it.
use Rattle.rdf_terms.proofs.Prelude.{rules}
use Rattle.rdf_terms.proofs.buffers.put_text.Goals as goal

pub returns : goal.returns
returns g c = search rules

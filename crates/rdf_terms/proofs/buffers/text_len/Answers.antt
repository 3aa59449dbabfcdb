use Rattle.rdf_terms.proofs.Prelude.{length, sym, ap, encodes-chars}
use Rattle.rdf_terms.proofs.buffers.text_len.Goals as goal

pub returns : goal.returns
returns c = sym (ap length (encodes-chars _ c.utf8.text))

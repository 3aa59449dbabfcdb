use Rattle.rdf_stream.proofs.Prelude.{ap, sym, ◌∙◌}
use Rattle.rdf_iri.specs.Texts.{byte_len}
use Rattle.rdf_iri.proofs.ResolvedText.{byte_len-chars}
use Rattle.rdf_stream.proofs.job.byte_len.Goals as goal

pub returns : goal.returns
returns g c = sym (byte_len-chars c.as_str.result.now c.as_str.utf8) ∙ ap byte_len c.as_str.ensures.value

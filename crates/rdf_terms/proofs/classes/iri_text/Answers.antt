use Rattle.rdf_terms.proofs.Prelude.{ap, ◌∙◌, iri_byte, all_have}
use Rattle.rdf_terms.proofs.IriBytes.{iri_bytes}
use Rattle.rdf_terms.proofs.classes.iri_text.Goals as goal

pub returns : goal.returns
returns c = c.is_run.ensures ∙ (ap (all_have iri_byte) c.as_bytes.ensures.value ∙ iri_bytes c.args.text.now c.utf8.text)

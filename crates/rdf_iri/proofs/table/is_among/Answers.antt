use Rattle.rdf_iri.proofs.Prelude.{◌∙◌, ap, sym, is_some}
use Rattle.rdf_iri.proofs.ScopeLemmas.{bound_to-text}
use Rattle.rdf_iri.proofs.table.is_among.Goals as goal

pub returns : goal.returns
returns g c = c.contains_key.ensures ∙ ap is_some (sym (bound_to-text c.args.others.now c.args.prefix.now c.utf8.prefix))

use Rattle.rdf_terms.proofs.values.is_string_inside.Goals as goal

pub returns : goal.returns
returns c = c.has_value.ensures

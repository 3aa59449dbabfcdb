use Rattle.rdf_iri.proofs.Prelude.{◌∙◌, sym}
use Rattle.rdf_iri.proofs.BindingLemmas.{after-from, after-end}
use Rattle.rdf_iri.proofs.bindings.first_line.Goals as goal

pub returns-in-Some-clause-rest : goal.returns-in-Some-clause-rest
returns-in-Some-clause-rest c =
    sym (after-from 10 c.args.bytes.now _ _ (sym c.bytes_before.ensures.rest ∙ (sym c.split_at.ensures.back ∙ c.in-Some.ensures.cases.0)))

pub returns-in-None-clause-rest : goal.returns-in-None-clause-rest
returns-in-None-clause-rest c = sym (after-end 10 c.args.bytes.now _ (c.split_at.ensures.back ∙ c.bytes_before.ensures.rest) c.in-None.ensures.cases)

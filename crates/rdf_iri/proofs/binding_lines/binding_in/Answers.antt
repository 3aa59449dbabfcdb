use Rattle.rdf_iri.proofs.Prelude.{chars}
use Rattle.rdf_iri.proofs.BindingLineLemmas.{declared_binding, no_binding}
use Rattle.rdf_iri.proofs.BindingLemmas.{in_other_words}
use Rattle.rdf_iri.proofs.binding_lines.binding_in.Goals as goal

pub returns-in-None : goal.returns-in-None
returns-in-None c =
    in_other_words c.declaration.result _ _ _ _ (λ n. no_binding c.args.text.now c.in-None.ensures n)
    (λ x d. declared_binding c.args.text.now (chars x.0.now) (chars x.1.now) c.utf8.text d) c.declaration.ensures

-- The name ends as it was tested to end.
use Rattle.rdf_command.proofs.Prelude.{◌∙◌, ◌∷◌, [], codes, sym, append_assoc, ends_is}
use Rattle.std.proofs.lemmas.Bool.Decides.{Decides-eqb}
use Rattle.rdf_command.proofs.names.form_at_end.Goals as goal

pub returns-then-ends_with-clause-form : goal.returns-then-ends_with-clause-form
returns-then-ends_with-clause-form c = (
  _,
  (ends_is Decides-eqb c.args.name.now (codes ".nt") c.ends_with.result c.ends_with.ensures.value).0 c.if-ends_with.true
      ∙ sym (append_assoc _ (46 ∷ []) (codes "nt")),
)

pub returns-then-ends_with-2-clause-form : goal.returns-then-ends_with-2-clause-form
returns-then-ends_with-2-clause-form c = (
  _,
  (ends_is Decides-eqb c.args.name.now (codes ".nq") c.ends_with-else-ends_with.result c.ends_with-else-ends_with.ensures.value).0
      c.if-ends_with-2.true ∙ sym (append_assoc _ (46 ∷ []) (codes "nq")),
)

pub returns-then-ends_with-3-clause-form : goal.returns-then-ends_with-3-clause-form
returns-then-ends_with-3-clause-form c = (
  _,
  (ends_is Decides-eqb c.args.name.now (codes ".ttl") c.ends_with-else-ends_with-2.result
      c.ends_with-else-ends_with-2.ensures.value).0 c.if-ends_with-3.true ∙ sym (append_assoc _ (46 ∷ []) (codes "ttl")),
)

pub returns-then-ends_with-4-clause-form : goal.returns-then-ends_with-4-clause-form
returns-then-ends_with-4-clause-form c = (
  _,
  (ends_is Decides-eqb c.args.name.now (codes ".trig") c.ends_with-else-ends_with-3.result
      c.ends_with-else-ends_with-3.ensures.value).0 c.if-ends_with-4.true ∙ sym (append_assoc _ (46 ∷ []) (codes "trig")),
)

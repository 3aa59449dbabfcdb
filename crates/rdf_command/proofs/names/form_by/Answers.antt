use Rattle.rdf_command.proofs.Prelude.{◌∙◌, sym, subst, Form, EndsIn, by_name}
use Rattle.rdf_command.proofs.RowLemmas.{same_text}
use Rattle.rdf_command.proofs.names.form_by.Goals as goal

pub returns-then-eq-clause-none : goal.returns-then-eq-clause-none
returns-then-eq-clause-none c none = (
  same_text c.args.word.now by_name (sym c.eq.ensures ∙ c.if-eq.true),
  subst (λ name. (f : Form) → EndsIn name f → ⊥) c.as_bytes.ensures.value (c.form_at_end.ensures.none none),
)

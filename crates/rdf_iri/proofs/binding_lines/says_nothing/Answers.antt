-- Behind its blanks such a line ends or has a comment.
use Rattle.rdf_iri.proofs.Prelude.{◌∙◌, [], ◌∷◌, sym, inl, inr, ⊎_elim, length, chars, eqb-true, eqb-false, no_chars}
use Rattle.rdf_iri.proofs.BindingLineLemmas.{blanks_alone, begins_there, nothing_there}
use Rattle.rdf_iri.proofs.BindingLemmas.{some_chars}
use Rattle.rdf_iri.proofs.binding_lines.says_nothing.Goals as goal

pub returns-then-is_empty : goal.returns-then-is_empty
returns-then-is_empty c =
    let none = eqb-true (length c.after_blanks-rest.result.now) 0 (sym c.is_empty.ensures ∙ c.if-is_empty.true) in
    (λ t. inl (blanks_alone (chars c.args.text.now) (sym c.after_blanks-rest.ensures ∙ no_chars c.after_blanks-rest.result.now none)), λ s. c.if-is_empty.true)

pub returns-else-is_empty : goal.returns-else-is_empty
returns-else-is_empty c = (
  λ t. let k = c.is_comment.ensures.0 t in inr (k.0, begins_there (chars c.args.text.now) (35 ∷ []) k.0 (sym c.after_blanks-rest.ensures ∙ k.1), k.2),
  λ s. ⊎_elim
      (λ n. absurd (some_chars c.after_blanks-rest.result.now c.after_blanks-rest.utf8
      (eqb-false (length c.after_blanks-rest.result.now) 0 (sym c.is_empty.ensures ∙ c.if-is_empty.false)) (c.after_blanks-rest.ensures ∙ n)))
      (λ n. c.is_comment.ensures.1 (n.0, c.after_blanks-rest.ensures ∙ n.1, n.2))
      (nothing_there (chars c.args.text.now) s),
)

use Rattle.rdf_terms.proofs.Prelude.{ap, sym, subst, drop, length, ◌∙◌, arith, length-drop, drop-drop, chars, IsLabel}
use Rattle.rdf_terms.proofs.CharsLemmas.{few_bytes}
use Rattle.rdf_terms.proofs.SpelledLemmas.{label_in}
use Rattle.rdf_terms.proofs.labels.label_of.Goals as goal

pub returns-clause-label : goal.returns-clause-label
returns-clause-label c = c.without_first-2.ensures ∙ ap (drop 1) c.without_first.ensures ∙ drop-drop 1 1 (chars c.args.text.now)

pub returns-clause-is_label : goal.returns-clause-is_label
returns-clause-is_label c = subst IsLabel (sym (returns-clause-label c)) (label_in c.requires.0 _ c.requires.1)

pub returns-clause-short : goal.returns-clause-short
returns-clause-short c =
    let few = few_bytes (chars c.without_first-2.result.now) in
    omega (arith, few, ap length (returns-clause-label c), length-drop 2 (chars c.args.text.now))

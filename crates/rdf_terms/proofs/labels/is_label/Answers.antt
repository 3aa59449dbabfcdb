use Rattle.rdf_terms.proofs.Prelude.{◌&&◌, true, sym, ap, ◌∙◌, chars, chars_rest, Lines, name_goes_on}
use Rattle.rdf_terms.proofs.CharsLemmas.{next_char}
use Rattle.rdf_terms.proofs.NamesLemmas.{name_goes_on-IsLabel}
use Rattle.rdf_terms.proofs.labels.is_label.Goals as goal

pub name_goes_on-requires : goal.name_goes_on-requires
name_goes_on-requires c =
    (next_char c.args.text.now _ _ c.utf8.text (sym c.chars-rest.ensures.rest ∙ c.in-Some.ensures.steps.0)).utf8

pub returns-then-begins_label : goal.returns-then-begins_label
returns-then-begins_label c =
    let n = next_char c.args.text.now _ _ c.utf8.text (sym c.chars-rest.ensures.rest ∙ c.in-Some.ensures.steps.0) in
    let begun = ap (λ b. b && name_goes_on Lines true (chars (chars_rest c.next.new.self))) (sym c.begins_label.ensures ∙ c.if-begins_label.true) in
    rw n.chars (name_goes_on-IsLabel _ _ _ (c.name_goes_on.ensures ∙ sym begun))

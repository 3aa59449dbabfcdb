use Rattle.rdf_terms.proofs.Prelude.{◌&&◌, true, sym, ap, ◌∙◌, chars, chars_rest, Turtle, name_goes_on}
use Rattle.rdf_terms.proofs.CharsLemmas.{next_char}
use Rattle.rdf_terms.proofs.NamesLemmas.{name_goes_on-prefix}
use Rattle.rdf_terms.proofs.names.is_prefix.Goals as goal

pub name_goes_on-requires : goal.name_goes_on-requires
name_goes_on-requires c =
    (next_char c.args.text.now _ _ c.utf8.text (sym c.chars-rest.ensures.rest ∙ c.in-Some.ensures.steps.0)).utf8

pub returns-then-is_pn_base : goal.returns-then-is_pn_base
returns-then-is_pn_base c =
    let n = next_char c.args.text.now _ _ c.utf8.text (sym c.chars-rest.ensures.rest ∙ c.in-Some.ensures.steps.0) in
    let begun = ap (λ b. b && name_goes_on Turtle true (chars (chars_rest c.next.new.self))) (sym c.is_pn_base.ensures ∙ c.if-is_pn_base.true) in
    rw n.chars (name_goes_on-prefix _ _ _ (c.name_goes_on.ensures ∙ sym begun))

-- The loop over a language tag: the text is one exactly where what is left completes it.
use Rattle.rdf_terms.proofs.Prelude.{sym, ap, ◌∙◌, tag_goes_on, place_of}
use Rattle.rdf_terms.proofs.CharsLemmas.{next_char, no_chars}
use Rattle.rdf_terms.proofs.NamesLemmas.{tag_goes_on-IsTag, tag_step}
use Rattle.rdf_terms.proofs.tags.is_tag.Goals as goal

pub loop-c-preserved : goal.loop-c-preserved
loop-c-preserved c =
    let n = next_char _ _ _ c.loop-c.invariant.utf8 c.in-Some.ensures.steps.0 in
    record {
      utf8 = n.utf8;
      same = c.loop-c.invariant.same ∙ tag_step (place_of c.loop-c.place) _ _ _ _ n.chars c.in-Some-after.ensures;
    }

pub returns-in-None-after : goal.returns-in-None-after
returns-in-None-after c =
    let n = next_char _ _ _ c.loop-c.invariant.utf8 c.in-Some.ensures.steps.0 in
    tag_goes_on-IsTag _ _ (sym (c.loop-c.invariant.same ∙ tag_step (place_of c.loop-c.place) _ _ _ _ n.chars c.in-None-after.ensures))

pub returns : goal.returns
returns c =
    tag_goes_on-IsTag _ _ (c.is_end.ensures
    ∙ sym (c.loop-c.invariant.same ∙ ap (tag_goes_on (place_of c.loop-c.place)) (no_chars _ c.in-None.ensures.steps.0.0)))

-- What is written after the path, or after the query, is the target.
use Rattle.rdf_iri.proofs.Prelude.{◌∷◌, [], ◌++◌, ◌∙◌, ap, sym, on_ok_weaker, begins}
use Rattle.rdf_iri.proofs.RootLemmas.{beyond-path, beyond-query}
use Rattle.rdf_iri.proofs.base.put_beyond.Goals as goal

pub returns-then-begins_with : goal.returns-then-begins_with
returns-then-begins_with g c = on_ok_weaker c.put_both.result
    (λ e. beyond-path c.args.base.now c.args.reference.now _ c.args.root c.requires.root c.requires.path c.requires.no_scheme
    (ap (begins (63 ∷ [])) (sym c.as_bytes.ensures.value) ∙ (sym c.begins_with.ensures ∙ c.if-begins_with.true))
    (e ∙ ap (λ x. x ++ c.args.reference.now) c.range.ensures.value))
    c.put_both.ensures

pub returns-else-begins_with : goal.returns-else-begins_with
returns-else-begins_with g c = on_ok_weaker c.put_both-else-begins_with.result
    (λ e. beyond-query c.args.base.now c.args.reference.now _ c.args.root c.requires.root c.requires.path c.requires.no_scheme
    (ap (begins (63 ∷ [])) (sym c.as_bytes.ensures.value) ∙ (sym c.begins_with.ensures ∙ c.if-begins_with.false))
    (e ∙ ap (λ x. x ++ c.args.reference.now) c.range-else-begins_with.ensures.value))
    c.put_both-else-begins_with.ensures

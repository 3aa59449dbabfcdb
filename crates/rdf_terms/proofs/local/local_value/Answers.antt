use Rattle.rdf_terms.proofs.Prelude.{Some, sym, ap, ◌∙◌, chars, has, iri_char, all_have}
use Rattle.std.proofs.lemmas.Result.{IfOk-weaker}
use Rattle.rdf_terms.proofs.LocalLemmas.{value_is}
use Rattle.rdf_terms.proofs.local.local_value.Goals as goal

pub returns-clause-ok : goal.returns-clause-ok
returns-clause-ok g c =
    let v = value_is (chars c.args.inside.now) (sym c.has_local_value.ensures ∙ c.if-not-has_local_value.false) in
    IfOk-weaker c.unescaped.result _ _ (λ s h. v.0 ∙ ap (λ x. Some x) (sym h)) c.unescaped.ensures.ok

pub returns-clause-text : goal.returns-clause-text
returns-clause-text g c =
    let v = value_is (chars c.args.inside.now) (sym c.has_local_value.ensures ∙ c.if-not-has_local_value.false) in
    IfOk-weaker c.unescaped.result _ _ (λ s h. ap (all_have (has iri_char)) h ∙ v.1) c.unescaped.ensures.ok

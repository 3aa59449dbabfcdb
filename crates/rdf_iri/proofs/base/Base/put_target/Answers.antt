-- What is resolved over bytes is resolved over characters.
use Rattle.rdf_iri.proofs.Prelude.{◌≡◌, ◌∙◌, ap, sym, subst, chars, encode_utf8_all, encodes-chars, on_ok_weaker, HasRoot}
use Rattle.rdf_iri.proofs.ResolvedText.{chars-target, target_text}
use Rattle.rdf_iri.proofs.Slices.{has_scheme-chars}
use Rattle.rdf_iri.proofs.base.Base.put_target.Goals as goal

pub put_after-requires-clause-root : goal.put_after-requires-clause-root
put_after-requires-clause-root g c =
    let e : encode_utf8_all c.self.inside.iri ≡ c.as_str.result.now = ap encode_utf8_all (sym c.as_str.ensures.value) ∙ encodes-chars _ c.as_str.utf8 in
    let m = rw c.in-Some.is at c.self.invariant.1 in
    subst (λ x. HasRoot x c.in-Some.root) e m

pub put_after-requires-clause-no_scheme : goal.put_after-requires-clause-no_scheme
put_after-requires-clause-no_scheme g c = has_scheme-chars c.args.reference.now c.utf8.reference ∙ c.requires

pub returns-in-Some-clause-target : goal.returns-in-Some-clause-target
returns-in-Some-clause-target g c = on_ok_weaker c.put_after.result
    (λ e. ap chars e ∙ (chars-target _ _ c.as_str.utf8 c.utf8.reference
    ∙ ap (λ x. target_text x (chars c.args.reference.now)) (c.as_str.ensures.value ∙ c.self.view_is)))
    c.put_after.ensures

pub put_beyond-requires-clause-root : goal.put_beyond-requires-clause-root
put_beyond-requires-clause-root g c =
    let e : encode_utf8_all c.self.inside.iri ≡ c.as_str-in-Some-2.result.now =
    ap encode_utf8_all (sym c.as_str-in-Some-2.ensures.value) ∙ encodes-chars _ c.as_str-in-Some-2.utf8 in
    let m = rw c.in-Some-2.is at c.self.invariant.1 in
    subst (λ x. HasRoot x c.in-Some-2.root) e m

pub returns-in-Some-2-clause-target : goal.returns-in-Some-2-clause-target
returns-in-Some-2-clause-target g c = on_ok_weaker c.put_beyond.result
    (λ e. ap chars e ∙ (chars-target _ _ c.as_str-in-Some-2.utf8 c.utf8.reference
    ∙ ap (λ x. target_text x (chars c.args.reference.now)) (c.as_str-in-Some-2.ensures.value ∙ c.self.view_is)))
    c.put_beyond.ensures

-- The quad of the object is all that is given out.
use Rattle.rdf_trig.proofs.Prelude.{◌≡◌, ◌∷◌, [], sym, ap, subst, refl, ◌∙◌, length, chars, Appends, quad_of, term_by, InForce, DocForm, GaveUp, given}
use Rattle.rdf_trig.proofs.code.DueQuads.{given_listed, given_none}
use Rattle.rdf_trig.proofs.code.TurnsLemmas.{on_ok, if_ok, if_err}
use Rattle.rdf_trig.proofs.give.give_listed.Given.{Over}
use Rattle.rdf_trig.proofs.give.give_listed.Goals as goal

listed : (g : Over) (c : goal.After-put g) (form : DocForm) (s : InForce) →
    given form s c.args.state.now c.args.token.now ≡ quad_of c.quad_listed.result ∷ []
listed g c form s =
    given_listed form s c.args.state.now c.args.token.now (term_by chars c.in-Some-due_object.object) _ c.requires.after c.in-Some-due_object.ensures
    c.quad_listed.ensures

pub give_iri-requires-clause-after : goal.give_iri-requires-clause-after
give_iri-requires-clause-after g c = c.requires.after

pub give_iri-requires-clause-ready : goal.give_iri-requires-clause-ready
give_iri-requires-clause-ready g c = c.in-Resource.is

pub give_iri-requires-clause-object : goal.give_iri-requires-clause-object
give_iri-requires-clause-object g c = c.in-Some.ensures

pub give_iri-requires-clause-live : goal.give_iri-requires-clause-live
give_iri-requires-clause-live g c = c.requires.live

pub returns-in-Some-clause-ok : goal.returns-in-Some-clause-ok
returns-in-Some-clause-ok g c = on_ok c.give_iri.result _ _ (λ h form s. h form s c.args.token.now) c.give_iri.ensures.ok

pub returns-in-Some-clause-count : goal.returns-in-Some-clause-count
returns-in-Some-clause-count g c = if_ok c.give_iri.result _ _ (λ n h form s. h form s c.args.token.now) c.give_iri.ensures.count

pub returns-in-Some-clause-live : goal.returns-in-Some-clause-live
returns-in-Some-clause-live g c = c.give_iri.ensures.live

pub returns-in-Some-clause-err : goal.returns-in-Some-clause-err
returns-in-Some-clause-err g c = if_err c.give_iri.result _ _ (λ r h form s. h form s c.args.token.now) c.give_iri.ensures.err

pub quad_listed-requires : goal.quad_listed-requires
quad_listed-requires g c = c.requires.after.1

pub put-requires : goal.put-requires
put-requires g c = record { live = c.requires.live }

pub returns-in-None-clause-ok : goal.returns-in-None-clause-ok
returns-in-None-clause-ok g c form s =
    let k = c.args.sink.now in
    subst (λ qs. Appends g.S.QuadSink.takes k qs k) (sym (given_none form s c.args.state.now c.args.token.now c.requires.after c.in-None.ensures)) refl

pub returns-in-None-clause-count : goal.returns-in-None-clause-count
returns-in-None-clause-count g c form s = sym (ap length (given_none form s c.args.state.now c.args.token.now c.requires.after c.in-None.ensures))

pub returns-in-None-clause-live : goal.returns-in-None-clause-live
returns-in-None-clause-live g c = c.requires.live

pub returns-in-None-clause-err : goal.returns-in-None-clause-err
returns-in-None-clause-err g c = tt

pub returns-in-Some-due_object-clause-ok : goal.returns-in-Some-due_object-clause-ok
returns-in-Some-due_object-clause-ok g c =
    on_ok c.put.result _ _ (λ h form s. subst (λ qs. Appends g.S.QuadSink.takes c.args.sink.now qs c.put.new.sink) (sym (listed g c form s)) h)
    c.put.ensures.ok

pub returns-in-Some-due_object-clause-count : goal.returns-in-Some-due_object-clause-count
returns-in-Some-due_object-clause-count g c = if_ok c.put.result _ _ (λ n h form s. h ∙ sym (ap length (listed g c form s))) c.put.ensures.count

pub returns-in-Some-due_object-clause-live : goal.returns-in-Some-due_object-clause-live
returns-in-Some-due_object-clause-live g c = c.put.ensures.live

pub returns-in-Some-due_object-clause-err : goal.returns-in-Some-due_object-clause-err
returns-in-Some-due_object-clause-err g c =
    let of = GaveUp g.S.QuadSink.takes g.S.QuadSink.leaves g.S.QuadSink.has_failed in
    if_err c.put.result _ _ (λ r h form s. subst (λ qs. of r qs c.args.sink.now c.put.new.sink) (sym (listed g c form s)) h) c.put.ensures.err

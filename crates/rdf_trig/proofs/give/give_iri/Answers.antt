-- The quad of the IRI is all that is given out, whatever the token is.
use Rattle.rdf_trig.proofs.Prelude.{◌≡◌, ◌∷◌, [], sym, ap, subst, ◌∙◌, length, Appends, iri_chars, iris_quad, quad_of, InForce, DocForm, graph_of, GaveUp, given}
use Rattle.rdf_tokens.specs.declared.token.Token.{Token as Given}
use Rattle.rdf_trig.proofs.code.DueQuads.{given_iri, iris_at}
use Rattle.rdf_trig.proofs.code.TurnsLemmas.{on_ok, if_ok, if_err}
use Rattle.rdf_trig.proofs.give.give_iri.Given.{Over}
use Rattle.rdf_trig.proofs.give.give_iri.Goals as goal

iris : (g : Over) (c : goal.After-put_iris g) (form : DocForm) (s : InForce) (t : Given) →
    given form s c.args.state.now t ≡ quad_of (iris_quad c.in-Some.subject c.view_or-predicate.result c.args.object) ∷ []
iris g c form s t =
    let n = c.args.state.now in
    given_iri form s n t (iri_chars c.args.object) _ c.requires.after c.requires.ready c.requires.object
    (iris_at n.frame (graph_of n.level n.graph) _ _ _ c.requires.after.1 (c.is_in_named_graph.ensures c.if-not-is_in_named_graph.true)
    c.in-Some.ensures c.view_or-predicate.ensures)

listed : (g : Over) (c : goal.After-put g) (form : DocForm) (s : InForce) (t : Given) → given form s c.args.state.now t ≡ quad_of c.quad_listed.result ∷ []
listed g c form s t =
    given_iri form s c.args.state.now t (iri_chars c.args.object) _ c.requires.after c.requires.ready c.requires.object c.quad_listed.ensures

pub put_iris-requires : goal.put_iris-requires
put_iris-requires g c = record { live = c.requires.live }

pub returns-in-Some-clause-ok : goal.returns-in-Some-clause-ok
returns-in-Some-clause-ok g c =
    on_ok c.put_iris.result _ _
    (λ h form s t. subst (λ qs. Appends g.S.QuadSink.takes c.args.sink.now qs c.put_iris.new.sink) (sym (iris g c form s t)) h) c.put_iris.ensures.ok

pub returns-in-Some-clause-count : goal.returns-in-Some-clause-count
returns-in-Some-clause-count g c = if_ok c.put_iris.result _ _ (λ n h form s t. h ∙ sym (ap length (iris g c form s t))) c.put_iris.ensures.count

pub returns-in-Some-clause-live : goal.returns-in-Some-clause-live
returns-in-Some-clause-live g c = c.put_iris.ensures.live

pub returns-in-Some-clause-err : goal.returns-in-Some-clause-err
returns-in-Some-clause-err g c =
    let of = GaveUp g.S.QuadSink.takes g.S.QuadSink.leaves g.S.QuadSink.has_failed in
    if_err c.put_iris.result _ _ (λ r h form s t. subst (λ qs. of r qs c.args.sink.now c.put_iris.new.sink) (sym (iris g c form s t)) h)
    c.put_iris.ensures.err

pub quad_listed-requires : goal.quad_listed-requires
quad_listed-requires g c = c.requires.after.1

pub put-requires : goal.put-requires
put-requires g c = record { live = c.requires.live }

pub returns-clause-ok : goal.returns-clause-ok
returns-clause-ok g c =
    on_ok c.put.result _ _ (λ h form s t. subst (λ qs. Appends g.S.QuadSink.takes c.args.sink.now qs c.put.new.sink) (sym (listed g c form s t)) h)
    c.put.ensures.ok

pub returns-clause-count : goal.returns-clause-count
returns-clause-count g c = if_ok c.put.result _ _ (λ n h form s t. h ∙ sym (ap length (listed g c form s t))) c.put.ensures.count

pub returns-clause-live : goal.returns-clause-live
returns-clause-live g c = c.put.ensures.live

pub returns-clause-err : goal.returns-clause-err
returns-clause-err g c =
    let of = GaveUp g.S.QuadSink.takes g.S.QuadSink.leaves g.S.QuadSink.has_failed in
    if_err c.put.result _ _ (λ r h form s t. subst (λ qs. of r qs c.args.sink.now c.put.new.sink) (sym (listed g c form s t)) h) c.put.ensures.err

-- In each state within a line the code accepts what the machine accepts, and refuses what it refuses.
use Rattle.rdf_lines.proofs.Prelude.{LineForm, Rules, mode_at, answer}
use Rattle.rdf_lines.specs.declared.state.Mode.TheVariants as at
use Rattle.rdf_lines.specs.Machine as M
use Rattle.rdf_lines.proofs.StatesLemmas.{does_goes, fails_declines, does_same, fails_same}
use Rattle.rdf_lines.proofs.state.State.next.Goals as goal

pub returns-in-Begin-clause-ok : goal.returns-in-Begin-clause-ok
returns-in-Begin-clause-ok g c =
    rw c.in-Begin.is (does_goes g.S.QuadSink.takes (λ (f : LineForm). answer (record { form = f; iri = c.args.rules.iri }) M.Begin
    c.args.token.now) c.args.rules.form c.args.sink.now (mode_at c.at_begin.new.self) c.at_begin.result c.at_begin.ensures.ok)

pub returns-in-Begin-clause-err : goal.returns-in-Begin-clause-err
returns-in-Begin-clause-err g c =
    rw c.in-Begin.is (fails_declines g.S.QuadSink.leaves g.S.QuadSink.has_failed
    (λ (f : LineForm). answer (record { form = f; iri = c.args.rules.iri }) M.Begin c.args.token.now) c.args.rules.form c.args.sink.now
    c.at_begin.result c.at_begin.ensures.err)

pub returns-in-AfterSubject-clause-ok : goal.returns-in-AfterSubject-clause-ok
returns-in-AfterSubject-clause-ok g c =
    rw c.in-AfterSubject.is (does_goes g.S.QuadSink.takes (λ (f : LineForm). answer (record { form = f; iri = c.args.rules.iri })
    (mode_at c.args.self.now at.AfterSubject) c.args.token.now) c.args.rules.form c.args.sink.now
    (mode_at c.after_subject.new.self) c.after_subject.result c.after_subject.ensures.ok)

pub returns-in-AfterSubject-clause-err : goal.returns-in-AfterSubject-clause-err
returns-in-AfterSubject-clause-err g c =
    rw c.in-AfterSubject.is (fails_declines g.S.QuadSink.leaves g.S.QuadSink.has_failed
    (λ (f : LineForm). answer (record { form = f; iri = c.args.rules.iri }) (mode_at c.args.self.now at.AfterSubject) c.args.token.now)
    c.args.rules.form c.args.sink.now c.after_subject.result c.after_subject.ensures.err)

pub returns-in-AfterPredicate-clause-ok : goal.returns-in-AfterPredicate-clause-ok
returns-in-AfterPredicate-clause-ok g c =
    rw c.in-AfterPredicate.is (does_goes g.S.QuadSink.takes (λ (f : LineForm). answer (record { form = f; iri = c.args.rules.iri })
    (mode_at c.args.self.now at.AfterPredicate) c.args.token.now) c.args.rules.form c.args.sink.now
    (mode_at c.after_predicate.new.self) c.after_predicate.result c.after_predicate.ensures.ok)

pub returns-in-AfterPredicate-clause-err : goal.returns-in-AfterPredicate-clause-err
returns-in-AfterPredicate-clause-err g c = rw c.in-AfterPredicate.is (fails_declines g.S.QuadSink.leaves g.S.QuadSink.has_failed
    (λ (f : LineForm). answer (record { form = f; iri = c.args.rules.iri }) (mode_at c.args.self.now at.AfterPredicate) c.args.token.now)
    c.args.rules.form c.args.sink.now c.after_predicate.result c.after_predicate.ensures.err)

pub returns-in-AfterCarets-clause-ok : goal.returns-in-AfterCarets-clause-ok
returns-in-AfterCarets-clause-ok g c =
    rw c.in-AfterCarets.is (does_goes g.S.QuadSink.takes (λ (f : LineForm). answer (record { form = f; iri = c.args.rules.iri })
    (mode_at c.args.self.now at.AfterCarets) c.args.token.now) c.args.rules.form c.args.sink.now
    (mode_at c.after_carets.new.self) c.after_carets.result c.after_carets.ensures.ok)

pub returns-in-AfterCarets-clause-err : goal.returns-in-AfterCarets-clause-err
returns-in-AfterCarets-clause-err g c =
    rw c.in-AfterCarets.is (fails_declines g.S.QuadSink.leaves g.S.QuadSink.has_failed
    (λ (f : LineForm). answer (record { form = f; iri = c.args.rules.iri }) (mode_at c.args.self.now at.AfterCarets) c.args.token.now)
    c.args.rules.form c.args.sink.now c.after_carets.result c.after_carets.ensures.err)

pub returns-in-AfterGraph-clause-ok : goal.returns-in-AfterGraph-clause-ok
returns-in-AfterGraph-clause-ok g c =
    rw c.in-AfterGraph.is
    (does_same g.S.QuadSink.takes (λ (x : Rules). answer x (mode_at c.args.self.now (at.AfterGraph c.in-AfterGraph.kind))
    c.args.token.now) c.args.rules c.args.sink.now c.after_graph.new.sink
    (mode_at c.after_graph.new.self) c.after_graph.result c.after_graph.ensures.ok)

pub returns-in-AfterGraph-clause-err : goal.returns-in-AfterGraph-clause-err
returns-in-AfterGraph-clause-err g c =
    rw c.in-AfterGraph.is (fails_same g.S.QuadSink.leaves g.S.QuadSink.has_failed
    (λ (x : Rules). answer x (mode_at c.args.self.now (at.AfterGraph c.in-AfterGraph.kind)) c.args.token.now) c.args.rules
    c.args.sink.now c.after_graph.new.sink c.after_graph.result c.after_graph.ensures.err)

pub returns-in-AfterDot-clause-ok : goal.returns-in-AfterDot-clause-ok
returns-in-AfterDot-clause-ok g c =
    rw c.in-AfterDot.is (does_goes g.S.QuadSink.takes (λ (x : Rules). answer x M.AfterDot c.args.token.now) c.args.rules c.args.sink.now
    (mode_at c.args.self.now) c.after_dot.result c.after_dot.ensures.ok)

pub returns-in-AfterDot-clause-err : goal.returns-in-AfterDot-clause-err
returns-in-AfterDot-clause-err g c = rw c.in-AfterDot.is (fails_declines g.S.QuadSink.leaves g.S.QuadSink.has_failed
    (λ (x : Rules). answer x M.AfterDot c.args.token.now) c.args.rules c.args.sink.now c.after_dot.result c.after_dot.ensures.err)

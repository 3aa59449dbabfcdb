-- What the source tells when it is dropped.
use Rattle.rdf_command.proofs.Prelude.{inl, inr, refl, told, standard_output}
use Rattle.rdf_command.proofs.ReasonLemmas.{stop_among_of}
use Rattle.rdf_command.proofs.several.check_source.Goals as goal

pub returns-in-Ok : goal.returns-in-Ok
returns-in-Ok g c = (
  told g.I.Source c.check_to.new.source,
  inl (record { status_is = refl; checked = c.in-Ok.ensures.accepted; flushed = c.in-Ok.ensures.flushed; untold = refl }),
)

pub returns : goal.returns
returns g c = let err = c.tell_stopped_of.new.err in (
  told g.I.Source c.check_to.new.source,
  inr (record {
    fault = c.in-Err.stop.fault;
    status_is = c.status.ensures;
    stops = c.in-Err.ensures.stops;
    evidence = c.in-Err.stop.evidence;
    expected = c.in-Err.ensures.expected;
    reported = stop_among_of (g.E.Drain.contents c.args.err.now) (g.E.Drain.contents err)
        (g.E.Drain.has_failed err) c.args.plan.now.explain c.args.document.1.now standard_output _ _ _ _
        c.in-Err.stop.fault c.in-Err.stop.evidence (λ why tells. (c.check_to.new.source, refl, tells))
        (λ why tells. (c.check_to.new.out, refl, tells)) c.tell_stopped_of.ensures;
  }),
)

use Rattle.rdf_command.proofs.Prelude.{inl, refl, written}
use Rattle.rdf_command.proofs.ReasonLemmas.{broken_among}
use Rattle.rdf_command.proofs.asides.put_aside.Goals as goal

pub returns-in-Err-convert_skipping-clause-none : goal.returns-in-Err-convert_skipping-clause-none
returns-in-Err-convert_skipping-clause-none g c =
    let how = c.args.how.now in
    let stop = c.in-Err-convert_skipping.fault in
    let source = c.convert_skipping.new.source in
    let drain = c.convert_skipping.new.drain in
    let bad = c.convert_skipping.new.bad in
    let err = c.tell_stop_aside.new.err in
    inl (record {
      fault = stop;
      first = g.H.Output.Drain.contents c.in-Ok.bad;
      empty = c.in-Ok.ensures.empty;
      bad = written g.H.Output.Drain bad;
      stops = c.in-Err-convert_skipping.ensures.stops;
      status_is = c.status.ensures;
      is_left = c.discard.ensures;
      evidence = _;
      none = c.none.ensures;
      unasked = refl;
      reported = broken_among (g.E.Drain.contents c.args.err.now) (g.E.Drain.contents err) (g.E.Drain.has_failed err) how.explain
          (g.D.Drain.has_failed drain) how.document.now how.output.now how.bad.now
          _ _ _ _ _ _ stop _ (λ why tells. (source, refl, tells)) (λ why tells. (drain, refl, tells))
          (λ why tells. (bad, refl, tells)) c.tell_stop_aside.ensures;
    })

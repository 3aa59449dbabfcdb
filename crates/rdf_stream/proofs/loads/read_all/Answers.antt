use Rattle.rdf_stream.proofs.Prelude.{rules, arith, length-take, length, Consumes-nil, reading}
use Rattle.rdf_stream.proofs.PiecesLemmas.{no_more}
use Rattle.rdf_stream.proofs.LoadsLemmas.{giving_given, gives_all, gives_more, source_failed, reported_fault}
use Rattle.rdf_stream.proofs.loads.read_all.Goals as goal

pub loop-count-init : goal.loop-count-init
loop-count-init g c = record {
  consumed = search (rules, Consumes-nil (g.S.Source.remaining c.args.source.now));
  more = c.requires.more;
  live = c.requires.source;
  has_room = c.requires.room;
}

pub fill-requires-clause-more : goal.fill-requires-clause-more
fill-requires-clause-more g c = c.loop-count.invariant.more

pub fill-requires-clause-live : goal.fill-requires-clause-live
fill-requires-clause-live g c = c.loop-count.invariant.live

pub returns-in-Err-clause-stops : goal.returns-in-Err-clause-stops
returns-in-Err-clause-stops g c =
    source_failed _ _ (reading g.S.Source.remaining g.S.Source.last g.S.Source.has_ended g.S.Source.has_failed c.fill.new.self) _ _
    c.loop-count.invariant c.in-Err.ensures.bytes c.in-Err.ensures.failed c.in-Err.ensures.ended

pub returns-then-count-eq0-clause-given : goal.returns-then-count-eq0-clause-given
returns-then-count-eq0-clause-given g c =
    gives_all _ _ (reading g.S.Source.remaining g.S.Source.last g.S.Source.has_ended g.S.Source.has_failed c.fill.new.self) _ _ c.loop-count.invariant
    (no_more _ _ _ _ c.in-Ok.ensures.bytes c.if-count-eq0.true (search rules)) (c.in-Ok.ensures.bytes.1 c.if-count-eq0.true (search rules))
    (c.in-Ok.ensures.ended.0 c.if-count-eq0.true (search rules)) c.in-Ok.ensures.failed

pub loop-count-smaller : goal.loop-count-smaller
loop-count-smaller g c =
    omega (arith, length-take c.in-Ok.count c.fill.new.buf, c.in-Ok.ensures.bound, c.if-count-eq0.false, c.in_ok-extend_from_slice.ensures.len)

pub loop-count-preserved : goal.loop-count-preserved
loop-count-preserved g c =
    let more = gives_more _ _ (reading g.S.Source.remaining g.S.Source.last g.S.Source.has_ended g.S.Source.has_failed c.fill.new.self) _ _
    c.loop-count.invariant _ c.in-Ok.ensures.bytes.0 (c.in-Ok.ensures.ended.1 (λ e. absurd (c.if-count-eq0.false e)))
    c.in-Ok.ensures.failed (length c.fill.new.buf) (search rules) in
    search (rules, more)

pub returns-in_err-extend_from_slice-clause-stops : goal.returns-in_err-extend_from_slice-clause-stops
returns-in_err-extend_from_slice-clause-stops g c =
    let left = reading g.S.Source.remaining g.S.Source.last g.S.Source.has_ended g.S.Source.has_failed c.fill.new.self in
    reported_fault _ _ _ c.from_residual.ensures.1 (giving_given _ left _ _
    (gives_more _ _ left _ _ c.loop-count.invariant _ c.in-Ok.ensures.bytes.0
    (c.in-Ok.ensures.ended.1 (λ e. absurd (c.if-count-eq0.false e))) c.in-Ok.ensures.failed (length c.fill.new.buf) (search rules)))

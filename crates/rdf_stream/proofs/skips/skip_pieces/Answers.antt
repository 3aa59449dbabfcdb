-- The loop over the pieces of a source: the bytes so far were taken, and it ends where the source does or an error stops it.
use Rattle.rdf_stream.proofs.Prelude.{rules, arith, length-take, ap, ◌∙◌, Consumes-nil, IsSkipping, SkipEnds, SkipHalts}
use Rattle.rdf_stream.proofs.PiecesLemmas.{end_read, end_stops, no_more, on_piece, piece_stops, read_stops}
use Rattle.rdf_stream.proofs.skips.skip_pieces.Goals as goal

pub loop-count-init : goal.loop-count-init
loop-count-init g c = record {
  bytes = _;
  consumed = Consumes-nil _;
  is_taken = c.requires.begun;
  same = tt;
  more = c.requires.more;
  live = c.requires.source;
  has_room = c.requires.room;
}

pub end-requires : goal.end-requires
end-requires g c =
    let i = c.loop-count.invariant.is_taken in record { styled = ap (λ o. o.lines.style) i.sifted.same.output ∙ c.requires.styled; begun = (_, _, i) }

pub take-requires : goal.take-requires
take-requires g c =
    let i = c.loop-count.invariant.is_taken in record { styled = ap (λ o. o.lines.style) i.sifted.same.output ∙ c.requires.styled; begun = (_, _, i) }

pub returns-then-count-eq0-clause-read : goal.returns-then-count-eq0-clause-read
returns-then-count-eq0-clause-read g c =
    end_read (IsSkipping g.D.Drain g.B.Drain) (SkipHalts g.D.Drain g.B.Drain) (SkipEnds g.D.Drain g.B.Drain)
    (λ a b. Unit) _ _ _ _ _ _ c.loop-count.invariant c.in-Ok.ensures.failed _
    (no_more _ _ _ _ c.in-Ok.ensures.bytes c.if-count-eq0.true (search rules)) (c.in-Ok.ensures.bytes.1 c.if-count-eq0.true (search rules))
    (c.in-Ok.ensures.ended.0 c.if-count-eq0.true (search rules)) _ c.end.ensures.ends

pub returns-then-count-eq0-clause-stops : goal.returns-then-count-eq0-clause-stops
returns-then-count-eq0-clause-stops g c =
    end_stops (IsSkipping g.D.Drain g.B.Drain) (SkipHalts g.D.Drain g.B.Drain) (SkipEnds g.D.Drain g.B.Drain)
    (λ a b. Unit) _ _ _ _ _ _ c.loop-count.invariant c.in-Ok.ensures.failed _
    (no_more _ _ _ _ c.in-Ok.ensures.bytes c.if-count-eq0.true (search rules)) (c.in-Ok.ensures.bytes.1 c.if-count-eq0.true (search rules))
    (c.in-Ok.ensures.ended.0 c.if-count-eq0.true (search rules)) _ c.end.ensures.halts

pub loop-count-smaller : goal.loop-count-smaller
loop-count-smaller g c =
    omega (arith, length-take c.in-Ok.count c.fill.new.buf, c.in-Ok.ensures.bound, c.if-count-eq0.false, c.in-Ok-take.ensures.count, c.in-Ok-take.ensures.few)

pub loop-count-preserved : goal.loop-count-preserved
loop-count-preserved g c =
    let i = c.loop-count.invariant in
    on_piece (IsSkipping g.D.Drain g.B.Drain) (SkipHalts g.D.Drain g.B.Drain) (SkipEnds g.D.Drain g.B.Drain)
    (λ a b. Unit) _ _ _ _ _ _ i c.in-Ok.ensures.failed _ _ c.in-Ok.ensures.bytes.0
    (c.in-Ok.ensures.ended.1 (λ e. absurd (c.if-count-eq0.false e))) _ (search rules) c.in-Ok-take.ensures.takes tt

pub returns-in-Err-take-clause-stops : goal.returns-in-Err-take-clause-stops
returns-in-Err-take-clause-stops g c =
    piece_stops (IsSkipping g.D.Drain g.B.Drain) (SkipHalts g.D.Drain g.B.Drain) (SkipEnds g.D.Drain g.B.Drain)
    (λ a b. Unit) _ _ _ _ _ _ c.loop-count.invariant c.in-Ok.ensures.failed _ _ c.in-Ok.ensures.bytes.0
    (c.in-Ok.ensures.ended.1 (λ e. absurd (c.if-count-eq0.false e))) _ c.in-Err-take.ensures.halts

pub returns-in-Err-clause-stops : goal.returns-in-Err-clause-stops
returns-in-Err-clause-stops g c =
    read_stops (IsSkipping g.D.Drain g.B.Drain) (SkipHalts g.D.Drain g.B.Drain) (SkipEnds g.D.Drain g.B.Drain)
    (λ a b. Unit) _ _ _ _ _ _ c.loop-count.invariant c.in-Err.ensures.bytes c.in-Err.ensures.failed c.in-Err.ensures.ended

-- The loop over the pieces of a source: the bytes so far were taken, and it ends where the source does or an error stops it.
use Rattle.rdf_stream.proofs.Prelude.{◌≤◌, ◌∙◌, [], refl, rules, subst, arith, length, length-take, take, IfSome, Ok, Err, Consumes-kept, Consumes-nil, reading, TellsNear}
use Rattle.rdf_stream.proofs.PiecesLemmas.{before_piece, end_read, end_stops, no_more, on_piece, piece_stops, read_stops}
use Rattle.rdf_stream.proofs.WatchLemmas.{follows_more, tells_at_end, tells_in_piece}
use Rattle.rdf_stream.proofs.pieces.read_pieces.Goals as goal

pub loop-count-init : goal.loop-count-init
loop-count-init g c = (
  record {
    bytes = _;
    consumed = Consumes-nil _;
    is_taken = c.requires.begun;
    same = c.requires.stays;
    more = c.requires.more;
    live = c.requires.source;
    has_room = c.requires.room;
  },
  record { bytes = []; consumed = Consumes-nil _; kept = c.requires.kept; untold = c.requires.untold },
  refl,
  λ e. e,
)

pub returns-in-Ok-end-clause-read : goal.returns-in-Ok-end-clause-read
returns-in-Ok-end-clause-read g c =
    end_read g.R.Run.taken g.R.Run.halts g.R.Run.ends g.R.Run.stays _ _ _ _ _ _ c.loop-count.invariant.0 c.in-Ok.ensures.failed _
    (no_more _ _ _ _ c.in-Ok.ensures.bytes c.if-count-eq0.true (search rules)) (c.in-Ok.ensures.bytes.1 c.if-count-eq0.true (search rules))
    (c.in-Ok.ensures.ended.0 c.if-count-eq0.true (search rules)) (Ok c.in-Ok-end.summary) c.in-Ok-end.ensures.ends

pub returns-in-Err-end-clause-stops : goal.returns-in-Err-end-clause-stops
returns-in-Err-end-clause-stops g c =
    end_stops g.R.Run.taken g.R.Run.halts g.R.Run.ends g.R.Run.stays _ _ _ _ _ _ c.loop-count.invariant.0 c.in-Ok.ensures.failed _
    (no_more _ _ _ _ c.in-Ok.ensures.bytes c.if-count-eq0.true (search rules)) (c.in-Ok.ensures.bytes.1 c.if-count-eq0.true (search rules))
    (c.in-Ok.ensures.ended.0 c.if-count-eq0.true (search rules)) (Err c.in-Err-end.fault) c.in-Err-end.ensures.halts

pub returns-in-Err-end-clause-near : goal.returns-in-Err-end-clause-near
returns-in-Err-end-clause-near g c =
    let i = c.loop-count.invariant in
    subst (λ w. IfSome c.stop.new.self.near (TellsNear w.dialect w.limit (Err c.in-Err-end.fault) (g.S.Source.remaining c.args.source.now)
    (reading g.S.Source.remaining g.S.Source.last g.S.Source.has_ended g.S.Source.has_failed c.fill.new.self))) i.2
    (tells_at_end _ _ _ c.loop-count.watching i.1 c.in-Ok.ensures.failed
    (no_more _ _ _ _ c.in-Ok.ensures.bytes c.if-count-eq0.true (search rules)) (c.in-Ok.ensures.bytes.1 c.if-count-eq0.true (search rules))
    (c.in-Ok.ensures.ended.0 c.if-count-eq0.true (search rules)) c.in-Err-end.fault _ c.stop.ensures.told)

pub returns-in-Err-take-clause-near : goal.returns-in-Err-take-clause-near
returns-in-Err-take-clause-near g c =
    let i = c.loop-count.invariant in
    subst (λ w. IfSome c.stop-in-Err-take.new.self.near (TellsNear w.dialect w.limit (Err c.in-Err-take.fault)
    (g.S.Source.remaining c.args.source.now) (reading g.S.Source.remaining g.S.Source.last g.S.Source.has_ended g.S.Source.has_failed c.fill.new.self))) i.2
    (tells_in_piece _ _ _ c.loop-count.watching i.1 c.in-Ok.ensures.failed _ c.in-Ok.ensures.bytes.0
    (c.in-Ok.ensures.ended.1 (λ e. absurd (c.if-count-eq0.false e))) c.in-Err-take.fault _ c.stop-in-Err-take.ensures.told)

pub loop-count-smaller : goal.loop-count-smaller
loop-count-smaller g c =
    omega (arith, length-take c.in-Ok.count c.fill.new.buf, c.in-Ok.ensures.bound, c.if-count-eq0.false, c.in-Ok-take.ensures.count, c.in-Ok-take.ensures.few)

pub loop-count-preserved : goal.loop-count-preserved
loop-count-preserved g c =
    let i = c.loop-count.invariant.0 in
    let w = c.loop-count.invariant in
    let goes_on = c.in-Ok.ensures.ended.1 (λ e. absurd (c.if-count-eq0.false e)) in (
      on_piece g.R.Run.taken g.R.Run.halts g.R.Run.ends g.R.Run.stays _ _ _ _ _ _ i c.in-Ok.ensures.failed _ _ c.in-Ok.ensures.bytes.0
          goes_on _ (search rules) c.in-Ok-take.ensures.takes (c.in-Ok-take.ensures.stays _ i.same),
      follows_more _ _ _ c.loop-count.watching w.1 c.in-Ok.ensures.failed _ c.in-Ok.ensures.bytes.0 _ c.go_on.ensures.kept c.go_on.ensures.untold,
      c.go_on.ensures.words ∙ w.2,
      λ e. c.go_on.ensures.unasked (w.3 e),
    )

pub returns-in-Err-take-clause-stops : goal.returns-in-Err-take-clause-stops
returns-in-Err-take-clause-stops g c =
    piece_stops g.R.Run.taken g.R.Run.halts g.R.Run.ends g.R.Run.stays _ _ _ _ _ _ c.loop-count.invariant.0 c.in-Ok.ensures.failed _ _
    c.in-Ok.ensures.bytes.0 (c.in-Ok.ensures.ended.1 (λ e. absurd (c.if-count-eq0.false e))) _ c.in-Err-take.ensures.halts

pub returns-in-Err-clause-stops : goal.returns-in-Err-clause-stops
returns-in-Err-clause-stops g c =
    read_stops g.R.Run.taken g.R.Run.halts g.R.Run.ends g.R.Run.stays _ _ _ _ _ _ c.loop-count.invariant.0 c.in-Err.ensures.bytes
    c.in-Err.ensures.failed c.in-Err.ensures.ended

pub returns-in-Err-clause-before : goal.returns-in-Err-clause-before
returns-in-Err-clause-before g c =
    before_piece g.R.Run.taken g.R.Run.halts g.R.Run.ends g.R.Run.stays _ _ _ _ _ _ c.loop-count.invariant.0 _ []
    (Consumes-kept _ _ _ [] (Consumes-nil _) c.in-Err.ensures.bytes) (omega arith) (λ first s. s)

pub returns-in-Ok-end-clause-before : goal.returns-in-Ok-end-clause-before
returns-in-Ok-end-clause-before g c =
    before_piece g.R.Run.taken g.R.Run.halts g.R.Run.ends g.R.Run.stays _ _ _ _ _ _ c.loop-count.invariant.0 _ []
    (no_more _ _ _ _ c.in-Ok.ensures.bytes c.if-count-eq0.true (search rules)) (omega arith)
    c.end.ensures.stays

pub returns-in-Err-end-clause-before : goal.returns-in-Err-end-clause-before
returns-in-Err-end-clause-before g c =
    before_piece g.R.Run.taken g.R.Run.halts g.R.Run.ends g.R.Run.stays _ _ _ _ _ _ c.loop-count.invariant.0 _ []
    (no_more _ _ _ _ c.in-Ok.ensures.bytes c.if-count-eq0.true (search rules)) (omega arith)
    c.end.ensures.stays

pub returns-in-Err-take-clause-before : goal.returns-in-Err-take-clause-before
returns-in-Err-take-clause-before g c =
    let few : length (take c.in-Ok.count c.fill.new.buf) ≤ g.S.Source.last c.fill.new.self =
    omega (arith, length-take c.in-Ok.count c.fill.new.buf, c.in-Ok.ensures.last) in
    before_piece g.R.Run.taken g.R.Run.halts g.R.Run.ends g.R.Run.stays _ _ _ _ _ _ c.loop-count.invariant.0 _ _ c.in-Ok.ensures.bytes.0 few
    c.in-Err-take.ensures.stays

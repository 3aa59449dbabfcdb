use Rattle.rdf_stream.proofs.Prelude.{ap, arith, drop, length-take, subst, sym, take, ◌++◌, take-append-drop, HasRoom}
use Rattle.rdf_stream.proofs.PiecesLemmas.{if_err, on_ok}
use Rattle.rdf_stream.proofs.SkipLemmas.{count_halts, front_halts, held_few, held_room, held_start, hold_halts, piece_taken}
use Rattle.rdf_stream.proofs.WithoutCrsLemmas.{slice_rest}
use Rattle.rdf_stream.proofs.skips.Sifter.take.Goals as goal

pub returns-in-Err-clause-halts : goal.returns-in-Err-clause-halts
returns-in-Err-clause-halts g c = λ first bytes i.
    count_halts g.D.Drain g.B.Drain first bytes _ _ _ i c.args.piece.now c.in-Err.fault _ c.in-Err.ensures.refuses.0 c.in-Err.ensures.refuses.1

pub returns-in-Err-sift_front-clause-halts : goal.returns-in-Err-sift_front-clause-halts
returns-in-Err-sift_front-clause-halts g c = λ first bytes i.
    let piece = c.args.piece.now in
    let len = c.lines_len-len.result in
    front_halts g.D.Drain g.B.Drain first bytes _ _ _ i piece _ c.in-Ok.ensures.counts (take len piece) (drop len piece)
    (sym (take-append-drop len piece)) c.in-Err-sift_front.fault _ _ _ _ (held_start g.D.Drain g.B.Drain first bytes _ _ _ i
    c.start-start.result c.start-start.ensures.offset c.start-start.ensures.line) c.in-Err-sift_front.ensures.fails

pub returns-clause-takes : goal.returns-clause-takes
returns-clause-takes g c =
    let piece = c.args.piece.now in
    let len = c.lines_len-len.result in
    on_ok c.hold.result _ _
    (λ x h first bytes i.
    piece_taken g.D.Drain g.B.Drain first bytes _ _ _ i piece _ c.in-Ok.ensures.counts (take len piece) (drop len piece)
    (sym (take-append-drop len piece)) _ (held_start g.D.Drain g.B.Drain first bytes _ _ _ i c.start-start.result
    c.start-start.ensures.offset c.start-start.ensures.line) _ _ _ c.in-Ok-sift_front.ensures.sifts
    _ _ (slice_rest piece len) c.lines_len-len.ensures.lines.no_end c.in-Ok.ensures.few h)
    c.hold.ensures.holds

pub returns-clause-halts : goal.returns-clause-halts
returns-clause-halts g c =
    let piece = c.args.piece.now in
    let len = c.lines_len-len.result in
    if_err c.hold.result _ _
    (λ f h first bytes i.
    hold_halts g.D.Drain g.B.Drain first bytes _ _ _ i piece _ c.in-Ok.ensures.counts (take len piece) (drop len piece)
    (sym (take-append-drop len piece)) _ (held_start g.D.Drain g.B.Drain first bytes _ _ _ i c.start-start.result
    c.start-start.ensures.offset c.start-start.ensures.line) _ _ _ c.in-Ok-sift_front.ensures.sifts f _ h.0 h.1)
    c.hold.ensures.fails

pub start-start-requires : goal.start-start-requires
start-start-requires g c = let (first, bytes, i) = c.requires.begun in record { within = held_few g.D.Drain g.B.Drain first bytes _ _ _ i }

pub sift_front-requires-clause-room : goal.sift_front-requires-clause-room
sift_front-requires-clause-room g c =
    let (first, bytes, i) = c.requires.begun in
    let piece = c.args.piece.now in
    let len = c.lines_len-len.result in
    let few = c.in-Ok.ensures.few in
    let n = length-take len piece in
    subst (λ w. HasRoom c.start-start.result (w ++ take len piece)) (sym (ap (λ h. h.part.items) c.in-Ok.ensures.counts))
    (held_room g.D.Drain g.B.Drain first bytes _ _ _ i c.start-start.result c.start-start.ensures.offset c.start-start.ensures.line
    (take len piece) (omega (arith, few, n)))

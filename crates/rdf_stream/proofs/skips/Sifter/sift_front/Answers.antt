use Rattle.rdf_stream.proofs.Prelude.{refl, ap, length, subst, sym, ◌∙◌, arith, length-take, eqb-true, split_lines, HasSifted, SiftFails, start_of}
use Rattle.rdf_stream.proofs.PiecesLemmas.{if_err, if_ok}
use Rattle.rdf_stream.proofs.SieveLemmas.{some_bytes}
use Rattle.rdf_stream.proofs.SkipLemmas.{both_fails, both_sifted, direct_fails, front_direct, front_none, line_stops, no_bytes, room_behind}
use Rattle.rdf_stream.proofs.WithoutCrsLemmas.{slice_rest}
use Rattle.rdf_stream.proofs.skips.Sifter.sift_front.Goals as goal

pub returns-then-is_empty-clause-sifts : goal.returns-then-is_empty-clause-sifts
returns-then-is_empty-clause-sifts g c =
    if_ok c.sift.result _ _
    (λ x h.
    front_direct g.D.Drain g.B.Drain _ c.args.self.now _ _ _ _ _ c.args.front.now
    (no_bytes c.args.self.now.part.items (ap length (sym c.as_slice.ensures.value)
    ∙ eqb-true (length c.as_slice.result.now) 0 (sym c.is_empty.ensures ∙ c.if-is_empty.true))) c.requires.ended h refl refl refl)
    c.sift.ensures.sifted

pub returns-then-is_empty-clause-fails : goal.returns-then-is_empty-clause-fails
returns-then-is_empty-clause-fails g c =
    if_err c.sift.result _ _
    (λ f h.
    direct_fails g.D.Drain g.B.Drain _ f c.args.self.now _ _ _ _ _ c.args.front.now
    (no_bytes c.args.self.now.part.items (ap length (sym c.as_slice.ensures.value)
    ∙ eqb-true (length c.as_slice.result.now) 0 (sym c.is_empty.ensures ∙ c.if-is_empty.true))) c.requires.ended h)
    c.sift.ensures.fails

pub returns-then-is_empty-2-clause-sifts : goal.returns-then-is_empty-2-clause-sifts
returns-then-is_empty-2-clause-sifts g c =
    front_none g.D.Drain g.B.Drain _ _ _ _ c.args.front.now
    (eqb-true (length c.args.front.now) 0 (sym c.is_empty-2.ensures ∙ c.if-is_empty-2.true)) c.requires.live c.requires.bad_live

pub end_line-requires-clause-room : goal.end_line-requires-clause-room
end_line-requires-clause-room g c = (room_behind c.args.start c.args.self.now.part.items c.args.front.now c.line_len-len.result c.requires.room).0

pub returns-in-Err-clause-fails : goal.returns-in-Err-clause-fails
returns-in-Err-clause-fails g c =
    line_stops g.D.Drain g.B.Drain _ c.in-Err.fault c.args.self.now c.end_line.new.self _ _ _ _ c.args.front.now c.line_len-len.result
    c.requires.ended (some_bytes c.args.front.now (sym c.is_empty-2.ensures ∙ c.if-is_empty-2.false))
    (c.line_len-len.ensures.ended c.requires.ended) (omega (
      arith,
      c.line_len-len.ensures.progress,
      c.line_len-len.ensures.within,
      length-take c.line_len-len.result c.args.front.now,
    )) c.in-Err.ensures.fails

pub returns-in-Ok-sift-clause-sifts : goal.returns-in-Ok-sift-clause-sifts
returns-in-Ok-sift-clause-sifts g c =
    both_sifted g.D.Drain g.B.Drain _ _ c.args.self.now c.end_line.new.self _ _ _ _ _ _ _ c.args.front.now c.line_len-len.result
    c.requires.ended (some_bytes c.args.front.now (sym c.is_empty-2.ensures ∙ c.if-is_empty-2.false))
    (c.line_len-len.ensures.ended c.requires.ended) (omega (
      arith,
      c.line_len-len.ensures.progress,
      c.line_len-len.ensures.within,
      length-take c.line_len-len.result c.args.front.now,
    )) c.in-Ok.ensures.sifted c.in-Ok.ensures.next
    (subst (λ w. HasSifted g.D.Drain g.B.Drain (start_of c.in-Ok.next) c.end_line.new.self.sieve c.end_line.new.drain c.end_line.new.bad
    (split_lines w) c.sift-2.new.self c.sift-2.new.drain c.sift-2.new.bad) (slice_rest c.args.front.now c.line_len-len.result) c.in-Ok-sift.ensures.sifted)
    c.in-Ok.ensures.none.none c.in-Ok.ensures.none.count c.in-Ok.ensures.none.line

pub returns-in-Err-sift-clause-fails : goal.returns-in-Err-sift-clause-fails
returns-in-Err-sift-clause-fails g c =
    both_fails g.D.Drain g.B.Drain _ _ c.args.self.now c.end_line.new.self _ _ _ _ _ _ _ c.args.front.now c.line_len-len.result
    c.requires.ended (some_bytes c.args.front.now (sym c.is_empty-2.ensures ∙ c.if-is_empty-2.false))
    (c.line_len-len.ensures.ended c.requires.ended) (omega (
      arith,
      c.line_len-len.ensures.progress,
      c.line_len-len.ensures.within,
      length-take c.line_len-len.result c.args.front.now,
    )) c.in-Ok.ensures.sifted c.in-Ok.ensures.next c.in-Err-sift.fault
    (subst (λ w. SiftFails g.D.Drain g.B.Drain c.in-Err-sift.fault (start_of c.in-Ok.next) c.end_line.new.self.sieve c.end_line.new.drain
    c.end_line.new.bad (split_lines w) c.sift-2.new.self c.sift-2.new.drain c.sift-2.new.bad)
    (slice_rest c.args.front.now c.line_len-len.result) c.in-Err-sift.ensures.fails)

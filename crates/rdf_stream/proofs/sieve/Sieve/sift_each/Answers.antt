use Rattle.rdf_stream.proofs.Prelude.{◌≡◌, ◌++◌, ◌∷◌, [], List, ℕ, length, take, drop, refl, sym, ap, subst, ◌∙◌, append_assoc, arith, eqb-true, append-nil, Place, split_lines, HasRoom, HasSifted, SiftFails, start_of, place_after}
use Rattle.rdf_stream.proofs.SieveLemmas.{fails_more, fails_then, past_more, room_left, sifted_none, sifted_then}
use Rattle.rdf_stream.proofs.WithoutCrsLemmas.{slice_rest}
use Rattle.rdf_stream.proofs.sieve.Sieve.sift_each.Goals as goal

pub loop-rest-init : goal.loop-rest-init
loop-rest-init g c = ([], refl, refl, c.requires.room, sifted_none g.D.Drain g.B.Drain _ _ _ _ c.requires.live c.requires.bad_live)

pub sift_line-requires-clause-room : goal.sift_line-requires-clause-room
sift_line-requires-clause-room g c = let (done, split, at, room, h) = c.loop-rest.invariant in
    (room_left c.loop-rest.at c.loop-rest.rest.now c.line_len-len.result room).0

pub past-at-requires : goal.past-at-requires
past-at-requires g c = let (done, split, at, room, h) = c.loop-rest.invariant in
    record { room = (room_left c.loop-rest.at c.loop-rest.rest.now c.line_len-len.result room).0 }

pub returns-in-Err-clause-fails : goal.returns-in-Err-clause-fails
returns-in-Err-clause-fails g c =
    let (done, split, at, room, h) = c.loop-rest.invariant in
    let start = start_of c.args.start in
    let whole = split ∙ ap (λ ls. done ++ ls) c.line_len-len.ensures.line in
    let line = take c.line_len-len.result c.loop-rest.rest.now in
    subst (λ ls. SiftFails g.D.Drain g.B.Drain c.in-Err.fault start c.args.self.now c.args.drain.now c.args.bad.now ls c.sift_line.new.self
    c.sift_line.new.drain c.sift_line.new.bad) (sym whole)
    (fails_then g.D.Drain g.B.Drain start c.in-Err.fault _ _ _ _ _ _ _ _ _ done _ h
    (subst (λ (p : Place). SiftFails g.D.Drain g.B.Drain c.in-Err.fault p c.loop-rest.self c.loop-rest.drain c.loop-rest.bad
    (line ∷ split_lines (drop c.line_len-len.result c.loop-rest.rest.now)) c.sift_line.new.self c.sift_line.new.drain c.sift_line.new.bad) at
    (fails_more g.D.Drain g.B.Drain _ c.in-Err.fault _ _ _ _ _ _ (line ∷ [])
    (split_lines (drop c.line_len-len.result c.loop-rest.rest.now)) c.in-Err.ensures.fails)))

pub loop-rest-preserved : goal.loop-rest-preserved
loop-rest-preserved g c =
    let (done, split, at, room, h) = c.loop-rest.invariant in
    let rest = c.loop-rest.rest.now in
    let len = c.line_len-len.result in
    let line = take len rest in (
      done ++ line ∷ [],
      split ∙ (ap (λ ls. done ++ ls) (c.line_len-len.ensures.line ∙ ap (λ w. line ∷ split_lines w) (sym (slice_rest rest len)))
          ∙ sym (append_assoc done (line ∷ []) _)),
      c.past-at.ensures ∙ (ap (λ (p : Place). place_after p line) at ∙ sym (past_more (start_of c.args.start) done line)),
      subst (HasRoom c.past-at.result) (sym (slice_rest rest len)) ((room_left c.loop-rest.at rest len room).1 c.past-at.result c.past-at.ensures),
      sifted_then g.D.Drain g.B.Drain _ _ _ _ _ _ _ _ _ _ done (line ∷ []) h
          (subst (λ (p : Place). HasSifted g.D.Drain g.B.Drain p c.loop-rest.self c.loop-rest.drain c.loop-rest.bad
          (line ∷ []) c.sift_line.new.self c.sift_line.new.drain c.sift_line.new.bad) at c.in-Ok.ensures.sifted),
    )

pub returns-clause-sifted : goal.returns-clause-sifted
returns-clause-sifted g c =
    let (done, split, at, room, h) = c.loop-rest.invariant in
    let none : length c.loop-rest.rest.now ≡ 0 = eqb-true (length c.loop-rest.rest.now) 0 (sym c.is_empty.ensures ∙ c.loop-rest-test.false) in
    let whole = split ∙ (ap (λ ls. done ++ ls) (empty c.loop-rest.rest.now none) ∙ append-nil done) in
    subst (λ ls. HasSifted g.D.Drain g.B.Drain (start_of c.args.start) c.args.self.now c.args.drain.now c.args.bad.now ls c.loop-rest.self
    c.loop-rest.drain c.loop-rest.bad) (sym whole) h
  where
    empty : (w : List ℕ) → length w ≡ 0 → split_lines w ≡ []
    empty [] e = refl
    empty (b ∷ w) e = absurd (let z : length (b ∷ w) ≡ 0 = e in omega arith)

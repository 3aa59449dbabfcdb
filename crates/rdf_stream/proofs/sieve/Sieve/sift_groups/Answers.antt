use Rattle.rdf_stream.proofs.Prelude.{◌≡◌, ◌++◌, ◌∷◌, [], List, ℕ, length, take, drop, refl, sym, ap, subst, ◌∙◌, append_assoc, arith, length-take, eqb-true, append-nil, Place, split_lines, HasRoom, HasSifted, SiftFails, start_of, place_after}
use Rattle.rdf_stream.proofs.SieveLemmas.{fails_more, fails_then, past_lines, room_left, sifted_none, sifted_then}
use Rattle.rdf_stream.proofs.WithoutCrsLemmas.{slice_rest}
use Rattle.rdf_stream.proofs.sieve.Sieve.sift_groups.Goals as goal

pub loop-rest-init : goal.loop-rest-init
loop-rest-init g c = ([], refl, refl, c.requires.room, sifted_none g.D.Drain g.B.Drain _ _ _ _ c.requires.live c.requires.bad_live)

pub sift_group-requires-clause-room : goal.sift_group-requires-clause-room
sift_group-requires-clause-room g c = let (done, split, at, room, h) = c.loop-rest.invariant in
    (room_left c.loop-rest.place c.loop-rest.rest.now c.group_len-len.result room).0

pub sift_group-requires-clause-some : goal.sift_group-requires-clause-some
sift_group-requires-clause-some g c =
    omega (arith, c.group_len-len.ensures.progress, c.group_len-len.ensures.within, length-take c.group_len-len.result c.loop-rest.rest.now)

pub past-place-requires : goal.past-place-requires
past-place-requires g c = let (done, split, at, room, h) = c.loop-rest.invariant in
    record { room = (room_left c.loop-rest.place c.loop-rest.rest.now c.group_len-len.result room).0 }

pub returns-in-Err-clause-fails : goal.returns-in-Err-clause-fails
returns-in-Err-clause-fails g c =
    let (done, split, at, room, h) = c.loop-rest.invariant in
    let start = start_of c.args.start in
    let whole = split ∙ ap (λ ls. done ++ ls) c.group_len-len.ensures.lines in
    let lines = split_lines (take c.group_len-len.result c.loop-rest.rest.now) in
    subst (λ ls. SiftFails g.D.Drain g.B.Drain c.in-Err.fault start c.args.self.now c.args.drain.now c.args.bad.now ls c.sift_group.new.self
    c.sift_group.new.drain c.sift_group.new.bad) (sym whole)
    (fails_then g.D.Drain g.B.Drain start c.in-Err.fault _ _ _ _ _ _ _ _ _ done _ h
    (subst (λ (p : Place). SiftFails g.D.Drain g.B.Drain c.in-Err.fault p c.loop-rest.self c.loop-rest.drain c.loop-rest.bad
    (lines ++ split_lines (drop c.group_len-len.result c.loop-rest.rest.now)) c.sift_group.new.self c.sift_group.new.drain c.sift_group.new.bad) at
    (fails_more g.D.Drain g.B.Drain _ c.in-Err.fault _ _ _ _ _ _ lines
    (split_lines (drop c.group_len-len.result c.loop-rest.rest.now)) c.in-Err.ensures.fails)))

pub loop-rest-preserved : goal.loop-rest-preserved
loop-rest-preserved g c =
    let (done, split, at, room, h) = c.loop-rest.invariant in
    let rest = c.loop-rest.rest.now in
    let len = c.group_len-len.result in
    let group = take len rest in
    let lines = split_lines group in (
      done ++ lines,
      split ∙ (ap (λ ls. done ++ ls) (c.group_len-len.ensures.lines ∙ ap (λ w. lines ++ split_lines w) (sym (slice_rest rest len)))
          ∙ sym (append_assoc done lines _)),
      c.past-place.ensures ∙ (ap (λ (p : Place). place_after p group) at ∙ sym (past_lines (start_of c.args.start) done group)),
      subst (HasRoom c.past-place.result) (sym (slice_rest rest len)) ((room_left c.loop-rest.place rest len room).1 c.past-place.result c.past-place.ensures),
      sifted_then g.D.Drain g.B.Drain _ _ _ _ _ _ _ _ _ _ done lines h
          (subst (λ (p : Place). HasSifted g.D.Drain g.B.Drain p c.loop-rest.self c.loop-rest.drain c.loop-rest.bad lines
          c.sift_group.new.self c.sift_group.new.drain c.sift_group.new.bad) at c.in-Ok.ensures.sifted),
    )

pub returns-clause-sifted : goal.returns-clause-sifted
returns-clause-sifted g c =
    let (done, split, at, room, h) = c.loop-rest.invariant in
    let none : length c.loop-rest.rest.now ≡ 0 = eqb-true (length c.loop-rest.rest.now) 0 (sym c.is_empty.ensures ∙ c.loop-rest-test.false) in
    let whole = split ∙ (ap (λ ls. done ++ ls) (empty c.loop-rest.rest.now none) ∙ append-nil done) in
    subst (λ ls. HasSifted g.D.Drain g.B.Drain (start_of c.args.start) c.args.self.now c.args.drain.now c.args.bad.now ls c.loop-rest.self
    c.loop-rest.drain c.loop-rest.bad) (sym whole) h
  where
    empty : (w : List ℕ) → length w ≡ 0 → split_lines w ≡ []
    empty [] e = refl
    empty (b ∷ w) e = absurd (let z : length (b ∷ w) ≡ 0 = e in omega arith)

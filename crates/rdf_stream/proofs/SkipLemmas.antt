-- A run that goes on after bad lines: what it has done after each piece, and at the end.
use Rattle.rdf_stream.proofs.Prelude.{◌≡◌, ℕ, suc, ◌+◌, ◌<◌, ◌≤◌, ◌-◌, ◌||◌, cond, Bool, true, false, List, [], ◌∷◌, ◌++◌, ◌⊎◌, inl, inr, Option, refl, sym, ap, ◌∙◌, subst, ⊎_elim, append_assoc, length, take, drop, count_by, ◌==◌, arith, length-append, length-drop, length-take, Appends, Keeps, AllByRecursion, concat, Appends-kept, Appends-nil, Consumes-whole, append-nil, take-append-drop, Quad, end_of, first_place, tokens_of, IsTooLong, counted, most_bytes, place_of, Place, is_line_end, document_whole, in_lines, LineForm, IsDocumentWithin, Sifts, split_lines, Writable, StreamFault, OutputView, IsConverted, AppendsFront, HasGiven, JobRead, kind_of, Line, Tree, Conversion, conversion_by, conversion_of, written_in, output, ReadStops, ReadsAll, SourceFails, output_of, HasRoom, HasSifted, Holds, IsEndedFront, IsSkipping, RefusesPiece, SiftFails, SiftFrontFails, SiftsFront, SkipEnds, SkipHalts, job_of, place_past, start_of, IsAside, PutsAside, SkipStops, Skips, SkipsAll, SkipsEnded, counted_up, place_after}
use Rattle.std.proofs.lemmas.List.Folds.{concat-append}
use Rattle.rdf_terms.specs.declared.kind.Dialect.TheVariants.{Lines}
use Rattle.rdf_tokens.proofs.GrammarsLemmas.{counted_complete}
use Rattle.rdf_tokens.proofs.PlaceLemmas.{feeds-append}
use Rattle.rdf_lines.specs.declared.form.Style.TheVariants.{Kept}
use Rattle.rdf_lines.proofs.SplitLemmas.{good_read, split_whole}
use Rattle.rdf_lines.proofs.WellFormed.{document_writable}
use Rattle.rdf_stream.specs.declared.devices.Drain as drain
use Rattle.rdf_stream.specs.declared.fault.StreamFault.TheVariants as fault
use Rattle.rdf_stream.specs.declared.sieve.LineStart.{LineStart}
use Rattle.rdf_stream.specs.declared.sieve.Sieve.{Sieve}
use Rattle.rdf_stream.specs.declared.skips.Sifter.{Sifter}
use Rattle.rdf_stream.specs.declared.skips.SkipSummary.{SkipSummary}
use Rattle.rdf_stream.specs.Devices.{Reading}
use Rattle.rdf_stream.specs.declared.form.Kind.{Kind}
use Rattle.rdf_stream.specs.Sieves.{Begins}
use Rattle.rdf_stream.proofs.ConvertingLemmas.{quad_lines}
use Rattle.rdf_stream.proofs.ConvertsLemmas.{lines_job}
use Rattle.rdf_stream.proofs.LineCuts.{split_append}
use Rattle.rdf_stream.proofs.LineOutLemmas.{able}
use Rattle.rdf_stream.proofs.PiecesLemmas.{none_given}
use Rattle.rdf_stream.proofs.SieveLemmas.{feeds, feeds_cons, few_feeds, fails_more, fails_then, past_concat, past_lines, place_same, sifted_none, sifted_then, whole_front}

-- no bytes are none
pub no_bytes : (w : List ℕ) → length w ≡ 0 → w ≡ []
no_bytes [] e = refl
no_bytes (c ∷ w) e = absurd (let z : length (c ∷ w) ≡ 0 = e in omega arith)

-- without a line end there is no line feed
no_feeds : (w : List ℕ) → AllByRecursion (λ b. is_line_end b ≡ false) w → feeds w ≡ 0
no_feeds [] a = refl
no_feeds (b ∷ w) a = let n = no_feeds w a.1 in let e : feeds (b ∷ w) ≡ 0 + feeds w =
    feeds_cons b w ∙ ap (λ t. cond t 1 0 + feeds w) (neither (b == 10) (b == 13) a.0) in omega (arith, n, e)
  where
    neither : (x y : Bool) → (x || y) ≡ false → x ≡ false
    neither true y e = e
    neither false y e = refl

-- of two texts without a line end neither has one together
no_ends : (u v : List ℕ) → AllByRecursion (λ b. is_line_end b ≡ false) u → AllByRecursion (λ b. is_line_end b ≡ false) v →
    AllByRecursion (λ b. is_line_end b ≡ false) (u ++ v)
no_ends [] v a b = b
no_ends (c ∷ u) v a b = (a.0, no_ends u v a.1 b)

-- the first bytes of two texts that are more than the first
take_past : (u v : List ℕ) (n : ℕ) → take (length u + n) (u ++ v) ≡ u ++ take n v
take_past [] v n = ap (λ k. take k v) (let e : length (let x : List ℕ = [] in x) + n ≡ n = omega arith in e)
take_past (c ∷ u) v n =
    let e : length (c ∷ u) + n ≡ suc (length u + n) = omega arith in
    ap (λ k. take k (c ∷ u ++ v)) e ∙ ap (λ w. c ∷ w) (take_past u v n)

-- the place of a fault after as many bytes as a document has
too_long : (bytes piece : List ℕ) (at : Place) (n line : ℕ) → n ≡ length bytes → line ≡ 1 + feeds bytes → length bytes ≤ most_bytes →
    most_bytes < n + length piece →
    at.offset ≡ most_bytes → at.line ≡ line + feeds (take (most_bytes - n) piece) → IsTooLong (bytes ++ piece) at
too_long bytes piece at n line count lines few many offset place =
    let room = most_bytes - n in
    let more = take room piece in
    let fits : length bytes + room ≡ most_bytes = omega (arith, count, few) in
    let front : take most_bytes (bytes ++ piece) ≡ bytes ++ more = ap (λ k. take k (bytes ++ piece)) (sym fits) ∙ take_past bytes piece room in
    let size : length more ≡ room = let t = length-take room piece in omega (arith, t, count, few, many) in
    let a : at.offset ≡ length (bytes ++ more) = let l = length-append bytes more in omega (arith, offset, l, size, fits) in
    let b : at.line ≡ 1 + count_by (λ b. b == 10) (bytes ++ more) = let l : feeds (bytes ++ more) ≡ feeds bytes + feeds more =
    feeds-append bytes more in omega (arith, place, lines, l) in
    (let l = length-append bytes piece in omega (arith, l, count, many), place_same at (end_of (bytes ++ more)) a b ∙ ap end_of (sym front))

-- What was written for a document within the limits is what `convert` writes.
converted : (form : LineForm) (limit iri : ℕ) (out : OutputView) → out.lines.style ≡ Kept → (bytes : List ℕ) (qs : List Quad) →
    IsDocumentWithin (in_lines form limit iri) bytes qs → (old new : Option (List ℕ)) →
    (let job : Conversion = written_in (in_lines form limit iri) (output_of out).form (output_of out).graph in
    Appends old new (job.lines qs) → IsConverted job bytes old new)
converted form limit iri out style bytes qs d old new written =
    let can : Writable out.lines.style qs = subst (λ s. Writable s qs) (sym style) (document_writable form limit iri bytes qs d.document) in (
      record { quads = length qs; tokens = counted (tokens_of Lines limit bytes true).tokens; bytes = length bytes },
      record {
        items = qs;
        document = d.document;
        within = document_whole (in_lines form limit iri) bytes qs d.document d.within.limits;
        size = d.within.size;
        written = written;
        known = quad_lines.told out qs (able out.lines.style qs can);
        counts = record { quads = refl; tokens = counted_complete Lines limit bytes true d.document.0; bytes = refl };
      },
    )

-- the lines of the block and of what comes after it
block_split : (part front block more : List ℕ) → block ≡ part ++ front → IsEndedFront front → 0 < length front →
    split_lines (part ++ (front ++ more)) ≡ split_lines block ++ split_lines more
block_split part front block more e (inl n) l = absurd (let z = ap length n in omega (arith, z, l))
block_split part front block more e (inr (w, c, s, t)) l =
    let same : (part ++ w) ++ c ∷ [] ≡ block = append_assoc part w (c ∷ []) ∙ (ap (λ x. part ++ x) (sym s) ∙ sym e) in
    ap split_lines (sym (append_assoc part front more) ∙ ap (λ x. x ++ more) (sym e ∙ sym same))
    ∙ (split_append (part ++ w) c more t ∙ ap (λ x. split_lines x ++ split_lines more) same)

-- the lines of a part and of what comes after it are its line and the others
line_split : (part front : List ℕ) (n : ℕ) → IsEndedFront (take n front) → 0 < length (take n front) →
    split_lines (part ++ front) ≡ split_lines (part ++ take n front) ++ split_lines (drop n front)
line_split part front n ended l =
    ap (λ w. split_lines (part ++ w)) (sym (take-append-drop n front)) ∙ block_split part (take n front) (part ++ take n front) (drop n front) refl ended l

-- where they fit, the line does, and behind it the others do
pub room_behind : (at : LineStart) (part front : List ℕ) (n : ℕ) → HasRoom at (part ++ front) →
    HasRoom at (part ++ take n front) × ((next : LineStart) → start_of next ≡ place_after (start_of at) (part ++ take n front) → HasRoom next (drop n front))
room_behind at part front n room =
    let few = room.few in
    let lines = room.lines in
    let t = length-take n front in
    let d = length-drop n front in
    let a = length-append part front in
    let c = length-append part (take n front) in
    let k = few_feeds (part ++ take n front) in (
      record { few = omega (arith, few, t, a, c); lines = lines },
      λ next e.
          let o : next.offset ≡ at.offset + length (part ++ take n front) = ap (λ (p : Place). p.offset) e in
          let l : next.line ≡ at.line + feeds (part ++ take n front) = ap (λ (p : Place). p.line) e in
          record { few = omega (arith, few, t, d, a, c, o); lines = omega (arith, lines, k, o, l) },
    )

module _ {A D B : Type 0} (takes : drain.Ghosts D) (sets : drain.Ghosts B) where
  -- nothing was read
  pub skipping_start : (first : Sifter A × D × B) → Begins takes sets first → first.0.part.items ≡ [] → first.0.bytes ≡ 0 → first.0.line ≡ 1 →
      takes.has_failed first.1 ≡ false → sets.has_failed first.2 ≡ false → IsSkipping takes sets first [] first
  skipping_start first b p n l live bad = record {
    begins = b;
    ahead = [];
    whole = sym p;
    lines = λ more. ap (λ w. split_lines (w ++ more)) (sym p);
    no_end = subst (AllByRecursion (λ b. is_line_end b ≡ false)) (sym p) tt;
    sifted = sifted_none takes sets first_place first.0.sieve first.1 first.2 live bad;
    count = n;
    line = l;
    few = omega arith;
  }

  -- a piece that ends no line
  pub front_none : (start : Place) (old : Sifter A) (d : D) (b : B) (front : List ℕ) → length front ≡ 0 → takes.has_failed d ≡ false →
      sets.has_failed b ≡ false → SiftsFront takes sets start old d b front old d b
  front_none start old d b [] e live bad = record {
    lines = [];
    sifted = sifted_none takes sets start old.sieve d b live bad;
    split = λ more. refl;
    whole = append-nil old.part.items;
    no_end = λ h. h;
    count = refl;
    line = refl;
  }
  front_none start old d b (c ∷ w) e live bad = absurd (let z : length (c ∷ w) ≡ 0 = e in omega arith)

  -- a piece whose lines were sifted
  pub front_sifted : (start : Place) (old new : Sifter A) (d d' : D) (b b' : B) (front block : List ℕ) → block ≡ old.part.items ++ front →
      IsEndedFront front → 0 < length front →
      HasSifted takes sets start old.sieve d b (split_lines block) new.sieve d' b' → new.part.items ≡ [] → new.bytes ≡ old.bytes →
      new.line ≡ old.line → SiftsFront takes sets start old d b front new d' b'
  front_sifted start old new d d' b b' front block e ended l h p n k = record {
    lines = split_lines block;
    sifted = h;
    split = λ more. block_split old.part.items front block more e ended l ∙ ap (λ w. split_lines block ++ split_lines (w ++ more)) (sym p);
    whole = sym e ∙ (sym (split_whole block) ∙ (sym (append-nil (concat (split_lines block))) ∙ ap (λ w. concat (split_lines block) ++ w) (sym p)));
    no_end = λ h. subst (AllByRecursion (λ b. is_line_end b ≡ false)) (sym p) tt;
    count = n;
    line = k;
  }

  -- not all of them were
  pub front_fails : (start : Place) (f : StreamFault) (old new : Sifter A) (d d' : D) (b b' : B) (front block : List ℕ) →
      block ≡ old.part.items ++ front → IsEndedFront front → 0 < length front →
      SiftFails takes sets f start old.sieve d b (split_lines block) new.sieve d' b' → SiftFrontFails takes sets f start old d b front new d' b'
  front_fails start f old new d d' b b' front block e ended l h = record {
    lines = split_lines block;
    split = λ more. (split_lines more, block_split old.part.items front block more e ended l);
    fails = h;
  }

  -- A piece that begins with a line: its lines were sifted where they stand.
  pub front_direct : (start : Place) (old new : Sifter A) (d d' : D) (b b' : B) (front : List ℕ) → old.part.items ≡ [] → IsEndedFront front →
      HasSifted takes sets start old.sieve d b (split_lines front) new.sieve d' b' → new.part.items ≡ old.part.items →
      new.bytes ≡ old.bytes → new.line ≡ old.line → SiftsFront takes sets start old d b front new d' b'
  front_direct start old new d d' b b' [] none ended h p n k = record {
    lines = [];
    sifted = h;
    split = λ more. ap (λ w. split_lines (w ++ more)) (sym p);
    whole = append-nil old.part.items ∙ sym p;
    no_end = λ h. subst (AllByRecursion (λ b. is_line_end b ≡ false)) (sym p) h;
    count = n;
    line = k;
  }
  front_direct start old new d d' b b' (c ∷ w) none ended h p n k =
      front_sifted start old new d d' b b' (c ∷ w) (c ∷ w) (ap (λ u. u ++ c ∷ w) (sym none)) ended (omega arith) h (p ∙ none) n k

  -- not all of them were
  pub direct_fails : (start : Place) (f : StreamFault) (old new : Sifter A) (d d' : D) (b b' : B) (front : List ℕ) → old.part.items ≡ [] → IsEndedFront front →
      SiftFails takes sets f start old.sieve d b (split_lines front) new.sieve d' b' → SiftFrontFails takes sets f start old d b front new d' b'
  direct_fails start f old new d d' b b' [] none ended h = record { lines = []; split = λ more. (split_lines (old.part.items ++ more), refl); fails = h }
  direct_fails start f old new d d' b b' (c ∷ w) none ended h =
      front_fails start f old new d d' b b' (c ∷ w) (c ∷ w) (ap (λ u. u ++ c ∷ w) (sym none)) ended (omega arith) h

  -- The line of which a part was held is not sifted.
  pub line_stops : (start : Place) (f : StreamFault) (old new : Sifter A) (d d' : D) (b b' : B) (front : List ℕ) (n : ℕ) →
      IsEndedFront front → 0 < length front → IsEndedFront (take n front) → 0 < length (take n front) →
      SiftFails takes sets f start old.sieve d b (split_lines (old.part.items ++ take n front)) new.sieve d' b' →
      SiftFrontFails takes sets f start old d b front new d' b'
  line_stops start f old new d d' b b' front n ended l line m h =
      front_fails start f old new d d' b b' front (old.part.items ++ front) refl ended l
      (subst (λ ls. SiftFails takes sets f start old.sieve d b ls new.sieve d' b') (sym (line_split old.part.items front n line m))
      (fails_more takes sets start f old.sieve new.sieve d d' b b' (split_lines (old.part.items ++ take n front)) (split_lines (drop n front)) h))

  -- It was sifted, and the others behind it.
  module _ (start next : Place) (old mid new : Sifter A) (d dm d' : D) (b bm b' : B) (front : List ℕ) (n : ℕ) (ended : IsEndedFront front)
      (l : 0 < length front) (line : IsEndedFront (take n front)) (m : 0 < length (take n front))
      (h : HasSifted takes sets start old.sieve d b (split_lines (old.part.items ++ take n front)) mid.sieve dm bm)
      (at : next ≡ place_after start (old.part.items ++ take n front)) where
    past : next ≡ place_past start (split_lines (old.part.items ++ take n front))
    past = at ∙ sym (past_lines start [] (old.part.items ++ take n front))

    pub both_sifted : HasSifted takes sets next mid.sieve dm bm (split_lines (drop n front)) new.sieve d' b' → new.part.items ≡ [] →
        new.bytes ≡ old.bytes → new.line ≡ old.line → SiftsFront takes sets start old d b front new d' b'
    both_sifted k p c t =
        front_sifted start old new d d' b b' front (old.part.items ++ front) refl ended l
        (subst (λ ls. HasSifted takes sets start old.sieve d b ls new.sieve d' b') (sym (line_split old.part.items front n line m))
        (sifted_then takes sets start old.sieve mid.sieve new.sieve d dm d' b bm b' (split_lines (old.part.items ++ take n front))
        (split_lines (drop n front)) h
        (subst (λ (p : Place). HasSifted takes sets p mid.sieve dm bm (split_lines (drop n front)) new.sieve d' b') past k))) p c t

    pub both_fails : (f : StreamFault) → SiftFails takes sets f next mid.sieve dm bm (split_lines (drop n front)) new.sieve d' b' →
        SiftFrontFails takes sets f start old d b front new d' b'
    both_fails f k =
        front_fails start f old new d d' b b' front (old.part.items ++ front) refl ended l
        (subst (λ ls. SiftFails takes sets f start old.sieve d b ls new.sieve d' b') (sym (line_split old.part.items front n line m))
        (fails_then takes sets start f old.sieve mid.sieve new.sieve d dm d' b bm b' (split_lines (old.part.items ++ take n front))
        (split_lines (drop n front)) h
        (subst (λ (p : Place). SiftFails takes sets f p mid.sieve dm bm (split_lines (drop n front)) new.sieve d' b') past k)))

  module _ (first : Sifter A × D × B) (bytes : List ℕ) (old : Sifter A) (d : D) (b : B) (i : IsSkipping takes sets first bytes (old, d, b)) where
    -- what was sifted from the first line on
    from_first : (lines : List (List ℕ)) (s t : Option (List ℕ)) (u v : Option (List ℕ)) → PutsAside Appends (job_of first.0.sieve)
        first.0.sieve.is_first first_place lines s t u v → PutsAside Appends (job_of first.0.sieve) true first_place lines s t u v
    from_first lines s t u v h = subst (λ f. PutsAside Appends (job_of first.0.sieve) f first_place lines s t u v) i.begins.fresh h

    -- where not all lines of some bytes were sifted, the run halts
    halts_of : (f : StreamFault) (all : List ℕ) (e : Bool) (lines later : List (List ℕ)) (new : Sifter A) (d' : D) (b' : B) → split_lines all ≡ lines ++ later →
        SiftFails takes sets f first_place first.0.sieve first.1 first.2 lines new.sieve d' b' → SkipHalts takes sets f first all e (new, d', b')
    halts_of fault.Write all e lines later new d' b' s (failed, ahead, more, split, q) = (
      failed,
      record {
        ahead = ahead;
        later = more ++ later;
        lines = s ∙ (ap (λ z. z ++ later) split ∙ append_assoc ahead more later);
        aside = subst (λ f. PutsAside AppendsFront (job_of first.0.sieve) f first_place ahead (takes.contents first.1) (takes.contents d')
            (sets.contents first.2) (sets.contents b')) i.begins.fresh q;
      },
    )
    halts_of fault.Memory all e lines later new d' b' s (ahead, more, split, h) = (
      h.live,
      h.bad_live,
      record {
        ahead = ahead;
        later = more ++ later;
        lines = s ∙ (ap (λ z. z ++ later) split ∙ append_assoc ahead more later);
        aside = from_first ahead (takes.contents first.1) (takes.contents d') (sets.contents first.2) (sets.contents b') h.aside;
      },
    )
    halts_of (fault.Refused f) all e lines later new d' b' s h = absurd h
    halts_of fault.Read all e lines later new d' b' s h = absurd h

    -- where the part of a line that is held begins
    module _ (start : LineStart) (offset : start.offset ≡ old.bytes - length old.part.items) (line : start.line ≡ old.line) where
      sizes : length bytes ≡ length (concat i.ahead) + length old.part.items
      sizes = ap length i.whole ∙ length-append (concat i.ahead) old.part.items

      lines_before : start.line ≡ 1 + feeds (concat i.ahead)
      lines_before =
          let a : old.line ≡ 1 + feeds bytes = i.line in
          let l : feeds bytes ≡ feeds (concat i.ahead) + feeds old.part.items = ap feeds i.whole ∙ feeds-append (concat i.ahead) old.part.items in
          let n = no_feeds old.part.items i.no_end in omega (arith, a, l, n, line)

      bytes_before : start.offset ≡ length (concat i.ahead)
      bytes_before = let s = sizes in let n : old.bytes ≡ length bytes = i.count in omega (arith, offset, s, n)

      pub held_start : start_of start ≡ place_past first_place i.ahead
      held_start =
          let a = bytes_before in
          let b = lines_before in
          place_same (start_of start) (place_after first_place (concat i.ahead)) (omega (arith, a)) (omega (arith, b)) ∙ sym (past_concat first_place i.ahead)

      -- from there on what is held and the front of a piece fit
      pub held_room : (front : List ℕ) → old.bytes + length front ≤ most_bytes → HasRoom start (old.part.items ++ front)
      held_room front few =
          let s = sizes in
          let a = bytes_before in
          let b = lines_before in
          let k = few_feeds (concat i.ahead) in
          let n : old.bytes ≡ length bytes = i.count in
          let l = length-append old.part.items front in record { few = omega (arith, few, s, a, n, l); lines = omega (arith, a, b, k) }

    -- what is held is among the bytes
    pub held_few : length old.part.items ≤ old.bytes
    held_few =
        let s : length bytes ≡ length (concat i.ahead) + length old.part.items = ap length i.whole ∙ length-append (concat i.ahead) old.part.items in
        let n : old.bytes ≡ length bytes = i.count in omega (arith, s, n)

    module _ (piece : List ℕ) where
      abbrev next : Sifter A
      next = record old { bytes = old.bytes + length piece; line = old.line + feeds piece }

      -- too many bytes
      pub count_halts : (f : StreamFault) (new : Sifter A) → RefusesPiece f old.bytes old.line piece → new ≡ old →
          SkipHalts takes sets f first (bytes ++ piece) false (new, d, b)
      count_halts (fault.Refused f) new (reason, many, offset, line) e = (
        i.sifted.live,
        i.sifted.bad_live,
        reason,
        too_long bytes piece (place_of f) old.bytes old.line i.count i.line i.few many offset line,
        record {
          ahead = i.ahead;
          later = split_lines (old.part.items ++ piece);
          lines = i.lines piece;
          aside = from_first i.ahead (takes.contents first.1) (takes.contents d) (sets.contents first.2) (sets.contents b) i.sifted.aside;
        },
      )
      count_halts fault.Read new h e = absurd h
      count_halts fault.Write new h e = absurd h
      count_halts fault.Memory new h e = absurd h

      module _ (mid : Sifter A) (counted_on : mid ≡ next) (front rest : List ℕ) (whole : piece ≡ front ++ rest) where
        -- the lines of all bytes
        lines_of_all : (more : List ℕ) → split_lines ((bytes ++ piece) ++ more) ≡ i.ahead ++ split_lines (old.part.items ++ (front ++ (rest ++ more)))
        lines_of_all more =
            ap split_lines (append_assoc bytes piece more) ∙ (i.lines (piece ++ more)
            ∙ ap (λ w. i.ahead ++ split_lines (old.part.items ++ w)) (ap (λ w. w ++ more) whole ∙ append_assoc front rest more))

        lines_without : split_lines (bytes ++ piece) ≡ i.ahead ++ split_lines (old.part.items ++ (front ++ rest))
        lines_without = i.lines piece ∙ ap (λ w. i.ahead ++ split_lines (old.part.items ++ w)) whole

        -- a fault while the lines of a piece are sifted
        pub front_halts : (f : StreamFault) (start : Place) (new : Sifter A) (d' : D) (b' : B) → start ≡ place_past first_place i.ahead →
            SiftFrontFails takes sets f start mid d b front new d' b' →
            SkipHalts takes sets f first (bytes ++ piece) false (new, d', b')
        front_halts f start new d' b' at h' =
            let k : SiftFrontFails takes sets f start next d b front new d' b' =
            subst (λ m. SiftFrontFails takes sets f start m d b front new d' b') counted_on h' in
            let h : SiftFrontFails takes sets f (place_past first_place i.ahead) next d b front new d' b' =
            subst (λ (p : Place). SiftFrontFails takes sets f p next d b front new d' b') at k in
            let s = h.split rest in
            halts_of f (bytes ++ piece) false (i.ahead ++ h.lines) s.0 new d' b'
            (lines_without ∙ (ap (λ z. i.ahead ++ z) s.1 ∙ sym (append_assoc i.ahead h.lines s.0)))
            (fails_then takes sets first_place f first.0.sieve old.sieve new.sieve first.1 d d' first.2 b b' i.ahead h.lines i.sifted h.fails)

        module _ (start : Place) (at : start ≡ place_past first_place i.ahead) (m : Sifter A) (d' : D) (b' : B)
            (s' : SiftsFront takes sets start mid d b front m d' b') where
          abbrev s : SiftsFront takes sets (place_past first_place i.ahead) next d b front m d' b'
          s = subst (λ (p : Place). SiftsFront takes sets p next d b front m d' b')
              at (subst (λ k. SiftsFront takes sets start k d b front m d' b') counted_on s')

          all_sifted : HasSifted takes sets first_place first.0.sieve first.1 first.2 (i.ahead ++ s.lines) m.sieve d' b'
          all_sifted = sifted_then takes sets first_place first.0.sieve old.sieve m.sieve first.1 d d' first.2 b b' i.ahead s.lines i.sifted s.sifted

          -- want of memory after that
          pub hold_halts : (f : StreamFault) (new : Sifter A) → f ≡ fault.Memory → new.sieve ≡ m.sieve →
              SkipHalts takes sets f first (bytes ++ piece) false (new, d', b')
          hold_halts f new e k =
              subst (λ f. SkipHalts takes sets f first (bytes ++ piece) false (new, d', b')) (sym e)
              (halts_of fault.Memory (bytes ++ piece) false (i.ahead ++ s.lines) (split_lines (m.part.items ++ rest)) new d' b'
              (lines_without ∙ (ap (λ z. i.ahead ++ z) (s.split rest) ∙ sym (append_assoc i.ahead s.lines (split_lines (m.part.items ++ rest))))) (
                i.ahead ++ s.lines,
                [],
                sym (append-nil (i.ahead ++ s.lines)),
                subst
                    (λ x. HasSifted takes sets first_place first.0.sieve first.1 first.2 (i.ahead ++ s.lines) x d' b') (sym k) all_sifted,
              ))

          -- A piece was taken.
          pub piece_taken : (tail : List ℕ) (new : Sifter A) → tail ≡ rest → AllByRecursion (λ b. is_line_end b ≡ false) rest →
              old.bytes + length piece ≤ most_bytes → Holds m tail new → IsSkipping takes sets first (bytes ++ piece) (new, d', b')
          piece_taken tail new t n few h =
              let part : new.part.items ≡ m.part.items ++ rest = h.parts ∙ ap (λ w. m.part.items ++ w) t in
              record {
                begins = i.begins;
                ahead = i.ahead ++ s.lines;
                whole = ap (λ w. w ++ piece) i.whole
                    ∙ (append_assoc (concat i.ahead) old.part.items piece
                    ∙ (ap (λ w. concat i.ahead ++ w)
                    (ap (λ w. old.part.items ++ w) whole ∙ (sym (append_assoc old.part.items front rest) ∙ (ap (λ w. w ++ rest) s.whole
                    ∙ (append_assoc (concat s.lines) m.part.items rest ∙ ap (λ w. concat s.lines ++ w) (sym part)))))
                    ∙ (sym (append_assoc (concat i.ahead) (concat s.lines) new.part.items)
                    ∙ ap (λ w. w ++ new.part.items) (sym (concat-append i.ahead s.lines)))));
                lines = λ more.
                    lines_of_all more
                    ∙ (ap (λ z. i.ahead ++ z) (s.split (rest ++ more)
                    ∙ ap (λ w. s.lines ++ split_lines w) (sym (append_assoc m.part.items rest more) ∙ ap (λ w. w ++ more) (sym part)))
                    ∙ sym (append_assoc i.ahead s.lines (split_lines (new.part.items ++ more))));
                no_end = subst (AllByRecursion (λ b. is_line_end b ≡ false)) (sym part) (no_ends m.part.items rest (s.no_end i.no_end) n);
                sifted = subst (λ x. HasSifted takes sets first_place first.0.sieve first.1 first.2 (i.ahead ++ s.lines) x d' b') (sym h.sieve) all_sifted;
                count = h.count ∙ (s.count ∙ (ap (λ k. k + length piece) i.count ∙ sym (length-append bytes piece)));
                line = let a : old.line ≡ 1 + feeds bytes = i.line in
                    let l : feeds (bytes ++ piece) ≡ feeds bytes + feeds piece = feeds-append bytes piece in
                    let k : new.line ≡ old.line + feeds piece = h.line ∙ s.line in
                    let all : new.line ≡ 1 + feeds (bytes ++ piece) = omega (arith, a, l, k) in
                    all;
                few = let l = length-append bytes piece in let k = i.count in omega (arith, l, k, few);
              }

    -- all lines of the bytes
    all_lines : split_lines bytes ≡ i.ahead ++ split_lines old.part.items
    all_lines = ap split_lines (sym (append-nil bytes)) ∙ (i.lines [] ∙ ap (λ w. i.ahead ++ split_lines w) (append-nil old.part.items))

    -- a fault at the last line
    pub rest_halts : (f : StreamFault) (start : Place) (new : Sifter A) (d' : D) (b' : B) → start ≡ place_past first_place i.ahead →
        SiftFails takes sets f start old.sieve d b (split_lines old.part.items) new.sieve d' b' →
        SkipHalts takes sets f first bytes true (new, d', b')
    rest_halts f start new d' b' at h' =
        let h : SiftFails takes sets f (place_past first_place i.ahead) old.sieve d b (split_lines old.part.items) new.sieve d' b' =
        subst (λ (p : Place). SiftFails takes sets f p old.sieve d b (split_lines old.part.items) new.sieve d' b') at h' in
        halts_of f bytes true (i.ahead ++ split_lines old.part.items) [] new d' b' (all_lines ∙ sym (append-nil (i.ahead ++ split_lines old.part.items)))
        (fails_then takes sets first_place f first.0.sieve old.sieve new.sieve first.1 d d' first.2 b b' i.ahead (split_lines old.part.items) i.sifted h)

    module _ (start : Place) (at : start ≡ place_past first_place i.ahead) (new : Sifter A) (d' : D) (b' : B)
        (h : HasSifted takes sets start old.sieve d b (split_lines old.part.items) new.sieve d' b') where
      every : HasSifted takes sets first_place first.0.sieve first.1 first.2 (i.ahead ++ split_lines old.part.items) new.sieve d' b'
      every = sifted_then takes sets first_place first.0.sieve old.sieve new.sieve first.1 d d' first.2 b b' i.ahead (split_lines old.part.items) i.sifted
          (subst (λ (p : Place). HasSifted takes sets p old.sieve d b (split_lines old.part.items) new.sieve d' b') at h)

      module _ (d2 : D) (b2 : B) (k : Keeps (takes.contents d') (takes.contents d2)) (l : Keeps (sets.contents b') (sets.contents b2)) where
        written_all : Appends (takes.contents first.1) (takes.contents d2)
            ((job_of first.0.sieve).lines every.aside.quads)
        written_all = Appends-kept (takes.contents first.1) (takes.contents d') (takes.contents d2) _ every.aside.written k

        aside_all : Appends (sets.contents first.2) (sets.contents b2) every.aside.text
        aside_all = Appends-kept (sets.contents first.2) (sets.contents b') (sets.contents b2) _ every.aside.put_aside l

        -- a drain failed to send on what it has
        pub flush_halts : (takes.has_failed d2 ≡ true) ⊎ (sets.has_failed b2 ≡ true) → SkipHalts takes sets fault.Write first bytes true (new, d2, b2)
        flush_halts failed = (
          failed,
          record {
            ahead = i.ahead ++ split_lines old.part.items;
            later = [];
            lines = all_lines ∙ sym (append-nil (i.ahead ++ split_lines old.part.items));
            aside = subst (λ f. PutsAside AppendsFront (job_of first.0.sieve) f first_place (i.ahead ++ split_lines old.part.items)
                (takes.contents first.1) (takes.contents d2) (sets.contents first.2) (sets.contents b2)) i.begins.fresh
                (record {
                  kept = every.aside.kept;
                  bad = every.aside.bad;
                  quads = every.aside.quads;
                  sifts = every.aside.sifts;
                  written = whole_front (takes.contents first.1) (takes.contents d2) _ written_all;
                  text = every.aside.text;
                  aside = every.aside.aside;
                  put_aside = whole_front (sets.contents first.2) (sets.contents b2) _ aside_all;
                });
          },
        )

        -- All was read.
        pub skip_ends : old.sieve.output.lines.style ≡ Kept → takes.is_flushed d2 ≡ true → sets.is_flushed b2 ≡ true → new.bytes ≡ old.bytes →
            SkipEnds takes sets (record { quads = new.sieve.quads; bad_lines = new.sieve.bad_lines; bytes = new.bytes }) first bytes (new, d2, b2)
        skip_ends styled sent bad_sent n =
            let s = first.0.sieve in
            let style : s.output.lines.style ≡ Kept = sym (ap (λ o. o.lines.style) i.sifted.same.output) ∙ styled in
            let sifts = subst (λ ls. Sifts (job_of s).language true ls every.aside.kept every.aside.bad every.aside.quads) (sym all_lines)
            (subst (λ f. Sifts (job_of s).language f (i.ahead ++ split_lines old.part.items) every.aside.kept every.aside.bad
            every.aside.quads) i.begins.fresh every.aside.sifts) in
            let aside = subst (λ ls. IsAside (job_of s).language true first_place ls every.aside.text) (sym all_lines)
            (subst (λ f. IsAside (job_of s).language f first_place (i.ahead ++ split_lines old.part.items) every.aside.text) i.begins.fresh
            every.aside.aside) in
            let good = good_read s.form s.limits.token s.limits.iri bytes every.aside.kept every.aside.bad every.aside.quads i.few sifts in
            record {
              skips = record {
                aside = record {
                  kept = every.aside.kept;
                  bad = every.aside.bad;
                  quads = every.aside.quads;
                  sifts = sifts;
                  written = written_all;
                  text = every.aside.text;
                  aside = aside;
                  put_aside = aside_all;
                };
                converted = converted s.form s.limits.token s.limits.iri s.output style (concat every.aside.kept) every.aside.quads good
                    (takes.contents first.1) (takes.contents d2) written_all;
                quads = every.counts.quads_counted ∙ (let z = i.begins.no_quads in
                    let e : s.quads + length every.aside.quads ≡ length every.aside.quads = omega (arith, z) in ap counted_up e);
                bad_lines = every.counts.bad_counted ∙ (let z = i.begins.no_bad_lines in
                    let e : s.bad_lines + length every.aside.bad ≡ length every.aside.bad = omega (arith, z) in ap counted_up e);
                size = n ∙ i.count;
              };
              sent = sent;
              bad_sent = bad_sent;
            }

  -- All bytes of the source were read.
  pub skipped_all : (first now : Sifter A × D × B) (known : Option (List ℕ)) (left : Reading) (s : SkipSummary) →
      ReadsAll (SkipEnds takes sets) known left s first now →
      SkipsAll (job_of first.0.sieve) known (takes.contents first.1) (takes.contents now.1) (sets.contents first.2) (sets.contents now.2) s
  skipped_all first now known left s a =
      Consumes-whole known left.remaining a.bytes (λ bytes. Skips (job_of first.0.sieve) bytes (takes.contents first.1)
      (takes.contents now.1) (sets.contents first.2) (sets.contents now.2) s) a.consumed a.at_end a.is_end.skips

  -- what had been sifted when the source failed
  ended_lines : (first : Sifter A × D × B) (bytes : List ℕ) (old : Sifter A) (d : D) (b : B) → IsSkipping takes sets first bytes (old, d, b) →
      SkipsEnded (job_of first.0.sieve) bytes (takes.contents first.1) (takes.contents d) (sets.contents first.2) (sets.contents b)
  ended_lines first bytes old d b i = record {
    ahead = i.ahead;
    part = old.part.items;
    whole = i.whole;
    lines = all_lines first bytes old d b i;
    no_end = i.no_end;
    aside = from_first first bytes old d b i i.ahead (takes.contents first.1) (takes.contents d) (sets.contents first.2) (sets.contents b) i.sifted.aside;
  }

  -- Why the run stopped.
  pub skip_stopped : (f : StreamFault) (first now : Sifter A × D × B) (known : Option (List ℕ)) (left : Reading) →
      ReadStops (IsSkipping takes sets) (SkipHalts takes sets) f known left first now →
      SkipStops f (job_of first.0.sieve) known left (takes.contents first.1) (takes.contents now.1) (sets.contents first.2)
      (sets.contents now.2) (takes.has_failed now.1) (sets.has_failed now.2)
  skip_stopped f first now known left h = ⊎_elim (λ p. subst Stops (sym p.0) (broke p.1)) (λ p. halted f p.0 p.1) h
    where
      Stops : StreamFault → Type 0
      Stops f = SkipStops f (job_of first.0.sieve) known left (takes.contents first.1) (takes.contents now.1) (sets.contents first.2)
          (sets.contents now.2) (takes.has_failed now.1) (sets.has_failed now.2)

      broke : SourceFails (IsSkipping takes sets) known left first now → Stops fault.Read
      broke s = (
        s.is_taken.sifted.live,
        s.is_taken.sifted.bad_live,
        s.broken,
        record { bytes = s.bytes; consumed = s.consumed; ended = ended_lines first s.bytes now.0 now.1 now.2 s.is_taken },
      )

      halted : (f : StreamFault) (given : HasGiven known left) → SkipHalts takes sets f first given.bytes left.has_ended now → Stops f
      halted (fault.Refused f) given (live, bad, reason, many, some) = (live, bad, reason, given, many, some)
      halted fault.Read given h = absurd h
      halted fault.Write given (failed, some) = (failed, given, some)
      halted fault.Memory given (live, bad, some) = (live, bad, given, some)

-- no quads have no lines
no_lines : (k : Kind) (job : JobRead) → (conversion_by k job).lines [] ≡ []
no_lines (Line form) job = refl
no_lines (Tree form) job = refl

-- nothing was read
pub none_skips : (job : JobRead) (left : Reading) (old old_bad : Option (List ℕ)) (failed bad_failed : Bool) → left.has_ended ≡ false →
    left.has_failed ≡ false → failed ≡ false → bad_failed ≡ false →
    SkipStops fault.Memory (conversion_of job) left.remaining left old old old_bad old_bad failed bad_failed
none_skips job left old old_bad failed bad_failed o r f g = (
  f,
  g,
  none_given left o r,
  record {
    ahead = [];
    later = [];
    lines = refl;
    aside = record {
      kept = [];
      bad = [];
      quads = [];
      sifts = (refl, refl, refl);
      written = subst (Appends old old) (sym (no_lines (kind_of job.form) job)) (Appends-nil old);
      text = [];
      aside = refl;
      put_aside = Appends-nil old_bad;
    };
  },
)

-- what holds of the conversion of a sieve holds of the job that it was made for
pub by_job : {A : Type 0} (P : Conversion → Type 0) (job : JobRead) (form : LineForm) → kind_of job.form ≡ Line form → (s : Sieve A) →
    s.form ≡ form → s.limits ≡ job.limits → output_of s.output ≡ output Kept job →
    P (job_of s) → P (conversion_of job)
by_job P job form k s f l o h =
    lines_job P job form k s.limits.iri (ap (λ m. m.iri) l) s.limits.token (ap (λ m. m.token) l) (output_of s.output) o
    (subst (λ f. P (written_in (in_lines f s.limits.token s.limits.iri) (output_of s.output).form (output_of s.output).graph)) f h)

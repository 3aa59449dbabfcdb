-- Lines that are sifted, one after another.
use Rattle.rdf_stream.proofs.Prelude.{◌≡◌, ℕ, ◌+◌, ◌<◌, ◌≤◌, ◌==◌, cond, Bool, true, false, List, [], ◌∷◌, ◌++◌, inl, inr, Option, Some, IfSome, refl, sym, ap, ◌∙◌, subst, append_assoc, length, take, drop, arith, length-append, length-drop, length-take, Appends, concat, count_by, IsUtf8, chars, Appends-nil, Appends-trans, append-nil, take-append-drop, chars-encodes, encodes-chars, false≢true, false_from_ne_true, eqb-true, good, has_byte_order_mark, Summary, Quad, Reason, Language, Place, place_of, Fault, LineForm, in_lines, IsBadLine, IsGoodLine, Sifts, split_lines, StreamFault, Accepts, RefusesDocument, StopsFor, AppendsFront, Conversion, lines_of, written_in, of_quads, output_of, Counts, HasRoom, HasMarkBytes, HasNoMark, HasSifted, PutBadFails, PutGoodFails, PutsBad, PutsGood, PutsNone, SameSieve, SiftFails, first_after, job_of, place_past, start_of, IsRefusedFor, IsAside, IsBadFor, comment_text, counted_up, fault_from, place_after}
use Rattle.std.specs.Str.Lossy.{utf8_valid_len}
use Rattle.std.proofs.Math.Utf8.{encode, encodes}
use Rattle.rdf_tokens.proofs.GoodLemmas.{good_front}
use Rattle.rdf_tokens.proofs.RefusalPlaces as places
use Rattle.rdf_tokens.proofs.PlaceLemmas.{feeds-append}
use Rattle.rdf_tokens.proofs.PastGood.{good_past}
use Rattle.rdf_terms.specs.declared.reason.Reason.TheVariants.{DocumentTooLong}
use Rattle.rdf_tokens.specs.Grammars.{Refused}
use Rattle.rdf_tokens.specs.Laws.{IsPlaceIn}
use Rattle.rdf_tokens.specs.Tokens.Outcome.{complete, token_too_long}
use Rattle.rdf_lines.specs.NodePrefixes.{Form}
use Rattle.rdf_lines.proofs.AcceptedLemmas.{refused_none}
use Rattle.rdf_lines.proofs.SplitLemmas.{good_sifted, split_whole}
use Rattle.rdf_stream.specs.declared.devices.Drain as drain
use Rattle.rdf_stream.specs.declared.fault.StreamFault.TheVariants as fault
use Rattle.rdf_stream.specs.declared.sieve.LineStart.{LineStart}
use Rattle.rdf_stream.specs.declared.sieve.Sieve.{Sieve}
use Rattle.rdf_stream.specs.Devices.{Reading}
use Rattle.rdf_stream.specs.Graphs.{all_in_graph}
use Rattle.rdf_stream.proofs.ConvertingLemmas.{quad_lines}
use Rattle.rdf_stream.proofs.LineCuts.{some_lines}
use Rattle.rdf_stream.proofs.LineOutLemmas.{lines-append}

-- bytes that are not none are some
pub some_bytes : (w : List ℕ) → (length w == 0) ≡ false → 0 < length w
some_bytes [] e = absurd (let z : true ≡ false = e in cc)
some_bytes (c ∷ w) e = omega arith

-- counts that stop are added up
count_more : (a m n b c : ℕ) → counted_up m ≡ counted_up (a + b) → counted_up n ≡ counted_up (m + c) → counted_up n ≡ counted_up (a + (b + c))
count_more a m n b c h k = omega (arith, h, k)

-- what comes after other lines is not first
still : (xs : List (List ℕ)) → first_after false xs ≡ false
still [] = refl
still (x ∷ xs) = refl

-- lines are sifted, and then others
pub sifts_append : (l : Language) (first : Bool) (xs ys kept more bad others : List (List ℕ)) (qs rs : List Quad) →
    Sifts l first xs kept bad qs → Sifts l (first_after first xs) ys more others rs →
    Sifts l first (xs ++ ys) (kept ++ more) (bad ++ others) (qs ++ rs)
sifts_append l first [] ys kept more bad others qs rs s t =
    subst (λ k. Sifts l first ys (k ++ more) (bad ++ others) (qs ++ rs)) (sym s.0)
    (subst (λ b. Sifts l first ys more (b ++ others) (qs ++ rs)) (sym s.1) (subst (λ q. Sifts l first ys more others (q ++ rs)) (sym s.2) t))
sifts_append l first (x ∷ xs) ys kept more bad others qs rs (inl s) t =
    inl
    (record {
      kept_after = s.kept_after ++ more;
      quads = s.quads;
      quads_after = s.quads_after ++ rs;
      is_good = s.is_good;
      after = sifts_append l false xs ys s.kept_after more bad others s.quads_after rs s.after (subst (λ f. Sifts l f ys more others rs) (sym (still xs)) t);
      lines = ap (λ k. k ++ more) s.lines;
      all = ap (λ q. q ++ rs) s.all ∙ append_assoc s.quads s.quads_after rs;
    })
sifts_append l first (x ∷ xs) ys kept more bad others qs rs (inr s) t =
    inr
    (record {
      bad_after = s.bad_after ++ others;
      is_bad = s.is_bad;
      after = sifts_append l false xs ys kept more s.bad_after others qs rs s.after (subst (λ f. Sifts l f ys more others rs) (sym (still xs)) t);
      lines = ap (λ b. b ++ others) s.lines;
    })

-- what is put aside of lines, and then of others
pub aside_append : (l : Language) (first : Bool) (start : Place) (xs ys : List (List ℕ)) (t u : List ℕ) → IsAside l first start xs t →
    IsAside l (first_after first xs) (place_past start xs) ys u →
    IsAside l first start (xs ++ ys) (t ++ u)
aside_append l first start [] ys t u a b = subst (λ t. IsAside l first start ys (t ++ u)) (sym a) b
aside_append l first start (x ∷ xs) ys t u (inl a) b =
    inl (
      a.0,
      a.1,
      aside_append l false (place_after start x) xs ys t u a.2
          (subst (λ f. IsAside l f (place_past (place_after start x) xs) ys u) (sym (still xs)) b),
    )
aside_append l first start (x ∷ xs) ys t u (inr a) b =
    inr
    (record {
      fault = a.fault;
      is_bad = a.is_bad;
      text_after = a.text_after ++ u;
      after = aside_append l false (place_after start x) xs ys a.text_after u a.after
          (subst (λ f. IsAside l f (place_past (place_after start x) xs) ys u) (sym (still xs)) b);
      all = ap (λ t. t ++ u) a.all ∙ append_assoc (comment_text (fault_from start a.fault) ++ x) a.text_after u;
    })

-- of good lines nothing is
pub aside_good : (l : Language) (first : Bool) (start : Place) (xs kept bad : List (List ℕ)) (qs : List Quad) → bad ≡ [] →
    Sifts l first xs kept bad qs → IsAside l first start xs []
aside_good l first start [] kept bad qs e s = refl
aside_good l first start (x ∷ xs) kept bad qs e (inl s) =
    inl (s.quads, s.is_good, aside_good l false (place_after start x) xs s.kept_after bad s.quads_after e s.after)
aside_good l first start (x ∷ xs) kept bad qs e (inr s) = absurd (let z = ap length (sym e ∙ s.lines) in omega (arith, z))

-- of a bad one its fault and the line are
aside_bad : (l : Language) (first : Bool) (start : Place) (line : List ℕ) (f : Fault) → IsBadFor l first line f →
    IsAside l first start (line ∷ []) (comment_text (fault_from start f) ++ line)
aside_bad l first start line f h =
    inr (record { fault = f; is_bad = h; text_after = []; after = refl; all = sym (append-nil (comment_text (fault_from start f) ++ line)) })

-- some bytes and then a beginning of others
front_then : (a b c : Option (List ℕ)) (us vs : List ℕ) → Appends a b us → AppendsFront b c vs → AppendsFront a c (us ++ vs)
front_then a b c us vs p (f, r, w, t) = (us ++ f, r, ap (λ x. us ++ x) w ∙ sym (append_assoc us f r), Appends-trans a b c us f p t)

-- nothing is a beginning
no_front : (a : Option (List ℕ)) → AppendsFront a a []
no_front a = ([], [], refl, Appends-nil a)

-- all bytes are a beginning of themselves
pub whole_front : (a b : Option (List ℕ)) (us : List ℕ) → Appends a b us → AppendsFront a b us
whole_front a b us p = (us, [], sym (append-nil us), p)

-- a good line is sifted
one_good : (l : Language) (first : Bool) (line : List ℕ) (qs : List Quad) → IsGoodLine l first line qs → Sifts l first (line ∷ []) (line ∷ []) [] qs
one_good l first line qs g =
    inl (record { kept_after = []; quads = qs; quads_after = []; is_good = g; after = (refl, refl, refl); lines = refl; all = sym (append-nil qs) })

-- and so is a bad one
one_bad : (l : Language) (first : Bool) (line : List ℕ) → IsBadLine l first line → Sifts l first (line ∷ []) [] (line ∷ []) []
one_bad l first line h = inr (record { bad_after = []; is_bad = h; after = (refl, refl, refl); lines = refl })

-- the sieve converts by the same job
pub job_same : {A : Type 0} (old new : Sieve A) → SameSieve old new → job_of new ≡ job_of old
job_same old new s = at s.form s.limits s.output
  where
    at : new.form ≡ old.form → new.limits ≡ old.limits → new.output ≡ old.output → job_of new ≡ job_of old
    at a b c =
        ap (λ f. job_of (record new { form = f })) a
        ∙ (ap (λ m. job_of (record new { form = old.form; limits = m })) b
        ∙ ap (λ o. job_of (record new { form = old.form; limits = old.limits; output = o })) c)

-- it stays the same over two steps
same_both : {A : Type 0} (old mid new : Sieve A) → SameSieve old mid → SameSieve mid new → SameSieve old new
same_both old mid new p q = record { form = q.form ∙ p.form; limits = q.limits ∙ p.limits; output = q.output ∙ p.output }

-- and counts add up
counts_both : {A : Type 0} (old mid new : Sieve A) (q r b c : ℕ) → Counts old mid q b → Counts mid new r c → Counts old new (q + r) (b + c)
counts_both old mid new q r b c h k = record {
  quads_counted = count_more old.quads mid.quads new.quads q r h.quads_counted k.quads_counted;
  bad_counted = count_more old.bad_lines mid.bad_lines new.bad_lines b c h.bad_counted k.bad_counted;
}

module _ {A D B : Type 0} (takes : drain.Ghosts D) (sets : drain.Ghosts B) where
  -- no line was sifted
  pub sifted_none : (start : Place) (s : Sieve A) (d : D) (b : B) → takes.has_failed d ≡ false → sets.has_failed b ≡ false →
      HasSifted takes sets start s d b [] s d b
  sifted_none start s d b l m = record {
    aside = record {
      kept = [];
      bad = [];
      quads = [];
      sifts = (refl, refl, refl);
      written = Appends-nil (takes.contents d);
      text = [];
      aside = refl;
      put_aside = Appends-nil (sets.contents b);
    };
    counts = record { quads_counted = omega arith; bad_counted = omega arith };
    first = refl;
    same = record { form = refl; limits = refl; output = refl };
    live = l;
    bad_live = m;
  }

  -- a good line was put
  pub line_good : (start : Place) (old new : Sieve A) (d d' : D) (b : B) (line : List ℕ) → sets.has_failed b ≡ false →
      PutsGood takes old d line new d' → HasSifted takes sets start old d b (line ∷ []) new d' b
  line_good start old new d d' b line m g = record {
    aside = record {
      kept = line ∷ [];
      bad = [];
      quads = g.quads;
      sifts = one_good (job_of old).language old.is_first line g.quads g.is_good;
      written = g.written;
      text = [];
      aside = inl (g.quads, g.is_good, refl);
      put_aside = Appends-nil (sets.contents b);
    };
    counts = g.counts;
    first = g.first;
    same = g.same;
    live = g.live;
    bad_live = m;
  }

  -- good lines were put at once
  pub block_good : (start : Place) (old new : Sieve A) (d d' : D) (b : B) (block : List ℕ) → 0 < length block → sets.has_failed b ≡ false →
      PutsGood takes old d block new d' → HasSifted takes sets start old d b (split_lines block) new d' b
  block_good start old new d d' b [] n m g = absurd (omega (arith, n))
  block_good start old new d d' b (c ∷ w) n m g = record {
    aside = record {
      kept = split_lines (c ∷ w);
      bad = [];
      quads = g.quads;
      sifts = good_sifted old.form old.limits.token old.limits.iri old.is_first (c ∷ w) g.quads g.is_good;
      written = g.written;
      text = [];
      aside = aside_good (job_of old).language old.is_first start (split_lines (c ∷ w)) (split_lines (c ∷ w)) [] g.quads refl
          (good_sifted old.form old.limits.token old.limits.iri old.is_first (c ∷ w) g.quads g.is_good);
      put_aside = Appends-nil (sets.contents b);
    };
    counts = g.counts;
    first = let s = some_lines c w in g.first ∙ sym (ap (first_after old.is_first) s.2);
    same = g.same;
    live = g.live;
    bad_live = m;
  }

  -- where there are no bytes, no line is sifted
  pub empty_sifted : (start : Place) (old : Sieve A) (d : D) (b : B) (block : List ℕ) → length block ≡ 0 → takes.has_failed d ≡ false →
      sets.has_failed b ≡ false → HasSifted takes sets start old d b (split_lines block) old d b
  empty_sifted start old d b [] e live bad = sifted_none start old d b live bad
  empty_sifted start old d b (c ∷ w) e live bad = absurd (let z : length (c ∷ w) ≡ 0 = e in omega arith)

  -- a bad line was put aside
  pub line_bad : (start : Place) (f : Fault) (old mid new : Sieve A) (d d' : D) (b b' : B) (line : List ℕ) → takes.has_failed d ≡ false →
      PutsNone old d line f mid d' → PutsBad sets mid b (fault_from start f) line new b' →
      HasSifted takes sets start old d b (line ∷ []) new d' b'
  line_bad start f old mid new d d' b b' line l none bad =
      let p : PutsBad sets old b (fault_from start f) line new b' = subst (λ s. PutsBad sets s b (fault_from start f) line new b') none.sieve bad in
      subst (λ x. HasSifted takes sets start old d b (line ∷ []) new x b') (sym none.drain)
      (record {
        aside = record {
          kept = [];
          bad = line ∷ [];
          quads = [];
          sifts = one_bad (job_of old).language old.is_first line none.why.is_bad;
          written = Appends-nil (takes.contents d);
          text = comment_text (fault_from start f) ++ line;
          aside = aside_bad (job_of old).language old.is_first start line f none.why.why;
          put_aside = p.put;
        };
        counts = p.counts;
        first = p.first;
        same = p.same;
        live = l;
        bad_live = p.live;
      })

  -- why a good line was not put
  pub good_fails : (start : Place) (lines : List (List ℕ)) (f : StreamFault) (old new : Sieve A) (d d' : D) (b : B) (bytes : List ℕ) →
      takes.has_failed d ≡ false → sets.has_failed b ≡ false →
      ((qs : List Quad) → IsGoodLine (job_of old).language old.is_first bytes qs → Sifts (job_of old).language old.is_first lines lines [] qs) →
      PutGoodFails takes f old d bytes new d' → SiftFails takes sets f start old d b lines new d' b
  good_fails start lines fault.Write old new d d' b bytes l m s h = (
    inl h.0,
    lines,
    [],
    sym (append-nil lines),
    record {
      kept = lines;
      bad = [];
      quads = h.1;
      sifts = s h.1 h.2;
      written = h.3;
      text = [];
      aside = aside_good
          (job_of old).language old.is_first start lines lines [] h.1 refl (s h.1 h.2);
      put_aside = no_front (sets.contents b);
    },
  )
  good_fails start lines fault.Memory old new d d' b bytes l m s h = (
    [],
    lines,
    refl,
    subst (λ x. HasSifted takes sets start old d b [] new x b) (sym h.1)
        (subst (λ x. HasSifted takes sets start old d b [] x d b) (sym h.0) (sifted_none start old d b l m)),
  )
  good_fails start lines (fault.Refused f) old new d d' b bytes l m s h = absurd h
  good_fails start lines fault.Read old new d d' b bytes l m s h = absurd h

  -- a line
  pub line_fails : (start : Place) (f : StreamFault) (old new : Sieve A) (d d' : D) (b : B) (line : List ℕ) → takes.has_failed d ≡ false →
      sets.has_failed b ≡ false →
      PutGoodFails takes f old d line new d' → SiftFails takes sets f start old d b (line ∷ []) new d' b
  line_fails start f old new d d' b line l m h =
      good_fails start (line ∷ []) f old new d d' b line l m (λ qs g. one_good (job_of old).language old.is_first line qs g) h

  -- or a block
  pub block_fails : (start : Place) (f : StreamFault) (old new : Sieve A) (d d' : D) (b : B) (block : List ℕ) → takes.has_failed d ≡ false →
      sets.has_failed b ≡ false →
      PutGoodFails takes f old d block new d' → SiftFails takes sets f start old d b (split_lines block) new d' b
  block_fails start f old new d d' b block l m h =
      good_fails start (split_lines block) f old new d d' b block l m (λ qs g. good_sifted old.form old.limits.token old.limits.iri old.is_first block qs g) h

  -- why a bad line was not put aside
  pub bad_fails : (start : Place) (f : StreamFault) (why : Fault) (old mid new : Sieve A) (d d' : D) (b b' : B) (line : List ℕ) →
      takes.has_failed d ≡ false → sets.has_failed b ≡ false →
      PutsNone old d line why mid d' → PutBadFails sets f mid b (fault_from start why) line new b' → SiftFails takes sets f start old d b (line ∷ []) new d' b'
  bad_fails start fault.Write why old mid new d d' b b' line l m none h = (
    inr h.0,
    line ∷ [],
    [],
    refl,
    record {
      kept = [];
      bad = line ∷ [];
      quads = [];
      sifts = one_bad (job_of old).language old.is_first line none.why.is_bad;
      written = subst (λ x. AppendsFront (takes.contents d) (takes.contents x) []) (sym none.drain) (no_front (takes.contents d));
      text = comment_text (fault_from start why) ++ line;
      aside = aside_bad (job_of old).language old.is_first start line why none.why.why;
      put_aside = h.1;
    },
  )
  bad_fails start fault.Memory why old mid new d d' b b' line l m none h = (
    [],
    line ∷ [],
    refl,
    subst (λ x. HasSifted takes sets start old d b [] new d' x) (sym h.1)
        (subst (λ x. HasSifted takes sets start old d b [] new x b) (sym none.drain)
        (subst (λ x. HasSifted takes sets start old d b [] x d b) (sym (h.0 ∙ none.sieve)) (sifted_none start old d b l m))),
  )
  bad_fails start (fault.Refused f) why old mid new d d' b b' line l m none h = absurd h
  bad_fails start fault.Read why old mid new d d' b b' line l m none h = absurd h

  -- what is sifted after other lines, by the job and from the place before them
  moved : (old mid : Sieve A) (xs ys kept bad : List (List ℕ)) (qs : List Quad) → SameSieve old mid →
      mid.is_first ≡ first_after old.is_first xs → Sifts (job_of mid).language mid.is_first ys kept bad qs →
      Sifts (job_of old).language (first_after old.is_first xs) ys kept bad qs
  moved old mid xs ys kept bad qs s f h =
      subst (λ x. Sifts (job_of old).language x ys kept bad qs) f
      (subst (λ (j : Conversion). Sifts j.language mid.is_first ys kept bad qs) (job_same old mid s) h)

  -- and what is put aside of them
  moved_aside : (start : Place) (old mid : Sieve A) (xs ys : List (List ℕ)) (t : List ℕ) → SameSieve old mid →
      mid.is_first ≡ first_after old.is_first xs → IsAside (job_of mid).language mid.is_first (place_past start xs) ys t →
      IsAside (job_of old).language (first_after old.is_first xs) (place_past start xs) ys t
  moved_aside start old mid xs ys t s f h =
      subst (λ x. IsAside (job_of old).language x (place_past start xs) ys t) f
      (subst (λ (j : Conversion). IsAside j.language mid.is_first (place_past start xs) ys t) (job_same old mid s) h)

  -- Lines were sifted, and then others.
  pub sifted_then : (start : Place) (old mid new : Sieve A) (d dm d' : D) (b bm b' : B) (xs ys : List (List ℕ)) →
      HasSifted takes sets start old d b xs mid dm bm → HasSifted takes sets (place_past start xs) mid dm bm ys new d' b' →
      HasSifted takes sets start old d b (xs ++ ys) new d' b'
  sifted_then start old mid new d dm d' b bm b' xs ys p q =
      let lines : (job_of mid).lines q.aside.quads ≡ (job_of old).lines q.aside.quads =
      ap (λ (j : Conversion). j.lines q.aside.quads) (job_same old mid p.same) in
      record {
        aside = record {
          kept = p.aside.kept ++ q.aside.kept;
          bad = p.aside.bad ++ q.aside.bad;
          quads = p.aside.quads ++ q.aside.quads;
          sifts = sifts_append (job_of old).language old.is_first xs ys p.aside.kept q.aside.kept p.aside.bad q.aside.bad p.aside.quads
              q.aside.quads p.aside.sifts
              (moved old mid xs ys q.aside.kept q.aside.bad q.aside.quads p.same p.first q.aside.sifts);
          written = subst (Appends (takes.contents d) (takes.contents d'))
              (sym (lines-append of_quads quad_lines (output_of old.output) p.aside.quads q.aside.quads))
              (Appends-trans (takes.contents d) (takes.contents dm) (takes.contents d') _ _ p.aside.written
              (subst (Appends (takes.contents dm) (takes.contents d')) lines q.aside.written));
          text = p.aside.text ++ q.aside.text;
          aside = aside_append (job_of old).language old.is_first start xs ys p.aside.text q.aside.text p.aside.aside
              (moved_aside start old mid xs ys q.aside.text p.same p.first q.aside.aside);
          put_aside = Appends-trans (sets.contents b) (sets.contents bm) (sets.contents b') p.aside.text q.aside.text p.aside.put_aside q.aside.put_aside;
        };
        counts = let c = counts_both old mid new _ _ _ _ p.counts q.counts in record {
          quads_counted = c.quads_counted ∙ ap (λ n. counted_up (old.quads + n)) (sym (length-append p.aside.quads q.aside.quads));
          bad_counted = c.bad_counted ∙ ap (λ n. counted_up (old.bad_lines + n)) (sym (length-append p.aside.bad q.aside.bad));
        };
        first = first xs ys (q.first ∙ ap (λ f. first_after f ys) p.first);
        same = same_both old mid new p.same q.same;
        live = q.live;
        bad_live = q.bad_live;
      }
    where
      first : (xs ys : List (List ℕ)) → new.is_first ≡ first_after (first_after old.is_first xs) ys → new.is_first ≡ first_after old.is_first (xs ++ ys)
      first [] ys e = e
      first (x ∷ xs) ys e = e ∙ still ys

  -- Lines were sifted, and not all of others.
  pub fails_then : (start : Place) (f : StreamFault) (old mid new : Sieve A) (d dm d' : D) (b bm b' : B) (xs ys : List (List ℕ)) →
      HasSifted takes sets start old d b xs mid dm bm → SiftFails takes sets f (place_past start xs) mid dm bm ys new d' b' →
      SiftFails takes sets f start old d b (xs ++ ys) new d' b'
  fails_then start fault.Write old mid new d dm d' b bm b' xs ys p (failed, ahead, later, split, q) =
      let lines : (job_of mid).lines q.quads ≡ (job_of old).lines q.quads =
      ap (λ (j : Conversion). j.lines q.quads) (job_same old mid p.same) in (
        failed,
        xs ++ ahead,
        later,
        ap (λ z. xs ++ z) split ∙ sym (append_assoc xs ahead later),
        record {
          kept = p.aside.kept ++ q.kept;
          bad = p.aside.bad ++ q.bad;
          quads = p.aside.quads ++ q.quads;
          sifts = sifts_append (job_of old).language old.is_first xs ahead p.aside.kept q.kept p.aside.bad q.bad p.aside.quads q.quads p.aside.sifts
              (moved old mid xs ahead q.kept q.bad q.quads p.same p.first q.sifts);
          written = subst (AppendsFront (takes.contents d) (takes.contents d'))
              (sym (lines-append of_quads quad_lines (output_of old.output) p.aside.quads q.quads))
              (front_then (takes.contents d) (takes.contents dm) (takes.contents d') _ _ p.aside.written
              (subst (AppendsFront (takes.contents dm) (takes.contents d')) lines q.written));
          text = p.aside.text ++ q.text;
          aside = aside_append (job_of old).language old.is_first start xs ahead p.aside.text q.text p.aside.aside
              (moved_aside start old mid xs ahead q.text p.same p.first q.aside);
          put_aside = front_then (sets.contents b) (sets.contents bm) (sets.contents b') p.aside.text q.text p.aside.put_aside q.put_aside;
        },
      )
  fails_then start fault.Memory old mid new d dm d' b bm b' xs ys p (ahead, later, split, q) =
      (xs ++ ahead, later, ap (λ z. xs ++ z) split ∙ sym (append_assoc xs ahead later), sifted_then start old mid new d dm d' b bm b' xs ahead p q)
  fails_then start (fault.Refused f) old mid new d dm d' b bm b' xs ys p h = absurd h
  fails_then start fault.Read old mid new d dm d' b bm b' xs ys p h = absurd h

-- What is refused is no good line.
pub refused_bad : (job : Conversion) (form : LineForm) (limit iri : ℕ) → job.language ≡ in_lines form limit iri →
    (first : Bool) (bytes : List ℕ) (why : Reason) (at : Place) (old new : Option (List ℕ)) →
    RefusesDocument why job bytes true at old new → IsBadLine (in_lines form limit iri) first bytes
refused_bad job form limit iri same first bytes DocumentTooLong at old new h qs g = let a = h.0.0 in let b = g.accepted.within.size in omega (arith, a, b)
refused_bad job form limit iri same first bytes why at old new h qs g =
    refused_none form limit iri bytes qs why at (subst (λ (l : Language). Refused l bytes true why at) same (h.0, h.1)) g.accepted.document g.accepted.within

-- and it is bad for that reason
pub refused_for : (job : Conversion) (form : LineForm) (limit iri : ℕ) → job.language ≡ in_lines form limit iri →
    (first : Bool) (bytes : List ℕ) (f : Fault) (old new : Option (List ℕ)) → (first ≡ false → HasNoMark bytes) →
    RefusesDocument f.reason job bytes true (place_of f) old new → IsBadFor (in_lines form limit iri) first bytes f × IsRefusedFor f.reason
    (in_lines form limit iri) bytes true (place_of f)
refused_for job form limit iri same first bytes f old new n h = let r =
    subst (λ (l : Language). IsRefusedFor f.reason l bytes true (place_of f)) same (by f.reason h) in (inr (n, r), r)
  where
    by : (r : Reason) → RefusesDocument r job bytes true (place_of f) old new → IsRefusedFor r job.language bytes true (place_of f)
    by DocumentTooLong h = (h.0, h.1)
    by r h = (h.0, h.1)

-- A refusal has its place in the bytes.
pub refused_place : (l : Language) (bytes : List ℕ) (why : Reason) (at : Place) → IsRefusedFor why l bytes true at → IsPlaceIn bytes at
refused_place l bytes why at h = by why h
  where
    by : (why : Reason) → IsRefusedFor why l bytes true at → IsPlaceIn bytes at
    by DocumentTooLong x = places.too_long_place bytes at x.0
    by why x = places.refused_place l bytes true why at x

-- What is converted is a good line.
pub converted_good : (form : LineForm) (limit iri : ℕ) (f : Form) (g : Option (List ℕ)) (first : Bool) (bytes old new : List ℕ)
    (s : Summary) → old ≡ [] → (first ≡ false → HasNoMark bytes) →
    Accepts (written_in (in_lines form limit iri) f g) bytes (Some old) (Some new) s →
    (quads : List Quad) × IsGoodLine (in_lines form limit iri) first bytes quads × (new ≡ lines_of f (all_in_graph g quads)) × (s.quads ≡ length quads)
converted_good form limit iri f g first bytes old new s none mark a = (
  a.items,
  record {
    accepted = record {
      document = a.document;
      within = record {
        tokens = λ v x. let z : complete ≡ token_too_long = sym a.within.ends ∙ x in cc;
        limits = a.within.front.kept;
        size = a.size;
      };
    };
    marked = mark;
  },
  a.written ∙ ap (λ x. x ++ lines_of f (all_in_graph g a.items)) none,
  a.counts.quads,
)

-- what is known of an option's value
pub known : {X : Type 0} (P : X → Type 0) (o : Option X) (x : X) → o ≡ Some x → IfSome o P → P x
known P o x e h = let y : IfSome (Some x) P = subst (λ o. IfSome o P) e h in y

-- bytes that begin with a mark have one
pub mark_had : (bytes : List ℕ) → HasMarkBytes bytes → has_byte_order_mark (good bytes) ≡ true
unfolding encode
mark_had bytes (rest, e) =
    let one : chars (encodes (0xFEFF ∷ [])) ≡ 0xFEFF ∷ [] = chars-encodes (0xFEFF ∷ []) refl in
    let utf8 : IsUtf8 (encodes (0xFEFF ∷ [])) = (0xFEFF ∷ [], (refl, refl)) in
    ap (λ b. has_byte_order_mark (good b)) e
    ∙ (ap has_byte_order_mark (good_past (encodes (0xFEFF ∷ [])) rest utf8) ∙ ap (λ w. has_byte_order_mark (w ++ good rest)) one)

-- a mark's bytes stand in front of bytes that have one
pub mark_stands : (bytes : List ℕ) → has_byte_order_mark (good bytes) ≡ true → HasMarkBytes bytes
unfolding encode
mark_stands bytes h =
    let m = first (good bytes) h in
    let n = utf8_valid_len bytes in
    let front : encodes (0xFEFF ∷ m.0) ≡ take n bytes = sym (ap encodes m.1) ∙ encodes-chars (take n bytes) (good_front bytes) in
    (encodes m.0 ++ drop n bytes, sym (take-append-drop n bytes) ∙ ap (λ x. x ++ drop n bytes) (sym front))
  where
    first : (w : List ℕ) → has_byte_order_mark w ≡ true → (v : List ℕ) × (w ≡ 0xFEFF ∷ v)
    first [] e = absurd (let z : false ≡ true = e in cc)
    first (c ∷ w) e = (w, ap (λ d. d ∷ w) (eqb-true c 0xFEFF e))

-- so bytes that do not begin so have none
pub no_mark : (bytes : List ℕ) → (HasMarkBytes bytes → ⊥) → HasNoMark bytes
no_mark bytes n = false_from_ne_true (has_byte_order_mark (good bytes)) (λ h. n (mark_stands bytes h))

-- and a line that is not the first and begins so is bad
pub mark_bad : (l : Language) (first : Bool) (bytes : List ℕ) → first ≡ false → HasMarkBytes bytes → IsBadLine l first bytes
mark_bad l first bytes f h qs g = false≢true (sym (g.marked f) ∙ mark_had bytes h)

-- how many line feeds there are
abbrev pub feeds : List ℕ → ℕ
feeds w = count_by (λ b. b == 10) w

-- a byte is one or none
feed_one : (b : ℕ) → feeds (b ∷ []) ≡ cond (b == 10) 1 0
feed_one b = one (cond (b == 10) 1 0)
  where
    one : (n : ℕ) → 0 + n ≡ n
    one n = omega arith

-- those of a byte and of the others
pub feeds_cons : (b : ℕ) (w : List ℕ) → feeds (b ∷ w) ≡ cond (b == 10) 1 0 + feeds w
feeds_cons b w = feeds-append (b ∷ []) w ∙ ap (λ n. n + feeds w) (feed_one b)

-- there are no more than bytes
pub few_feeds : (w : List ℕ) → feeds w ≤ length w
few_feeds [] = omega arith
few_feeds (b ∷ w) = let h = few_feeds w in let e = feeds_cons b w in let c = one (b == 10) in omega (arith, h, e, c)
  where
    one : (t : Bool) → cond t 1 0 ≤ 1
    one true = omega arith
    one false = omega arith

-- lines are sifted in part, and others come after them
pub fails_more : {A D B : Type 0} (takes : drain.Ghosts D) (sets : drain.Ghosts B) (start : Place) (f : StreamFault) (old new : Sieve A)
    (d d' : D) (b b' : B) (xs ys : List (List ℕ)) →
    SiftFails takes sets f start old d b xs new d' b' → SiftFails takes sets f start old d b (xs ++ ys) new d' b'
fails_more takes sets start fault.Write old new d d' b b' xs ys (failed, ahead, later, split, q) =
    (failed, ahead, later ++ ys, ap (λ z. z ++ ys) split ∙ append_assoc ahead later ys, q)
fails_more takes sets start fault.Memory old new d d' b b' xs ys (ahead, later, split, q) =
    (ahead, later ++ ys, ap (λ z. z ++ ys) split ∙ append_assoc ahead later ys, q)
fails_more takes sets start (fault.Refused f) old new d d' b b' xs ys h = absurd h
fails_more takes sets start fault.Read old new d d' b b' xs ys h = absurd h

-- what a refusal tells of the bytes of a source
pub refusal : (r : StreamFault) (f : Fault) → r ≡ fault.Refused f → (job : Conversion) (o : Option (List ℕ)) (left : Reading)
    (old new : Option (List ℕ)) (failed : Bool) → StopsFor r job o left old new failed →
    IfSome o (λ bytes. RefusesDocument f.reason job bytes true (place_of f) old new)
refusal r f e job o left old new failed h = let x : StopsFor (fault.Refused f) job o left old new failed =
    subst (λ r. StopsFor r job o left old new failed) e h in x.1

-- places are equal where their numbers are
pub place_same : (p q : Place) → p.offset ≡ q.offset → p.line ≡ q.line → p ≡ q
place_same p q a b =
    let z : (let x : Place = record { offset = p.offset; line = p.line } in x) ≡ record { offset = q.offset; line = q.line } = cc in z

-- the place after some bytes and others
after_append : (p : Place) (v w : List ℕ) → place_after p (v ++ w) ≡ place_after (place_after p v) w
after_append p v w =
    place_same (place_after p (v ++ w)) (place_after (place_after p v) w) (let l = length-append v w in omega (arith, l))
    (let l : feeds (v ++ w) ≡ feeds v + feeds w = feeds-append v w in omega (arith, l))

-- the place after some lines is that after their bytes
pub past_concat : (p : Place) (xs : List (List ℕ)) → place_past p xs ≡ place_after p (concat xs)
past_concat p [] = place_same p (place_after p []) (omega arith) (omega arith)
past_concat p (x ∷ xs) = past_concat (place_after p x) xs ∙ sym (after_append p x (concat xs))

-- and so is that after more of them
pub past_more : (p : Place) (xs : List (List ℕ)) (x : List ℕ) → place_past p (xs ++ x ∷ []) ≡ place_after (place_past p xs) x
past_more p [] x = refl
past_more p (y ∷ xs) x = past_more (place_after p y) xs x

-- and that after the lines of some bytes more
pub past_lines : (p : Place) (xs : List (List ℕ)) (w : List ℕ) → place_past p (xs ++ split_lines w) ≡ place_after (place_past p xs) w
past_lines p [] w = past_concat p (split_lines w) ∙ ap (place_after p) (split_whole w)
past_lines p (y ∷ xs) w = past_lines (place_after p y) xs w

-- a fault of a line fits behind the place where the line begins
pub fault_fits : (w : List ℕ) (f : Fault) → IsPlaceIn w (place_of f) → (f.offset ≤ length w) × (f.line ≤ f.offset + 1) × (0 < f.line)
fault_fits w f p =
    let n : f.offset ≤ length w = p.within in
    let l : f.line ≡ 1 + feeds (take f.offset w) = p.line in
    let k = few_feeds (take f.offset w) in
    let t = length-take f.offset w in (n, omega (arith, l, k, t), omega (arith, l))

-- the front of some bytes fits where they fit, and behind it the rest does
pub room_left : (at : LineStart) (w : List ℕ) (n : ℕ) → HasRoom at w →
    HasRoom at (take n w) × ((next : LineStart) → start_of next ≡ place_after (start_of at) (take n w) → HasRoom next (drop n w))
room_left at w n room =
    let few = room.few in
    let lines = room.lines in
    let t = length-take n w in
    let d = length-drop n w in
    let k = few_feeds (take n w) in (
      record { few = omega (arith, few, t); lines = lines },
      λ next e.
          let o : next.offset ≡ at.offset + length (take n w) = ap (λ (p : Place). p.offset) e in
          let l : next.line ≡ at.line + feeds (take n w) = ap (λ (p : Place). p.line) e in
          record { few = omega (arith, few, t, d, o); lines = omega (arith, lines, k, o, l) },
    )

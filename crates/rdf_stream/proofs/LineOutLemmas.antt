-- What a sink of lines has handed over after some puts, and what waits.
use Rattle.rdf_stream.proofs.Prelude.{◌≡◌, ℕ, Bool, true, false, List, [], ◌∷◌, ◌++◌, Option, refl, sym, ap, subst, ◌∙◌, append_assoc, ⊎_elim, inr, append-nil, Appends-nil, Appends-trans, Appends, AllByRecursion, Quad, IsQuad, Style, Writable, AppendsFront, IsSentOn, Leaves, LeavesBytes, Moves, PutHalts, SameOut, Writes, StreamFault, LineOut, OutputView, Able, Output, Writer, graph_of, line_by, of_quads, output_of}
use Rattle.rdf_terms.specs.Sinks as sink
use Rattle.rdf_terms.specs.Sinks.{Attempts}
use Rattle.rdf_lines.specs.Forms.{form_of}
use Rattle.rdf_stream.specs.LineOut.{Takes, TakesBytes}
use Rattle.rdf_stream.specs.declared.fault.StreamFault.TheVariants as stream
use Rattle.rdf_stream.proofs.WellFormedLemmas.{untruncated_quad}

-- nothing was taken
pub waits : (known : Option (List ℕ)) (bytes rest : List ℕ) → rest ≡ bytes → Moves known known bytes rest
waits known bytes rest e = record { front = []; whole = sym e; taken = Appends-nil known }

-- bytes that only wait were not taken
pub waits_same : (known : Option (List ℕ)) (bytes rest : List ℕ) → rest ≡ bytes → Moves known known (bytes ++ []) rest
waits_same known bytes rest e = waits known (bytes ++ []) rest (e ∙ sym (append-nil bytes))

-- a front was taken, and then one of what was left of it and of more bytes
pub moves_on : (a b c : Option (List ℕ)) (bytes more rest last : List ℕ) → Moves a b bytes rest → Moves b c (rest ++ more) last → Moves a c (bytes ++ more) last
moves_on a b c bytes more rest last m n = record {
  front = m.front ++ n.front;
  whole = ap (λ l. l ++ more) m.whole ∙ (append_assoc m.front rest more ∙ (ap (λ l. m.front ++ l) n.whole ∙ sym (append_assoc m.front n.front last)));
  taken = Appends-trans a b c m.front n.front m.taken n.taken;
}

-- what is moved of some bytes is moved of more
pub moves_more : (a b : Option (List ℕ)) (bytes more rest : List ℕ) → Moves a b bytes rest → Moves a b (bytes ++ more) (rest ++ more)
moves_more a b bytes more rest m = record { front = m.front; whole = ap (λ l. l ++ more) m.whole ∙ append_assoc m.front rest more; taken = m.taken }

-- a drain that took a front of the bytes has grown by a beginning of them
pub moves_front : (a b : Option (List ℕ)) (bytes rest : List ℕ) → Moves a b bytes rest → AppendsFront a b bytes
moves_front a b bytes rest m = (m.front, rest, m.whole, m.taken)

-- a drain that has grown by a beginning of the bytes took a front of them
pub front_moves : (a b : Option (List ℕ)) (bytes : List ℕ) → AppendsFront a b bytes → (rest : List ℕ) × Moves a b bytes rest
front_moves a b bytes f = (f.1, record { front = f.0; whole = f.2; taken = f.3 })

-- all of the bytes were taken
pub moves_all : (a b c : Option (List ℕ)) (bytes rest : List ℕ) → Moves a b bytes rest → Appends b c rest → Appends a c bytes
moves_all a b c bytes rest m t = subst (Appends a c) (sym m.whole) (Appends-trans a b c m.front rest m.taken t)

-- what a way of writing items promises
pub record IsWriter {I : Type 0} (how : Writer I) : Type 0 where
  pub none : (o : Output) → how.lines o [] ≡ []
  pub more : (o : Output) (i : I) (is : List I) → how.lines o (i ∷ is) ≡ how.line o i ++ how.lines o is
  -- what is known of the lines of items that can be written
  pub told : (f : OutputView) (is : List I) → Able how f.lines.style is → how.known (output_of f) is

-- the lines of two lists are those of the first and then the second
pub lines-append : {I : Type 0} (how : Writer I) → IsWriter how → (o : Output) (is js : List I) → how.lines o (is ++ js) ≡ how.lines o is ++ how.lines o js
lines-append how laws o [] js = ap (λ l. l ++ how.lines o js) (sym (laws.none o))
lines-append how laws o (i ∷ is) js =
    laws.more o i (is ++ js) ∙ (ap (λ l. how.line o i ++ l) (lines-append how laws o is js)
    ∙ (sym (append_assoc (how.line o i) (how.lines o is) (how.lines o js)) ∙ ap (λ l. l ++ how.lines o js) (sym (laws.more o i is))))

-- the form and the place of the bytes stay the same over two steps
pub same_out : {D A : Type 0} (a b c : LineOut D A) → SameOut a b → SameOut b c → SameOut a c
same_out a b c p q = record { form = q.form ∙ p.form; buffer = q.buffer ∙ p.buffer; drain = q.drain ∙ p.drain }

-- bytes that were appended to what waits, and what was then handed over
pub rewritten_writes : {D A : Type 0} (contents : D → Option (List ℕ)) (old mid new : LineOut D A) (w : List ℕ) →
    mid.drain.now ≡ old.drain.now → mid.buffer.now ≡ old.buffer.now ++ w →
    Writes contents mid [] new → Writes contents old w new
rewritten_writes contents old mid new w d e h =
    subst (λ x. Moves (contents x) (contents new.drain.now) (old.buffer.now ++ w) new.buffer.now) d
    (subst (λ b. Moves (contents mid.drain.now) (contents new.drain.now) b new.buffer.now) (append-nil mid.buffer.now ∙ e) h)

-- and all of it still waits
pub rewritten_waits : {D A : Type 0} (contents : D → Option (List ℕ)) (old mid : LineOut D A) (w : List ℕ) → mid.drain.now ≡ old.drain.now →
    mid.buffer.now ≡ old.buffer.now ++ w → Writes contents old w mid
rewritten_waits contents old mid w d e = rewritten_writes contents old mid mid w d e (waits_same (contents mid.drain.now) mid.buffer.now mid.buffer.now refl)

module _ {D A : Type 0} (contents : D → Option (List ℕ)) where
  -- some bytes were written, and then others
  pub writes_on : (a b c : LineOut D A) (bs cs : List ℕ) → Writes contents a bs b → Writes contents b cs c → Writes contents a (bs ++ cs) c
  writes_on a b c bs cs p q =
      subst (λ l. Moves (contents a.drain.now) (contents c.drain.now) l c.buffer.now) (append_assoc a.buffer.now bs cs)
      (moves_on (contents a.drain.now) (contents b.drain.now) (contents c.drain.now) (a.buffer.now ++ bs) cs b.buffer.now c.buffer.now p q)

module _ {D A I : Type 0} (how : Writer I) (laws : IsWriter how) (contents : D → Option (List ℕ)) (failed : D → Bool) where
  abbrev Puts : LineOut D A → List I → LineOut D A → Type 0
  Puts a is b = sink.Appends (Takes how contents failed) a is b

  abbrev Tries : LineOut D A → List I → LineOut D A → Type 0
  Tries a is b = Attempts (Takes how contents failed) (Leaves how contents failed) a is b

  -- the bytes of their lines in the sink's form
  abbrev lines : LineOut D A → List I → List ℕ
  lines a is = how.lines (output_of a.form) is

  -- no line was written
  none_written : (a : LineOut D A) → Writes contents a (lines a []) a
  none_written a = subst (λ l. Writes contents a l a) (sym (laws.none (output_of a.form))) (waits_same (contents a.drain.now) a.buffer.now a.buffer.now refl)

  -- puts of items that the style can write
  pub record Taken (a : LineOut D A) (is : List I) (b : LineOut D A) : Type 0 where
    pub same : SameOut a b
    pub able : Able how a.form.lines.style is
    pub writes : Writes contents a (lines a is) b
    pub live : failed a.drain.now ≡ false → failed b.drain.now ≡ false

  -- the lines of items that were put are in the buffer or the drain, one after another
  pub taken : (is : List I) (a b : LineOut D A) → Puts a is b → AllByRecursion (how.can a.form.lines.style) is → Taken a is b
  taken [] a b h w =
      subst (Taken a []) (sym h) (record { same = record { form = refl; buffer = refl; drain = refl }; able = tt; writes = none_written a; live = λ l. l })
  taken (i ∷ is) a b h w =
      let (next, t, rest) = h in
      let p = t.put in
      let r = taken is next b rest (subst (λ (f : OutputView). AllByRecursion (how.can f.lines.style) is) (sym p.same.form) w.1) in
      let more = subst (λ f. Writes contents next (how.lines (output_of f) is) b) p.same.form r.writes in
      record {
        same = same_out a next b p.same r.same;
        able = ((t.formed, w.0), subst (λ (f : OutputView). Able how f.lines.style is) p.same.form r.able);
        writes = subst (λ l. Writes contents a l b) (sym (laws.more (output_of a.form) i is))
            (writes_on contents a next b (how.line (output_of a.form) i) (lines a is) p.writes more);
        live = λ l. r.live p.live;
      }

  -- puts of which the last may have been refused
  pub record Tried (a : LineOut D A) (is : List I) (b : LineOut D A) : Type 0 where
    pub same : SameOut a b
    pub rest : List ℕ
    pub moves : Moves (contents a.drain.now) (contents b.drain.now) (a.buffer.now ++ lines a is) rest
    pub able : AllByRecursion (how.can a.form.lines.style) is → Able how a.form.lines.style is
    -- where the drain has not failed, the lines of some of the items were written
    pub whole : failed b.drain.now ≡ false → (done later : List I) × (is ≡ done ++ later) × Writes contents a (lines a done) b

  -- so for items of which the last was refused: then the drain has a beginning of their lines
  pub tried : (is : List I) (a b : LineOut D A) → Tries a is b → Tried a is b
  tried [] a b h = subst (Tried a []) (sym h) (record {
    same = record { form = refl; buffer = refl; drain = refl };
    rest = a.buffer.now;
    moves = none_written a;
    able = λ w. tt;
    whole = λ l. ([], [], refl, none_written a);
  })
  tried (i ∷ is) a b h = ⊎_elim last (more (λ n x. tried is n b x)) h
    where
      one_line : is ≡ [] → how.line (output_of a.form) i ≡ lines a (i ∷ is)
      one_line e =
          sym (append-nil (how.line (output_of a.form) i)) ∙ (ap (λ l. how.line (output_of a.form) i ++ l) (sym (laws.none (output_of a.form)))
          ∙ (sym (laws.more (output_of a.form) i []) ∙ ap (λ js. lines a (i ∷ js)) (sym e)))

      last : (is ≡ []) × Leaves how contents failed a i b → Tried a (i ∷ is) b
      last p =
          let h = p.1.left in
          record {
            same = h.same;
            rest = h.rest;
            moves = subst (λ l. Moves (contents a.drain.now) (contents b.drain.now) (a.buffer.now ++ l) h.rest) (one_line p.0) h.moves;
            able = λ w. ((p.1.formed, w.0), subst (Able how a.form.lines.style) (sym p.0) tt);
            whole = λ l. ([], i ∷ is, refl, subst (λ l. Writes contents a l b) (sym (laws.none (output_of a.form))) (h.live l));
          }

      more : ((n : LineOut D A) → Tries n is b → Tried n is b) →
          (next : LineOut D A) × Takes how contents failed a i next × Tries next is b → Tried a (i ∷ is) b
      more others p =
          let (next, t, tries) = p in
          let r = others next tries in
          let first = t.put in
          let join = laws.more (output_of a.form) i is in
          record {
            same = same_out a next b first.same r.same;
            rest = r.rest;
            moves = subst (λ l. Moves (contents a.drain.now) (contents b.drain.now) l r.rest)
                (append_assoc a.buffer.now (how.line (output_of a.form) i) (lines a is) ∙ ap (λ l. a.buffer.now ++ l) (sym join))
                (moves_on (contents a.drain.now) (contents next.drain.now) (contents b.drain.now) (a.buffer.now ++ how.line (output_of a.form) i)
                (lines a is) next.buffer.now r.rest first.writes
                (subst (λ f. Moves (contents next.drain.now) (contents b.drain.now) (next.buffer.now ++ how.lines (output_of f) is) r.rest)
                first.same.form r.moves));
            able = λ w. (
              (t.formed, w.0),
              subst (λ (f : OutputView). Able how f.lines.style is) first.same.form
                  (r.able (subst (λ (f : OutputView). AllByRecursion (how.can f.lines.style) is) (sym first.same.form) w.1)),
            );
            whole = λ l.
                let (done, later, split, writes) = r.whole l in (
                  i ∷ done,
                  later,
                  ap (λ js. i ∷ js) split,
                  subst (λ l. Writes contents a l b) (sym (laws.more (output_of a.form) i done))
                      (writes_on contents a next b (how.line (output_of a.form) i) (lines a done) first.writes
                      (subst (λ f. Writes contents next (how.lines (output_of f) done) b) first.same.form writes)),
                );
          }

  -- puts that were all taken are some that were tried
  pub puts_tries : (is : List I) (a b : LineOut D A) → Puts a is b → Tries a is b
  puts_tries [] a b h = h
  puts_tries (i ∷ is) a b h = inr (h.0, h.1, puts_tries is h.0 b h.2)

  -- a drain that took all lines has not failed
  pub puts_live : (is : List I) (a b : LineOut D A) → Puts a is b → failed a.drain.now ≡ false → failed b.drain.now ≡ false
  puts_live [] a b h l = subst (λ (x : LineOut D A). failed x.drain.now ≡ false) (sym h) l
  puts_live (i ∷ is) a b h l = puts_live is h.0 b h.2 h.1.put.live

-- ---- quads

-- items that can be written are well formed quads that can be
pub writable : (s : Style) (qs : List Quad) → Able of_quads s qs → Writable s qs
writable s [] h = tt
writable s (q ∷ qs) h = ((untruncated_quad q h.0.0, h.0.1), writable s qs h.1)

-- and such quads are items
pub able : (s : Style) (qs : List Quad) → Writable s qs → Able of_quads s qs
able s [] h = tt
able s (q ∷ qs) h = ((∣ h.0.0 ∣₁, h.0.1), able s qs h.1)

-- a line was put as it is, where no graph was asked for, or in the graph
pub taken_by : {D A : Type 0} (contents : D → Option (List ℕ)) (failed : D → Bool) (before after : LineOut D A) (q : Quad) → ∥ IsQuad q ∥₁ →
    (g : Option (List ℕ)) → g ≡ graph_of before.form.graph →
    TakesBytes contents failed before (line_by (record { form = form_of before.form.lines; graph = g }) q) after → Takes of_quads contents failed before q after
taken_by contents failed before after q formed g e h = record {
  formed = formed;
  put = subst (λ x. TakesBytes contents failed before (line_by (record { form = form_of before.form.lines; graph = x }) q) after) e h;
}

-- what is left of a line that was not put is what is left of its quad
pub left_by : {D A : Type 0} (contents : D → Option (List ℕ)) (failed : D → Bool) (before after : LineOut D A) (q : Quad) → ∥ IsQuad q ∥₁ →
    (g : Option (List ℕ)) → g ≡ graph_of before.form.graph →
    LeavesBytes contents failed before (line_by (record { form = form_of before.form.lines; graph = g }) q) after →
    Leaves of_quads contents failed before q after
left_by contents failed before after q formed g e h = record {
  formed = formed;
  left = subst (λ x. LeavesBytes contents failed before (line_by (record { form = form_of before.form.lines; graph = x }) q) after) e h;
}

-- ---- bytes that go to the drain after what waited

-- all of them were taken
pub all_taken : (a b c : Option (List ℕ)) (waiting bytes rest : List ℕ) → Appends a b waiting → Appends b c bytes → rest ≡ [] →
    Moves a c (waiting ++ bytes) rest
all_taken a b c waiting bytes rest p q e =
    record {
      front = waiting ++ bytes;
      whole = sym (ap (λ l. (waiting ++ bytes) ++ l) e ∙ append-nil (waiting ++ bytes));
      taken = Appends-trans a b c waiting bytes p q;
    }

-- a beginning of what waited was taken
pub front_before : (a b : Option (List ℕ)) (waiting bytes : List ℕ) → AppendsFront a b waiting → (rest : List ℕ) × Moves a b (waiting ++ bytes) rest
front_before a b waiting bytes p = let (rest, m) = front_moves a b waiting p in (rest ++ bytes, moves_more a b waiting bytes rest m)

-- all that waited was taken, and a beginning of them
pub front_taken : (a b c : Option (List ℕ)) (waiting bytes : List ℕ) → Appends a b waiting → AppendsFront b c bytes →
    (rest : List ℕ) × Moves a c (waiting ++ bytes) rest
front_taken a b c waiting bytes p q =
    let (rest, m) = front_moves b c bytes q in
    (rest, moves_on a b c waiting bytes [] rest (record { front = waiting; whole = sym (append-nil waiting); taken = p }) m)

-- ---- bytes that were not put

module _ {D A : Type 0} (contents : D → Option (List ℕ)) (failed : D → Bool) (before mid after : LineOut D A) (bytes : List ℕ)
    (m : Writes contents before [] mid) where
  -- nothing of it waits, and what waits was handed over, or not
  pub put_left : (reported : StreamFault) → PutHalts contents failed reported mid [] after → PutHalts contents failed reported before bytes after
  put_left stream.Write p = (
    p.0,
    p.1 ++ bytes,
    moves_more (contents before.drain.now) (contents after.drain.now) before.buffer.now bytes p.1
        (subst (λ l. Moves (contents before.drain.now) (contents after.drain.now) l p.1) (append-nil (before.buffer.now ++ []) ∙ append-nil before.buffer.now)
        (moves_on (contents before.drain.now) (contents mid.drain.now) (contents after.drain.now) (before.buffer.now ++ []) [] mid.buffer.now p.1 m p.2)),
  )
  put_left stream.Memory p = (
    p.0,
    subst (Appends (contents before.drain.now) (contents after.drain.now)) (append-nil before.buffer.now)
        (moves_all (contents before.drain.now) (contents mid.drain.now) (contents after.drain.now) (before.buffer.now ++ []) mid.buffer.now m p.1),
  )
  put_left reported p = absurd p

-- what is reported of bytes that were not put is no refusal
pub put_sent : {D A : Type 0} (contents : D → Option (List ℕ)) (failed : D → Bool) (before after : LineOut D A) (bytes : List ℕ)
    (reported : StreamFault) (flushed : Bool) →
    PutHalts contents failed reported before bytes after → IsSentOn reported flushed
put_sent contents failed before after bytes (stream.Refused f) flushed p = absurd p
put_sent contents failed before after bytes reported flushed p = tt

-- what was flushed was so whatever is reported
pub sent_any : (reported : StreamFault) (flushed : Bool) → flushed ≡ true → IsSentOn reported flushed
sent_any (stream.Refused f) flushed s = s
sent_any reported flushed s = tt

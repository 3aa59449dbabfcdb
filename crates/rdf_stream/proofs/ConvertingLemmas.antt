-- A piece more, the end, or an error within one: what the drain has then.
use Rattle.rdf_stream.proofs.Prelude.{◌≡◌, ◌≤◌, ◌<◌, ℕ, Bool, true, false, List, [], ◌∷◌, ◌++◌, ◌⊎◌, ◌||◌, ◌&&◌, ◌==◌, length, take, drop, Option, None, Some, IfSome, refl, sym, ap, subst, ◌∙◌, append_assoc, ⊎_elim, arith, append-nil, map-id, take-append-drop, false≢true, and_parts, eqb-true, encode_utf8_all, chars, chars-nil, encodes-append, Appends, AllByRecursion, Reason, Quad, Subject, IsGraph, IsIri, IsQuad, Place, Token, tokens_of, BeginsDue, Due, LanguageOf, PassesNone, RefusedIn, reading_of, most_bytes, due_more, Summary, Driven, FeedFails, Feeds, FinishFails, Finishes, HasRead, LeavesOff, piece_reading, in_words, Style, CanWrite, Writable, AreLines, ConversionOf, lines_of, StreamFault, LineOut, OutputView, Able, Writer, conversion, lines_by, of_quads, output_of, HandedOver, HaltsFor, HasPut, IsConverting, IsPutting, RunEnds, RunHalts, IsConvertible, Reports, ReportsFault, ReportsWrite, Accepts, RefusesDocument, WritesDue, WritesSome, AppendsFront, fault_by, Leaves, Moves, PutHalts, SameOut, Writes, IsAsciiText, PassesText}
use Rattle.rdf_terms.specs.declared.kind.Kind.{Kind}
use Rattle.rdf_terms.specs.declared.reason.Reason.TheVariants as reason
use Rattle.rdf_terms.proofs.TermsLemmas.{IsIri-had}
use Rattle.rdf_tokens.specs.Tokens.{Reading}
use Rattle.rdf_driver.specs.Readers as R
use Rattle.rdf_driver.specs.Words.{Words}
use Rattle.rdf_lines.specs.declared.form.Escapes.{Escapes}
use Rattle.rdf_lines.specs.declared.form.Escapes.TheVariants.{Plain, Ascii}
use Rattle.rdf_lines.specs.Forms.{form_of}
use Rattle.rdf_lines.specs.NodePrefixes.{IsNodePrefix, line_in, text_in, unprefixed}
use Rattle.rdf_lines.specs.NodeNames.{CanWriteGraph}
use Rattle.rdf_lines.proofs.NodePrefixLemmas.{IsNodePrefix-had}
use Rattle.rdf_lines.proofs.FormReadBack.{form_ascii, form_reads_back}
use Rattle.rdf_lines.proofs.FormsAgree.{forms_agree}
use Rattle.rdf_stream.specs.declared.fault.StreamFault.TheVariants as stream
use Rattle.rdf_stream.specs.Graphs.{all_in_graph, in_graph, or_graph}
use Rattle.rdf_stream.proofs.OutputLemmas.{no_graph}
use Rattle.rdf_stream.specs.LineOut.{Takes}
use Rattle.rdf_stream.specs.WrittenForms.{is_raw, keeps_lines, plain}
use Rattle.rdf_stream.proofs.LineOutLemmas.{Taken, Tried, IsWriter, able, front_moves, lines-append, moves_all, moves_front, moves_more, moves_on, puts_tries, same_out, taken, tried, writable}

-- an IRI is known to be one
pub graph_had : (g : Option (List ℕ)) → ∥ IfSome g IsIri ∥₁ → IfSome g IsIri
graph_had None h = tt
graph_had (Some i) h = IsIri-had i h

-- a label that is given where there is none is well formed and can be written, as the others are
graph_writable : (s : Style) (i : List ℕ) → IsIri i → (g : Option Subject) → IsGraph g → CanWriteGraph s g →
    IsGraph (or_graph i g) × CanWriteGraph s (or_graph i g)
graph_writable s i is None formed can = (is, tt)
graph_writable s i is (Some g) formed can = (formed, can)

-- so a quad stays well formed, and can be written
quad_writable : (s : Style) (g : Option (List ℕ)) → IfSome g IsIri → (q : Quad) → IsQuad q × CanWrite s q → IsQuad (in_graph g q) × CanWrite s (in_graph g q)
quad_writable s None is q p = p
quad_writable s (Some i) is q p =
    let (formed, can) = p in
    let g = graph_writable s i is q.graph formed.graph can.graph in (
      record { subject = formed.subject; predicate = formed.predicate; object = formed.object; graph = g.0 },
      record { subject = can.subject; object = can.object; graph = g.1 },
    )

-- and so all of them
pub placed_writable : (s : Style) (g : Option (List ℕ)) → IfSome g IsIri → (qs : List Quad) → Writable s qs → Writable s (all_in_graph g qs)
placed_writable s g is [] w = tt
placed_writable s g is (q ∷ qs) w = (quad_writable s g is q w.0, placed_writable s g is qs w.1)

-- the word of a form is one
is_word : (f : OutputView) → IsNodePrefix (output_of f).form.prefix
is_word f = IsNodePrefix-had (output_of f).form.prefix f.lines.prefix.is_prefix

-- what is known of the lines of quads that can be written
told_lines : (f : OutputView) (qs : List Quad) → Able of_quads f.lines.style qs → AreLines (output_of f).form (all_in_graph (output_of f).graph qs)
told_lines f qs able =
    let o = output_of f in
    let placed = placed_writable f.lines.style o.graph (graph_had o.graph f.graph.is_graph) qs (writable f.lines.style qs able) in
    record {
      reads_back = λ limit h. form_reads_back o.form (all_in_graph o.graph qs) limit (is_word f) placed h;
      ascii = λ is labels.
          subst (λ (e : Escapes). AllByRecursion (λ b. b < 128) (lines_of (record { style = o.form.style; escapes = e; prefix = o.form.prefix })
          (all_in_graph o.graph qs))) (sym is) (form_ascii o.form.style o.form.prefix (all_in_graph o.graph qs) (is_word f) placed labels);
    }

-- quads are written as lines promise it
pub quad_lines : IsWriter of_quads
quad_lines = record {
  none = λ o. refl;
  more = λ o q qs. encodes-append (line_in o.form (in_graph o.graph q)) (text_in o.form (all_in_graph o.graph qs));
  told = told_lines;
}

-- without a graph they are the same
pub not_placed : (qs : List Quad) → all_in_graph None qs ≡ qs
not_placed qs = map-id qs

-- what holds of all items of two lists holds of those of the first, and of the second; and the other way round
all_in_first : {I : Type 0} (P : I → Type 0) (is js : List I) → AllByRecursion P (is ++ js) → AllByRecursion P is
all_in_first P [] js h = tt
all_in_first P (i ∷ is) js h = (h.0, all_in_first P is js h.1)

all_in_last : {I : Type 0} (P : I → Type 0) (is js : List I) → AllByRecursion P (is ++ js) → AllByRecursion P js
all_in_last P [] js h = h
all_in_last P (i ∷ is) js h = all_in_last P is js h.1

all_in_both : {I : Type 0} (P : I → Type 0) (is js : List I) → AllByRecursion P is → AllByRecursion P js → AllByRecursion P (is ++ js)
all_in_both P [] js p q = q
all_in_both P (i ∷ is) js p q = (p.0, all_in_both P is js p.1 q)

module _ {I : Type 0} (l : LanguageOf I) where
  abbrev Begun : List Token → List I → Type 0
  Begun ts qs = BeginsDue l.documents l.passes ts qs

  -- the first of the items that begin what is due begin it too
  begins_less : (ts : List Token) (qs rs : List I) → Begun ts (qs ++ rs) → Begun ts qs
  begins_less ts qs rs d = record {
    ahead = d.ahead;
    after = d.after;
    tokens = d.tokens;
    kept = d.kept;
    rest = rs ++ d.rest;
    due = subst (Due l.documents d.ahead) (append_assoc qs rs d.rest) d.due;
  }

  -- what is due after some first tokens of a list, of which none passes a limit
  begins_ahead : (ts ahead later : List Token) (qs : List I) → ts ≡ ahead ++ later → PassesNone l.passes ahead → Due l.documents ahead qs → Begun ts qs
  begins_ahead ts ahead later qs e k d = record {
    ahead = ahead;
    after = later;
    tokens = e;
    kept = k;
    rest = [];
    due = subst (Due l.documents ahead) (sym (append-nil qs)) d;
  }

  -- what is due after all tokens of a list, of which none passes a limit
  pub begins_all : (ts : List Token) (qs : List I) → PassesNone l.passes ts → Due l.documents ts qs → Begun ts qs
  begins_all ts qs k d = begins_ahead ts ts [] qs (sym (append-nil ts)) k d

  -- what is due before a refusal
  begins_refused : (r : Reading) (why : Reason) (at : Place) (ahead : List Token) (qs : List I) → RefusedIn l r why at ahead →
      Due l.documents ahead qs → Begun r.tokens qs
  begins_refused r reason.BadUtf8 at ahead qs x d = begins_ahead r.tokens ahead [] qs (x.tokens ∙ sym (append-nil ahead)) x.front.kept d
  begins_refused r reason.NoToken at ahead qs x d = begins_ahead r.tokens ahead [] qs (x.tokens ∙ sym (append-nil ahead)) x.front.kept d
  begins_refused r reason.BadEscape at ahead qs x d = begins_ahead r.tokens ahead [] qs (x.tokens ∙ sym (append-nil ahead)) x.front.kept d
  begins_refused r reason.TokenTooLong at ahead qs x d = begins_ahead r.tokens ahead [] qs (x.tokens ∙ sym (append-nil ahead)) x.front.kept d
  begins_refused r reason.DocumentTooLong at ahead qs x d = absurd x
  begins_refused r reason.Memory at ahead qs x d = absurd x
  begins_refused r reason.Ended at ahead qs x d = absurd x
  begins_refused r reason.Sink at ahead qs x d = absurd x
  begins_refused r why at ahead qs x d = begins_ahead r.tokens ahead (x.token ∷ x.after) qs x.tokens x.front.kept d

-- where some text is the plain lines of quads, it is their lines in the form
abbrev KeepsText : OutputView → List ℕ → Type 0
KeepsText w text = (qs : List Quad) → text ≡ lines_of (plain w.lines.style) qs → text ≡ lines_by (output_of w) qs

module _ {G X I D A : Type 0} (how : Writer I) (laws : IsWriter how) (contents : D → Option (List ℕ)) (failed : D → Bool) (w : Words G X I) (x : X)
    (reader : Driven G) (bytes : List ℕ) (first lines : LineOut D A) (convertible : IsConvertible how w x first.form.lines.style)
    (o : HasPut how contents failed w x reader bytes first lines) where
  abbrev l : LanguageOf I
  l = in_words w x reader.scanner.limit

  abbrev job : ConversionOf I
  job = conversion how w x reader.scanner.limit (output_of first.form)

  -- the bytes of their lines in the sink's form
  abbrev lines_of_items : List I → List ℕ
  lines_of_items is = how.lines (output_of lines.form) is

  -- with more items that can be written, what was put can
  all_able : (is : List I) → Able how lines.form.lines.style is → Able how first.form.lines.style (o.items ++ is)
  all_able is able =
      all_in_both _ o.items is o.able (subst (λ (y : OutputView). Able how y.lines.style is) o.same.form able)

  -- what is known of their lines
  all_known : (is : List I) → Able how lines.form.lines.style is → job.known (o.items ++ is)
  all_known is able = laws.told first.form (o.items ++ is) (all_able is able)

  -- and of those that were put
  these_known : job.known o.items
  these_known = laws.told first.form o.items o.able

  -- what the drain took after the bytes that it had
  abbrev Behind : LineOut D A → List I → List ℕ → Type 0
  Behind after qs rest = Moves (contents lines.drain.now) (contents after.drain.now) (lines.buffer.now ++ lines_of_items qs) rest

  -- from the beginning of the run
  from_first : (after : LineOut D A) (qs : List I) (rest : List ℕ) → Behind after qs rest →
      Moves (contents first.drain.now) (contents after.drain.now) (how.lines (output_of first.form) (o.items ++ qs)) rest
  from_first after qs rest m =
      let styled = subst (λ s. Moves (contents lines.drain.now) (contents after.drain.now) (lines.buffer.now ++ how.lines (output_of s) qs) rest)
      o.same.form m in
      subst (λ b. Moves (contents first.drain.now) (contents after.drain.now) b rest) (sym (lines-append how laws (output_of first.form) o.items qs))
      (moves_on (contents first.drain.now) (contents lines.drain.now) (contents after.drain.now) (how.lines (output_of first.form) o.items)
      (how.lines (output_of first.form) qs) lines.buffer.now rest o.moves styled)

  -- a beginning of the lines was written
  written_front : (after : LineOut D A) (ts : List Token) (qs : List I) (rest : List ℕ) → Able how lines.form.lines.style qs →
      Behind after qs rest → Begun l ts (o.items ++ qs) →
      WritesSome AppendsFront job ts (contents first.drain.now) (contents after.drain.now)
  written_front after ts qs rest able m d = record {
    items = o.items ++ qs;
    due = d;
    written = moves_front (contents first.drain.now) (contents after.drain.now) (how.lines (output_of first.form) (o.items ++ qs)) rest
        (from_first after qs rest m);
    known = all_known qs able;
  }

  -- all that waited was taken then
  written_all : (mid after : LineOut D A) (qs : List I) → Writes contents lines (lines_of_items qs) mid →
      Appends (contents mid.drain.now) (contents after.drain.now) mid.buffer.now →
      Appends (contents first.drain.now) (contents after.drain.now) (how.lines (output_of first.form) (o.items ++ qs))
  written_all mid after qs m t =
      moves_all (contents first.drain.now) (contents mid.drain.now) (contents after.drain.now)
      (how.lines (output_of first.form) (o.items ++ qs)) mid.buffer.now (from_first mid qs mid.buffer.now m) t

  -- the drain took a beginning of what waited
  then_front : (mid after : LineOut D A) (qs : List I) (rest : List ℕ) → Writes contents lines (lines_of_items qs) mid →
      Moves (contents mid.drain.now) (contents after.drain.now) mid.buffer.now rest →
      Behind after qs rest
  then_front mid after qs rest m n =
      subst (λ b. Moves (contents lines.drain.now) (contents after.drain.now) b rest) (append-nil (lines.buffer.now ++ lines_of_items qs))
      (moves_on (contents lines.drain.now) (contents mid.drain.now) (contents after.drain.now) (lines.buffer.now ++ lines_of_items qs)
      [] mid.buffer.now rest m
      (subst (λ b. Moves (contents mid.drain.now) (contents after.drain.now) b rest) (sym (append-nil mid.buffer.now)) n))

  more_front : (after : LineOut D A) (done later : List I) (rest : List ℕ) → Behind after done rest →
      Behind after (done ++ later) (rest ++ lines_of_items later)
  more_front after done later rest m =
      subst (λ b. Moves (contents lines.drain.now) (contents after.drain.now) b (rest ++ lines_of_items later))
      (append_assoc lines.buffer.now (lines_of_items done) (lines_of_items later)
      ∙ ap (λ b. lines.buffer.now ++ b) (sym (lines-append how laws (output_of lines.form) done later)))
      (moves_more (contents lines.drain.now) (contents after.drain.now) (lines.buffer.now ++ lines_of_items done) (lines_of_items later) rest m)

  -- items that are due can be written
  styled : (ts : List Token) (qs rest : List I) → Due (w.documents x) ts ((o.items ++ qs) ++ rest) → AllByRecursion (how.can lines.form.lines.style) qs
  styled ts qs rest d =
      subst (λ (f : OutputView). AllByRecursion (how.can f.lines.style) qs) (sym o.same.form)
      (all_in_last (how.can first.form.lines.style) o.items qs
      (all_in_first (how.can first.form.lines.style) (o.items ++ qs) rest (convertible.can_write ts ((o.items ++ qs) ++ rest) d)))

  styled_all : (ts : List Token) (qs : List I) → Due (w.documents x) ts (o.items ++ qs) → AllByRecursion (how.can lines.form.lines.style) qs
  styled_all ts qs d = styled ts qs [] (subst (Due (w.documents x) ts) (sym (append-nil (o.items ++ qs))) d)

  -- ---- an error of the reader: some items were tried, and they are due

  pub record LeftOff (ts : List Token) (mid : LineOut D A) : Type 0 where
    pub more : List I
    pub tries : Tried how laws contents failed lines more mid
    pub due : Begun l ts (o.items ++ more)

  -- they can all be written
  left_able : (ts : List Token) (mid : LineOut D A) (h : LeftOff ts mid) → Able how lines.form.lines.style h.more
  left_able ts mid h = h.tries.able (styled h.due.ahead h.more h.due.rest h.due.due)

  leaves_off : (readings : List ℕ → Reading) (mid : LineOut D A) → LeavesOff w (Takes how contents failed)
      (Leaves how contents failed) reader lines readings mid → LeftOff (readings bytes).tokens mid
  leaves_off readings mid h =
      let d = h.due x bytes o.items o.read in record { more = h.more; tries = tried how laws contents failed h.more lines mid h.puts; due = d }

  -- the drain failed, before or when it was handed what waited
  tells_write : (ts : List Token) (mid after : LineOut D A) → LeftOff ts mid → ReportsWrite contents failed mid after →
      WritesSome AppendsFront job ts (contents first.drain.now) (contents after.drain.now)
  tells_write ts mid after h t = by (failed mid.drain.now) refl
    where
      by : (b : Bool) → failed mid.drain.now ≡ b → WritesSome AppendsFront job ts (contents first.drain.now) (contents after.drain.now)
      by true e =
          written_front after ts h.more h.tries.rest (left_able ts mid h)
          (subst (λ k. Moves (contents lines.drain.now) k (lines.buffer.now ++ lines_of_items h.more) h.tries.rest)
          (sym (t.before_it e)) h.tries.moves) h.due
      by false e =
          let (done, later, split, writes) = h.tries.whole e in
          let (rest, moves) = t.while_taking e in
          let m = more_front after done later rest (then_front mid after done rest writes moves) in
          written_front after ts h.more (rest ++ lines_of_items later) (left_able ts mid h)
          (subst (λ qs. Behind after qs (rest ++ lines_of_items later)) (sym split) m) h.due

  -- the drain has all whole lines
  tells_some : (ts : List Token) (mid after : LineOut D A) → LeftOff ts mid → ReportsFault contents failed mid after →
      WritesSome Appends job ts (contents first.drain.now) (contents after.drain.now)
  tells_some ts mid after h t =
      let (done, later, split, writes) = h.tries.whole t.live in
      record {
        items = o.items ++ done;
        due = begins_less l ts (o.items ++ done) later (subst (Begun l ts) (ap (λ qs. o.items ++ qs) split ∙ sym (append_assoc o.items done later)) h.due);
        written = written_all mid after done writes t.taken;
        known = all_known done (all_in_first _ done later (subst (Able how lines.form.lines.style) split (left_able ts mid h)));
      }

  -- what was refused
  pub record RefusedAt (why : Reason) (at : Place) (reading : Reading) (mid : LineOut D A) : Type 0 where
    pub more : List I
    pub taken : Taken how laws contents failed lines more mid
    pub refused : (ahead : List Token) × RefusedIn l reading why at ahead × Due (w.documents x) ahead (o.items ++ more)
    pub left : LeftOff reading.tokens mid

  refuses : (why : Reason) (at : Place) (readings : List ℕ → Reading) (g : G) (found : Option Kind) (mid : LineOut D A) →
      R.Refuses w (Takes how contents failed) reader lines readings why at g found mid → RefusedAt why at (readings bytes) mid
  refuses why at readings g found mid r =
      let d = r.refused x bytes o.items o.read in
      record {
        more = r.more;
        taken = taken how laws contents failed r.more lines mid r.puts (styled_all d.0 r.more d.2);
        refused = d;
        left = record {
          more = r.more;
          tries = tried how laws contents failed r.more lines mid (puts_tries how laws contents failed r.more lines mid r.puts);
          due = begins_refused l (readings bytes) why at d.0 (o.items ++ r.more) d.1 d.2;
        };
      }

  tells_due : (why : Reason) (at : Place) (reading : Reading) (mid after : LineOut D A) → RefusedAt why at reading mid →
      ReportsFault contents failed mid after →
      (ahead : List Token) × RefusedIn l reading why at ahead × WritesDue job ahead (contents first.drain.now) (contents after.drain.now)
  tells_due why at reading mid after r t =
      let writes : WritesDue job r.refused.0 (contents first.drain.now) (contents after.drain.now) = record {
        items = o.items ++ r.more;
        due = r.refused.2;
        written = written_all mid after r.more r.taken.writes t.taken;
        known = all_known r.more r.taken.able;
      } in (r.refused.0, r.refused.1, writes)

  -- ---- what is reported of an error

  pub record Halts (reported : StreamFault) (b : List ℕ) (e : Bool) (after : LineOut D A) : Type 0 where
    pub same : SameOut first after
    pub halts : HaltsFor reported job b e (contents first.drain.now) (contents after.drain.now) (failed after.drain.now)

  halts_by : (b : List ℕ) (e : Bool) (fault reported : StreamFault) (mid after : LineOut D A) → LeftOff (reading_of l b e).tokens mid → SameOut mid after →
      (ReportsFault contents failed mid after → HaltsFor fault job b e (contents first.drain.now) (contents after.drain.now) (failed after.drain.now)) →
      ((reported ≡ stream.Write) × ReportsWrite contents failed mid after) ⊎ ((reported ≡ fault) × ReportsFault contents failed mid after) →
      Halts reported b e after
  halts_by b e fault reported mid after h s why t = record {
    same = same_out first mid after (same_out first lines mid o.same h.tries.same) s;
    halts = ⊎_elim
        (λ p. subst (λ y. HaltsFor y job b e (contents first.drain.now) (contents after.drain.now) (failed after.drain.now)) (sym p.0)
        (p.1.failed_now, tells_write (reading_of l b e).tokens mid after h p.1))
        (λ p. subst (λ y. HaltsFor y job b e (contents first.drain.now) (contents after.drain.now) (failed after.drain.now)) (sym p.0) (why p.1))
        t;
  }

  module _ (piece : List ℕ) (n k : ℕ) (reader' : Driven G) (mid : LineOut D A) where
    abbrev FailsPiece : Reason → Type 0
    FailsPiece why = FeedFails w (Takes how contents failed) (Leaves how contents failed) (λ s. failed s.drain.now) why
        (record { offset = n; line = k }) reader lines piece reader' mid

    abbrev read_so_far : Reading
    read_so_far = reading_of l (bytes ++ piece) false

    -- What is due in as many bytes as a document may have is due in more.
    overruns : R.Overruns w (Takes how contents failed) reader lines piece (record { offset = n; line = k }) mid → LeftOff read_so_far.tokens mid
    overruns h =
        let all = bytes ++ piece in
        let f = h.full x bytes o.items o.read in
        record {
          more = h.more;
          tries = tried how laws contents failed h.more lines mid (puts_tries how laws contents failed h.more lines mid h.puts);
          due = subst (λ b. Begun l (reading_of l b false).tokens (o.items ++ h.more)) (take-append-drop most_bytes all)
              (due_more l (convertible.lawful.ends x) (take most_bytes all) (drop most_bytes all) false (o.items ++ h.more)
              (begins_all l (reading_of l (take most_bytes all) false).tokens (o.items ++ h.more) f.goes_on.front.kept f.due));
        }

    -- the drain has the lines of all that is due in as many bytes
    tells_full : (after : LineOut D A) → R.Overruns w (Takes how contents failed) reader lines piece (record { offset = n; line = k }) mid →
        ReportsFault contents failed mid after →
        RefusesDocument reason.DocumentTooLong job (bytes ++ piece) false (record { offset = n; line = k }) (contents first.drain.now)
        (contents after.drain.now)
    tells_full after h t =
        let f = h.full x bytes o.items o.read in
        let put = taken how laws contents failed h.more lines mid h.puts
        (styled_all (reading_of l (take most_bytes (bytes ++ piece)) false).tokens h.more f.due) in (
          f.too_long,
          f.goes_on,
          record { items = o.items ++ h.more; due = f.due; written = written_all mid after h.more put.writes t.taken; known = all_known h.more put.able },
        )

    left_piece : (why : Reason) → FailsPiece why → LeftOff read_so_far.tokens mid
    left_piece reason.Ended h = absurd (false≢true (sym o.read.running ∙ h.0))
    left_piece reason.Memory h = leaves_off (piece_reading w reader.scanner.limit piece) mid h.0
    left_piece reason.Sink h = leaves_off (piece_reading w reader.scanner.limit piece) mid h.0
    left_piece reason.DocumentTooLong h = overruns h
    left_piece why h = (refuses why (record { offset = n; line = k }) (piece_reading w reader.scanner.limit piece) reader'.grammar reader'.found mid h).left

    fault_piece : (after : LineOut D A) (why : Reason) → FailsPiece why → ReportsFault contents failed mid after →
        HaltsFor (fault_by why (record { reason = why; offset = n; line = k })) job (bytes ++ piece) false (contents first.drain.now)
        (contents after.drain.now) (failed after.drain.now)
    fault_piece after reason.Ended h t = absurd (false≢true (sym o.read.running ∙ h.0))
    fault_piece after reason.Memory h t = (t.live_now, tells_some read_so_far.tokens mid after (left_piece reason.Memory h) t)
    fault_piece after reason.Sink h t = absurd (false≢true (sym t.live ∙ h.1))
    fault_piece after reason.DocumentTooLong h t = (t.live_now, tells_full after h t)
    fault_piece after why h t = (
      t.live_now,
      tells_due why (record { offset = n; line = k }) read_so_far mid after (refuses why (record { offset = n; line = k })
          (piece_reading w reader.scanner.limit piece) reader'.grammar reader'.found mid h) t,
    )

    -- an error in a piece
    pub piece_halts : (why : Reason) (after : LineOut D A) (reported : StreamFault) → FailsPiece why → SameOut mid after →
        Reports contents failed (record { reason = why; offset = n; line = k }) reported mid after →
        Halts reported (bytes ++ piece) false after
    piece_halts why after reported h s t =
        halts_by (bytes ++ piece) false (fault_by why (record { reason = why; offset = n; line = k })) reported mid after
        (left_piece why h) s (fault_piece after why h) t

  module _ (n k : ℕ) (reader' : Driven G) (mid : LineOut D A) where
    abbrev FailsEnd : Reason → Type 0
    FailsEnd why = FinishFails w (Takes how contents failed) (Leaves how contents failed) (λ s. failed s.drain.now) why
        (record { offset = n; line = k }) reader lines reader' mid

    abbrev read_all : Reading
    read_all = reading_of l bytes true

    abbrev end_reading : List ℕ → Reading
    end_reading b = tokens_of w.dialect reader.scanner.limit b true

    left_end : (why : Reason) → FailsEnd why → LeftOff read_all.tokens mid
    left_end reason.Ended h = absurd (false≢true (sym o.read.running ∙ h.0))
    left_end reason.Memory h = leaves_off end_reading mid h.0
    left_end reason.Sink h = leaves_off end_reading mid h.0
    left_end why h = (refuses why (record { offset = n; line = k }) end_reading reader'.grammar reader'.found mid h).left

    fault_end : (after : LineOut D A) (why : Reason) → FailsEnd why → ReportsFault contents failed mid after →
        HaltsFor (fault_by why (record { reason = why; offset = n; line = k })) job bytes true (contents first.drain.now)
        (contents after.drain.now) (failed after.drain.now)
    fault_end after reason.Ended h t = absurd (false≢true (sym o.read.running ∙ h.0))
    fault_end after reason.Memory h t = (t.live_now, tells_some read_all.tokens mid after (left_end reason.Memory h) t)
    fault_end after reason.Sink h t = absurd (false≢true (sym t.live ∙ h.1))
    fault_end after reason.DocumentTooLong h t = absurd (h.refused x bytes o.items o.read).1
    fault_end after why h t = (
      t.live_now,
      tells_due why (record { offset = n; line = k }) read_all mid after
          (refuses why (record { offset = n; line = k }) end_reading reader'.grammar reader'.found mid h) t,
    )

    -- an error at the end
    pub end_halts : (why : Reason) (after : LineOut D A) (reported : StreamFault) → FailsEnd why → SameOut mid after →
        Reports contents failed (record { reason = why; offset = n; line = k }) reported mid after →
        Halts reported bytes true after
    end_halts why after reported h s t = halts_by bytes true (fault_by why (record { reason = why; offset = n; line = k })) reported mid
        after (left_end why h) s (fault_end after why h) t

  -- ---- more was read

  module _ (part : List ℕ) (reader' : Driven G) (same_limit : reader'.scanner.limit ≡ reader.scanner.limit) (more : List I)
      (read' : HasRead w reader' x (bytes ++ part) (o.items ++ more)) where
    -- the tokens so far, by the limit that stays
    abbrev now' : LanguageOf I
    now' = in_words w x reader'.scanner.limit

    due' : Due (w.documents x) (reading_of now' (bytes ++ part) false).tokens (o.items ++ more)
    due' = convertible.lawful.due reader'.grammar x (reading_of now' (bytes ++ part) false).tokens (o.items ++ more) read'.reached

    begun' : Begun l (reading_of l (bytes ++ part) false).tokens (o.items ++ more)
    begun' =
        subst (λ n. Begun (in_words w x n) (reading_of (in_words w x n) (bytes ++ part) false).tokens (o.items ++ more)) same_limit
        (begins_all now' (reading_of now' (bytes ++ part) false).tokens (o.items ++ more)
        (convertible.lawful.kept reader'.grammar x (reading_of now' (bytes ++ part) false).tokens (o.items ++ more) read'.reached) due')

    -- the lines of more items were put
    more_put : (mid : LineOut D A) → SameOut lines mid → Able how lines.form.lines.style more →
        Writes contents lines (lines_of_items more) mid → failed mid.drain.now ≡ false →
        HasPut how contents failed w x reader' (bytes ++ part) first mid
    more_put mid s able m live = record {
      items = o.items ++ more;
      read = read';
      moves = from_first mid more mid.buffer.now m;
      able = all_able more able;
      same = same_out first lines mid o.same s;
      live = live;
    }

  -- a part was read, and its lines were put
  pub part_read : (part : List ℕ) (reader' : Driven G) (mid : LineOut D A) → Feeds w (Takes how contents failed) reader lines part reader' mid →
      HasPut how contents failed w x reader' (bytes ++ part) first mid
  part_read part reader' mid f =
      let read' = f.read x bytes o.items o.read in
      let put = taken how laws contents failed f.more lines mid f.puts
      (styled_all (reading_of (now' part reader' f.limit f.more read') (bytes ++ part) false).tokens f.more (due' part reader' f.limit f.more read')) in
      more_put part reader' f.limit f.more read' mid put.same put.able put.writes (put.live o.live)

  -- Some text was passed, and for it the lines of these items are written.
  module _ (put text : List ℕ) (reader' : Driven G) (same_limit : reader'.scanner.limit ≡ reader.scanner.limit) (given : List I)
      (able : Able how lines.form.lines.style given) (is : put ≡ lines_of_items given)
      (passed : HasRead w reader' x (bytes ++ text) (o.items ++ given)) where
    -- it was put
    pub text_put : (after : LineOut D A) → SameOut lines after → Writes contents lines put after → failed after.drain.now ≡ false →
        HasPut how contents failed w x reader' (bytes ++ text) first after
    text_put after s m live = more_put text reader' same_limit given passed after s able (subst (λ b. Writes contents lines b after) is m) live

    -- it was not put
    pub text_halts : (reported : StreamFault) (after : LineOut D A) → SameOut lines after →
        PutHalts contents failed reported lines put after → Halts reported (bytes ++ text) false after
    text_halts reported after s h = record { same = same_out first lines after o.same s; halts = by reported h }
      where
        ts : List Token
        ts = (reading_of l (bytes ++ text) false).tokens

        by : (reported : StreamFault) → PutHalts contents failed reported lines put after →
            HaltsFor reported job (bytes ++ text) false (contents first.drain.now) (contents after.drain.now) (failed after.drain.now)
        by stream.Write h = (
          h.0,
          written_front after ts given h.1 able
              (subst (λ b. Moves (contents lines.drain.now) (contents after.drain.now) (lines.buffer.now ++ b) h.1) is h.2)
              (begun' text reader' same_limit given passed),
        )
        by stream.Memory h = (
          h.0,
          record {
            items = o.items;
            due = begins_less l ts o.items given (begun' text reader' same_limit given passed);
            written = moves_all (contents first.drain.now) (contents lines.drain.now) (contents after.drain.now)
                (how.lines (output_of first.form) o.items) lines.buffer.now o.moves h.1;
            known = these_known;
          },
        )
        by reported h = absurd h

  -- ---- what waits is handed over

  -- all of it
  pub handed : (after : LineOut D A) → SameOut lines after →
      Appends (contents lines.drain.now) (contents after.drain.now) lines.buffer.now → after.buffer.now ≡ [] →
      failed after.drain.now ≡ false → HandedOver how contents failed w x reader bytes first after
  handed after s t none live = record {
    items = o.items;
    read = o.read;
    written = moves_all (contents first.drain.now) (contents lines.drain.now) (contents after.drain.now)
        (how.lines (output_of first.form) o.items) lines.buffer.now o.moves t;
    able = o.able;
    none_waits = none;
    same = same_out first lines after o.same s;
    live = live;
  }

  -- the drain failed
  pub handing_broke : (after : LineOut D A) → SameOut lines after → AppendsFront (contents lines.drain.now)
      (contents after.drain.now) lines.buffer.now → failed after.drain.now ≡ true →
      Halts stream.Write bytes false after
  handing_broke after s t broke =
      let (rest, m) = front_moves (contents lines.drain.now) (contents after.drain.now) lines.buffer.now t in
      let all = moves_on (contents first.drain.now) (contents lines.drain.now) (contents after.drain.now)
      (how.lines (output_of first.form) o.items) [] lines.buffer.now rest o.moves
      (subst (λ b. Moves (contents lines.drain.now) (contents after.drain.now) b rest) (sym (append-nil lines.buffer.now)) m) in
      let now = (reading_of l bytes false).tokens in
      record {
        same = same_out first lines after o.same s;
        halts = (
          broke,
          record {
            items = o.items;
            due = begins_all l now o.items (convertible.lawful.kept reader.grammar x now o.items o.read.reached)
                (convertible.lawful.due reader.grammar x now o.items o.read.reached);
            written = moves_front (contents first.drain.now) (contents after.drain.now) (how.lines (output_of first.form) o.items) rest
                (subst (λ b. Moves (contents first.drain.now) (contents after.drain.now) b rest) (append-nil (how.lines (output_of first.form) o.items)) all);
            known = these_known;
          },
        );
      }

  -- memory was refused, and what waited was handed over
  pub handing_short : (after : LineOut D A) → SameOut lines after →
      Appends (contents lines.drain.now) (contents after.drain.now) lines.buffer.now → failed after.drain.now ≡ false →
      Halts stream.Memory bytes false after
  handing_short after s t live =
      let now = (reading_of l bytes false).tokens in
      record {
        same = same_out first lines after o.same s;
        halts = (
          live,
          record {
            items = o.items;
            due = begins_all l now o.items (convertible.lawful.kept reader.grammar x now o.items o.read.reached)
                (convertible.lawful.due reader.grammar x now o.items o.read.reached);
            written = moves_all (contents first.drain.now) (contents lines.drain.now) (contents after.drain.now)
                (how.lines (output_of first.form) o.items) lines.buffer.now o.moves t;
            known = these_known;
          },
        );
      }

  module _ (summary : Summary) (mid : LineOut D A) (f : Finishes w (Takes how contents failed) reader lines summary mid) where
    abbrev sums : R.Sums w x reader.scanner.limit bytes (o.items ++ f.more) summary
    sums = f.read x bytes o.items o.read

    all_begun : Begun l (reading_of l bytes true).tokens (o.items ++ f.more)
    all_begun = begins_all l (reading_of l bytes true).tokens (o.items ++ f.more) sums.whole.front.kept sums.due

    all_put : Taken how laws contents failed lines f.more mid
    all_put = taken how laws contents failed f.more lines mid f.puts (styled_all (reading_of l bytes true).tokens f.more sums.due)

    -- the document was read and written
    pub end_read : length bytes ≤ most_bytes → (after : LineOut D A) → SameOut mid after →
        Appends (contents mid.drain.now) (contents after.drain.now) mid.buffer.now →
        SameOut first after × Accepts job bytes (contents first.drain.now) (contents after.drain.now) summary
    end_read few after s t = (
      same_out first mid after (same_out first lines mid o.same all_put.same) s,
      record {
        items = o.items ++ f.more;
        document = sums.document;
        within = sums.whole;
        size = few;
        written = written_all mid after f.more all_put.writes t;
        known = all_known f.more all_put.able;
        counts = record { quads = sums.given; tokens = sums.accepted; bytes = sums.taken };
      },
    )

    -- the drain failed
    pub end_broke : (after : LineOut D A) → SameOut mid after → AppendsFront (contents mid.drain.now)
        (contents after.drain.now) mid.buffer.now → failed after.drain.now ≡ true →
        Halts stream.Write bytes true after
    end_broke after s t broke =
        let (rest, m) = front_moves (contents mid.drain.now) (contents after.drain.now) mid.buffer.now t in
        record {
          same = same_out first mid after (same_out first lines mid o.same all_put.same) s;
          halts = (
            broke,
            written_front after (reading_of l bytes true).tokens f.more rest all_put.able
                (then_front mid after f.more rest all_put.writes m) all_begun,
          );
        }

-- a text without bytes has no characters
no_bytes : (bs : List ℕ) → length bs ≡ 0 → chars bs ≡ []
no_bytes [] h = chars-nil
no_bytes (b ∷ bs) h = absurd (omega (arith, h))

-- plain lines stand in a form that writes characters above U+007F as they are, or where there are none
kept_by : (e : Escapes) (is_ascii : Bool) (s : Style) (text : List ℕ) → (is_ascii || is_raw e) ≡ true → (is_ascii ≡ true → IsAsciiText text) →
    (qs : List Quad) → text ≡ lines_of (plain s) qs → text ≡ lines_of (unprefixed s e) qs
kept_by Plain b s text t low qs is = is
kept_by Ascii false s text t low qs is = absurd (false≢true t)
kept_by Ascii true s text t low qs is = is ∙ ap encode_utf8_all (sym (forms_agree s [] qs (subst IsAsciiText is (low refl))))

-- the test answers that they stand so
pub kept_where : (w : OutputView) (is_ascii : Bool) (text : List ℕ) → keeps_lines w is_ascii ≡ true → (is_ascii ≡ true → IsAsciiText text) → KeepsText w text
kept_where w is_ascii text t low qs is =
    let (kept, none) = and_parts ((is_ascii || is_raw w.lines.escapes) && (length w.lines.prefix.word.now == 0)) _ t in
    let (raw, empty) = and_parts (is_ascii || is_raw w.lines.escapes) _ kept in
    let no_word = no_bytes w.lines.prefix.word.now (eqb-true (length w.lines.prefix.word.now) 0 empty) in
    let default = no_graph w.graph.iri.now (eqb-true (length w.graph.iri.now) 0 none) in
    kept_by w.lines.escapes is_ascii w.lines.style text raw low qs is
    ∙ (ap (λ (x : List ℕ). lines_of (record { style = w.lines.style; escapes = w.lines.escapes; prefix = x }) qs) (sym no_word)
    ∙ (ap (lines_of (form_of w.lines)) (sym (not_placed qs)) ∙ ap (λ g. lines_of (form_of w.lines) (all_in_graph g qs)) (sym default)))

-- what was handed over was put
put_of : {G X I D A : Type 0} (how : Writer I) (contents : D → Option (List ℕ)) (failed : D → Bool) (w : Words G X I) (x : X) (reader : Driven G)
    (bytes : List ℕ) (first lines : LineOut D A) →
    HandedOver how contents failed w x reader bytes first lines → HasPut how contents failed w x reader bytes first lines
put_of how contents failed w x reader bytes first lines o = record {
  items = o.items;
  read = o.read;
  moves = record {
    front = how.lines (output_of first.form) o.items;
    whole = sym (ap (λ b. how.lines (output_of first.form) o.items ++ b) o.none_waits ∙ append-nil (how.lines (output_of first.form) o.items));
    taken = o.written;
  };
  able = o.able;
  same = o.same;
  live = o.live;
}

-- ---- a run

-- a run whose lines were handed over has put them
pub putting : {G X I D A : Type 0} (how : Writer I) (contents : D → Option (List ℕ)) (failed : D → Bool) (w : Words G X I) (style : Style)
    (reader : Driven G) (first : LineOut D A) (bytes : List ℕ) (old : Driven G) (lines : LineOut D A) →
    IsConverting how contents failed w style reader first bytes old lines → IsPutting how contents failed w style reader first bytes old lines
putting how contents failed w style reader first bytes old lines i = record {
  begun = i.begun;
  styled = i.styled;
  limit = i.limit;
  put = λ x b. put_of how contents failed w x old bytes first lines (i.handed x b);
}

module _ {G X I D A : Type 0} (how : Writer I) (laws : IsWriter how) (contents : D → Option (List ℕ)) (failed : D → Bool) (w : Words G X I)
    (style : Style) (reader : Driven G) (first : LineOut D A) (bytes : List ℕ) (old : Driven G) (lines : LineOut D A)
    (i : IsPutting how contents failed w style reader first bytes old lines) where
  -- what was put by any setting
  put_now : HasPut how contents failed w i.begun.0 old bytes first lines
  put_now = i.put i.begun.0 i.begun.1

  -- the drain has not failed
  pub live_now : failed lines.drain.now ≡ false
  live_now = put_now.live

  -- the bytes are counted
  pub count_now : old.so_far.bytes ≡ length bytes
  count_now = ap (λ (s : Summary). s.bytes) put_now.read.so_far

  -- there are not too many
  pub few_now : (most : ℕ) → old.scanner.taken.offset ≤ most → old.so_far.bytes ≤ most
  few_now most few =
      let small : old.scanner.taken.offset ≡ length bytes = ap (λ (p : Place). p.offset) put_now.read.scanned.taken in omega (arith, count_now, small, few)

  -- what halts by the limit of the reader halts by that of the run
  halted : (reported : StreamFault) (b : List ℕ) (e : Bool) (after : LineOut D A) →
      ((x : X) (s : IsConvertible how w x first.form.lines.style) (o : HasPut how contents failed w x old bytes first lines) → Halts how laws contents failed
      w x old bytes first lines s o reported b e after) → RunHalts how contents failed w reported reader first b e after
  halted reported b e after h = record {
    begun = i.begun;
    same = (h i.begun.0 i.begun.1.starts.convertible put_now).same;
    halts = λ x y.
        subst (λ n. HaltsFor reported (conversion how w x n (output_of first.form)) b e (contents first.drain.now) (contents after.drain.now)
        (failed after.drain.now)) i.limit (h x y.starts.convertible (i.put x y)).halts;
  }

  -- what waited was handed over
  pub run_handed : (after : LineOut D A) → SameOut lines after →
      Appends (contents lines.drain.now) (contents after.drain.now) lines.buffer.now → after.buffer.now ≡ [] →
      failed after.drain.now ≡ false → length bytes ≤ most_bytes → IsConverting how contents failed w style reader first bytes old after
  run_handed after s t none live few = record {
    begun = i.begun;
    styled = i.styled;
    limit = i.limit;
    few = few;
    handed = λ x y. handed how laws contents failed w x old bytes first lines y.starts.convertible (i.put x y) after s t none live;
  }

  -- the drain failed
  pub run_broke : (after : LineOut D A) → SameOut lines after → AppendsFront (contents lines.drain.now)
      (contents after.drain.now) lines.buffer.now → failed after.drain.now ≡ true →
      RunHalts how contents failed w stream.Write reader first bytes false after
  run_broke after s t broke = halted stream.Write bytes false after
      (λ x y o. handing_broke how laws contents failed w x old bytes first lines y o after s t broke)

  -- what waited was handed over, or the drain failed
  pub run_stops : (reported : StreamFault) (after : LineOut D A) → SameOut lines after → PutHalts contents failed reported lines [] after →
      RunHalts how contents failed w reported reader first bytes false after
  run_stops stream.Write after s h = run_broke after s (h.2.front, h.1, sym (append-nil lines.buffer.now) ∙ h.2.whole, h.2.taken) h.0
  run_stops stream.Memory after s h =
      halted stream.Memory bytes false after (λ x y o. handing_short how laws contents failed w x old bytes first lines y o after s h.1 h.0)
  run_stops reported after s h = absurd h

  module _ (part : List ℕ) where
    -- a part more
    pub run_reads : (new : Driven G) (mid : LineOut D A) → Feeds w (Takes how contents failed) old lines part new mid →
        IsPutting how contents failed w style reader first (bytes ++ part) new mid
    run_reads new mid f = record {
      begun = i.begun;
      styled = i.styled;
      limit = f.limit ∙ i.limit;
      put = λ x y. part_read how laws contents failed w x old bytes first lines y.starts.convertible (i.put x y) part new mid f;
    }

    -- an error in a part
    pub run_halts : (n k : ℕ) (new : Driven G) (mid after : LineOut D A) (why : Reason) (reported : StreamFault) →
        FeedFails w (Takes how contents failed) (Leaves how contents failed) (λ s. failed s.drain.now) why
        (record { offset = n; line = k }) old lines part new mid → SameOut mid after →
        Reports contents failed (record { reason = why; offset = n; line = k }) reported mid after →
        RunHalts how contents failed w reported reader first (bytes ++ part) false after
    run_halts n k new mid after why reported h s t =
        halted reported (bytes ++ part) false after
        (λ x y o. piece_halts how laws contents failed w x old bytes first lines y o part n k new mid why after reported h s t)

  module _ (summary : Summary) (mid : LineOut D A) (f : Finishes w (Takes how contents failed) old lines summary mid) where
    -- the document was read and written
    pub run_ends : length bytes ≤ most_bytes → (flushed : D → Bool) (after : LineOut D A) → SameOut mid after →
        Appends (contents mid.drain.now) (contents after.drain.now) mid.buffer.now → flushed after.drain.now ≡ true →
        RunEnds how contents failed flushed w summary reader first bytes after
    run_ends few flushed after s t sent = record {
      same = (end_read how laws contents failed w i.begun.0 old bytes first lines i.begun.1.starts.convertible put_now summary mid f few after s t).0;
      sent = sent;
      accepts = λ x y.
          subst (λ n. Accepts (conversion how w x n (output_of first.form)) bytes (contents first.drain.now) (contents after.drain.now) summary) i.limit
          (end_read how laws contents failed w x old bytes first lines y.starts.convertible (i.put x y) summary mid f few after s t).1;
    }

    -- the drain failed
    pub end_run_broke : (after : LineOut D A) → SameOut mid after →
        AppendsFront (contents mid.drain.now) (contents after.drain.now) mid.buffer.now → failed after.drain.now ≡ true →
        RunHalts how contents failed w stream.Write reader first bytes true after
    end_run_broke after s t broke = halted stream.Write bytes true after
        (λ x y o. end_broke how laws contents failed w x old bytes first lines y o summary mid f after s t broke)

  -- an error at the end
  pub end_run_halts : (n k : ℕ) (new : Driven G) (mid after : LineOut D A) (why : Reason) (reported : StreamFault) →
      FinishFails w (Takes how contents failed) (Leaves how contents failed) (λ s. failed s.drain.now) why
      (record { offset = n; line = k }) old lines new mid → SameOut mid after →
      Reports contents failed (record { reason = why; offset = n; line = k }) reported mid after →
      RunHalts how contents failed w reported reader first bytes true after
  end_run_halts n k new mid after why reported h s t = halted reported bytes true after
      (λ x y o. end_halts how laws contents failed w x old bytes first lines y o n k new mid why after reported h s t)

-- ---- text that is passed, for which the plain lines of quads in the style are written

module _ {G X D A : Type 0} (contents : D → Option (List ℕ)) (failed : D → Bool) (w : Words G X Quad) (style : Style) (reader : Driven G)
    (first : LineOut D A) (bytes : List ℕ) (old : Driven G) (lines : LineOut D A)
    (i : IsPutting of_quads contents failed w style reader first bytes old lines) (part put : List ℕ) (kept : KeepsText lines.form put) (new : Driven G)
    (p : PassesText w style put old part new) where
  -- the sink's style is the run's
  same_style : lines.form.lines.style ≡ style
  same_style = ap (λ (f : OutputView). f.lines.style) (put_now of_quads quad_lines contents failed w style reader first bytes old lines i).same.form ∙ i.styled

  -- the quads can be written in it
  given_able : Able of_quads lines.form.lines.style p.given
  given_able = able lines.form.lines.style p.given (subst (λ s. Writable s p.given) (sym same_style) p.writable)

  -- and the text is their lines in the sink's form
  their_lines : put ≡ lines_by (output_of lines.form) p.given
  their_lines = kept p.given (subst (λ s. put ≡ lines_of (plain s) p.given) (sym same_style) p.is)

  -- some text was passed, and put
  pub run_passes : (after : LineOut D A) → SameOut lines after → Writes contents lines put after → failed after.drain.now ≡ false →
      IsPutting of_quads contents failed w style reader first (bytes ++ part) new after
  run_passes after s m live = record {
    begun = i.begun;
    styled = i.styled;
    limit = p.limit ∙ i.limit;
    put = λ x y.
        let o = i.put x y in
        text_put of_quads quad_lines contents failed w x old bytes first lines y.starts.convertible o put part new p.limit p.given given_able their_lines
        (p.read x bytes o.items o.read) after s m live;
  }

  -- it was not put
  pub pass_halts : (reported : StreamFault) (after : LineOut D A) → SameOut lines after →
      PutHalts contents failed reported lines put after → RunHalts of_quads contents failed w reported reader first (bytes ++ part) false after
  pass_halts reported after s h =
      halted of_quads quad_lines contents failed w style reader first bytes old lines i reported (bytes ++ part) false after
      (λ x y o. text_halts of_quads quad_lines contents failed w x old bytes first lines y o put part new p.limit p.given given_able their_lines
      (p.read x bytes o.items o.read) reported after s h)

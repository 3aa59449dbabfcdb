-- A whole conversion, from what its run has done.
use Rattle.rdf_stream.proofs.Prelude.{◌≡◌, ℕ, Bool, true, false, List, [], ◌∷◌, ◌++◌, Option, IfSome, refl, sym, ap, subst, ◌∙◌, ⊎_elim, arith, Appends, Appends-nil, Consumes-nil, Consumes-whole, Reason, Quad, Place, place_of, Due, GoesOn, PassesNone, reading_of, EndsAtBlame, due_more, refused_in_more, Summary, Driven, in_words, StreamFault, LineOut, HaltsFor, IsConverting, RunEnds, RunHalts, Starts, Accepts, IsPrompt, RefusesDocument, StopsFor, WritesDue, WritesSome, HasGiven, Stands, IsOfDocument, IsRefusal, IsSentOn, LineForm, Style, Tagged, OutputView, line_words, tree_words, Chosen, Line, Tree, JobRead, kind_of, Conversion, ConversionOf, conversion_by, conversion_of, tree_job, Output, Writer, conversion, of_quads, output, output_of, OnlyGrows, ReadStops, ReadsAll, SourceFails, TakenBefore}
use Rattle.rdf_terms.specs.declared.reason.Reason.TheVariants as reason
use Rattle.rdf_tokens.proofs.GrammarsLemmas.{tokens_of-nil}
use Rattle.rdf_driver.specs.Words.{Words}
use Rattle.rdf_driver.proofs.PromiseLemmas.{read_goes_on}
use Rattle.rdf_stream.specs.declared.fault.StreamFault.TheVariants as stream
use Rattle.rdf_stream.specs.Converting.{Begins}
use Rattle.rdf_stream.specs.Devices.{Reading}
use Rattle.rdf_lines.specs.declared.form.Style.TheVariants.{Kept}
use Rattle.rdf_trig.specs.declared.form.DocForm.{DocForm}
use Rattle.rdf_stream.proofs.LineOutLemmas.{IsWriter}
use Rattle.rdf_stream.proofs.GrowthLemmas.{grows_none}
use Rattle.rdf_stream.proofs.PiecesLemmas.{all_given, none_given, same_front, too_long_more}

-- what was written of what is due is due with more bytes
some_more : {I : Type 0} (job : ConversionOf I) → EndsAtBlame job.language → (bytes more : List ℕ) (e : Bool) (old new : Option (List ℕ)) →
    WritesSome Appends job (reading_of job.language bytes false).tokens old new →
    WritesSome Appends job (reading_of job.language (bytes ++ more) e).tokens old new
some_more job ends bytes more e old new h =
    record { items = h.items; due = due_more job.language ends bytes more e h.items h.due; written = h.written; known = h.known }

-- what is refused stays refused, with more bytes or with all of them
refuses_more : {I : Type 0} (job : ConversionOf I) → EndsAtBlame job.language → (why : Reason) (bytes more : List ℕ) (e : Bool) (at : Place)
    (old new : Option (List ℕ)) → RefusesDocument why job bytes false at old new → RefusesDocument why job (bytes ++ more) e at old new
refuses_more job ends reason.DocumentTooLong bytes more e at old new h =
    let same = sym (same_front bytes more at h.0) in (
      too_long_more bytes more at h.0,
      subst (GoesOn job.language) same h.1,
      subst (λ b. WritesDue job (reading_of job.language b false).tokens old new) same h.2,
    )
refuses_more job ends why bytes more e at old new h = (h.0, refused_in_more job.language ends bytes more e why at h.0 h.1, h.2)

-- what is not read on is not read on with more bytes
halts_for_more : {I : Type 0} (reported : StreamFault) (job : ConversionOf I) → EndsAtBlame job.language → (bytes more : List ℕ) (old new : Option (List ℕ))
    (failed : Bool) →
    HaltsFor reported job bytes false old new failed → HaltsFor reported job (bytes ++ more) false old new failed
halts_for_more (stream.Refused f) job ends bytes more old new failed h = (h.0, refuses_more job ends f.reason bytes more false (place_of f) old new h.1)
halts_for_more stream.Read job ends bytes more old new failed h = h
halts_for_more stream.Write job ends bytes more old new failed h =
    (h.0, record { items = h.1.items; due = due_more job.language ends bytes more false h.1.items h.1.due; written = h.1.written; known = h.1.known })
halts_for_more stream.Memory job ends bytes more old new failed h = (h.0, some_more job ends bytes more false old new h.1)

-- bytes that are not read on in a run, and more
pub halts_more : {G X I D A : Type 0} (how : Writer I) (contents : D → Option (List ℕ)) (failed : D → Bool) (w : Words G X I) (reported : StreamFault)
    (reader : Driven G) (first : LineOut D A) (bytes more : List ℕ) (lines : LineOut D A) →
    RunHalts how contents failed w reported reader first bytes false lines → RunHalts how contents failed w reported reader first (bytes ++ more) false lines
halts_more how contents failed w reported reader first bytes more lines h = record {
  begun = h.begun;
  same = h.same;
  halts = λ x b.
      halts_for_more reported (conversion how w x reader.scanner.limit (output_of first.form)) (b.starts.convertible.lawful.ends x) bytes more
      (contents first.drain.now) (contents lines.drain.now) (failed lines.drain.now) (h.halts x b);
}

-- a refusal is of the document
refuses_document : {I : Type 0} (job : ConversionOf I) (why : Reason) (bytes : List ℕ) (e : Bool) (at : Place) (old new : Option (List ℕ)) →
    RefusesDocument why job bytes e at old new → IsOfDocument why
refuses_document job reason.Memory bytes e at old new h = h.1
refuses_document job reason.Sink bytes e at old new h = h.1
refuses_document job reason.Ended bytes e at old new h = h.1
refuses_document job why bytes e at old new h = tt

-- a refusal that a conversion reports is one of the document
halts_document : {I : Type 0} (reported : StreamFault) (job : ConversionOf I) (bytes : List ℕ) (e : Bool) (old new : Option (List ℕ)) (failed : Bool) →
    HaltsFor reported job bytes e old new failed → IsRefusal reported
halts_document (stream.Refused f) job bytes e old new failed h = refuses_document job f.reason bytes e (place_of f) old new h.1
halts_document stream.Read job bytes e old new failed h = tt
halts_document stream.Write job bytes e old new failed h = tt
halts_document stream.Memory job bytes e old new failed h = tt

-- why the bytes that were given are not read on is why a conversion stops
halts_stops : {I : Type 0} (reported : StreamFault) (job : ConversionOf I) → EndsAtBlame job.language →
    (known : Option (List ℕ)) (left : Reading) (old new : Option (List ℕ)) (write_failed : Bool) (given : HasGiven known left) →
    HaltsFor reported job given.bytes left.has_ended old new write_failed → StopsFor reported job known left old new write_failed
halts_stops (stream.Refused f) job ends known left old new write_failed given h = (
  h.0,
  all_given known left (λ bytes e. RefusesDocument f.reason job bytes e (place_of f) old new)
      (λ bytes more x. refuses_more job ends f.reason bytes more true (place_of f) old new x) given h.1,
  given,
  h.1,
)
halts_stops stream.Read job ends known left old new write_failed given h = absurd h
halts_stops stream.Write job ends known left old new write_failed given h = (h.0, given, h.1)
halts_stops stream.Memory job ends known left old new write_failed given h = (h.0, given, h.1)

-- what holds of a drain as it was and as it is, by other names
pub by_drains : {D : Type 0} (P : D → D → Type 0) (was is was' is' : D) → was ≡ was' → is ≡ is' → P was is → P was' is'
by_drains P was is was' is' o n h = subst (λ d. P was' d) n (subst (λ d. P d is) o h)

-- lines of this form, of which none waits, over a drain that has not failed
pub record AreFresh {D A : Type 0} (failed : D → Bool) (asked : Output) (lines : LineOut D A) (old : D) : Type 0 where
  pub form : output_of lines.form ≡ asked
  pub none_waits : lines.buffer.now ≡ []
  pub drain : lines.drain.now ≡ old
  pub live : failed old ≡ false

-- so are those over an empty buffer
pub over_empty : {D A : Type 0} (failed : D → Bool) (written : OutputView) (lines : LineOut D A) (waiting : List ℕ) (old : D) →
    lines.form ≡ written → lines.buffer.now ≡ waiting → waiting ≡ [] → lines.drain.now ≡ old → failed old ≡ false →
    AreFresh failed (output_of written) lines old
over_empty failed written lines waiting old f b e d l = record { form = ap output_of f; none_waits = b ∙ e; drain = d; live = l }

module _ {G X I D : Type 0} (A : Type 0) (how : Writer I) (laws : IsWriter how) (contents : D → Option (List ℕ)) (failed flushed : D → Bool) (w : Words G X I)
    (style : Style) where
  -- a reader, and its lines
  abbrev pub R : Type 0
  R = Driven G × LineOut D A

  abbrev pub Taken : R → List ℕ → R → Type 0
  Taken first bytes now = IsConverting how contents failed w style first.0 first.1 bytes now.0 now.1

  -- the run was stopped, and what was written was sent on; and what else is known then
  abbrev pub Halted : (StreamFault → R → List ℕ → Bool → R → Type 0) → StreamFault → R → List ℕ → Bool → R → Type 0
  Halted Beside reported first bytes e now =
      RunHalts how contents failed w reported first.0 first.1 bytes e now.1 × IsSentOn reported (flushed now.1.drain.now) × Beside reported first bytes e now

  abbrev pub Ended : Summary → R → List ℕ → R → Type 0
  Ended s first bytes now = RunEnds how contents failed flushed w s first.0 first.1 bytes now.1

  abbrev pub Stays : R → R → Type 0
  Stays first now = OnlyGrows contents first.1 now.1

  -- nothing was read or written
  pub begins : (x : X) (first : R) → Begins how failed w x first.0 first.1 → first.1.form.lines.style ≡ style → Taken first [] first
  begins x first b styled = record {
    begun = (x, b);
    styled = styled;
    limit = refl;
    few = omega arith;
    handed = λ y b. record {
      items = [];
      read = b.starts.read;
      written = subst (Appends (contents first.1.drain.now) (contents first.1.drain.now)) (sym (laws.none (output_of first.1.form)))
          (Appends-nil (contents first.1.drain.now));
      able = tt;
      none_waits = b.none_waits;
      same = record { form = refl; buffer = refl; drain = refl };
      live = b.live;
    };
  }

  -- a run over fresh lines begins
  pub begun_fresh : (x : X) (form : Output) (first : R) (old : D) → AreFresh failed form first.1 old → Starts how w x first.0 form.form.style →
      Begins how failed w x first.0 first.1
  begun_fresh x form first old f s = record {
    starts = subst (λ a. Starts how w x first.0 a.form.style) (sym f.form) s;
    none_waits = f.none_waits;
    live = ap failed f.drain ∙ f.live;
  }

  -- a run over such lines, from the drain as it was to the drain as it is
  module _ (x : X) (form : Output) (first now : R) (old new : D) (fresh : AreFresh failed form first.1 old) (is : now.1.drain.now ≡ new)
      (starts : Starts how w x first.0 form.form.style)
      (known : Option (List ℕ)) (left : Reading) where
    abbrev b : Begins how failed w x first.0 first.1
    b = begun_fresh x form first old fresh starts

    abbrev job : ConversionOf I
    job = conversion how w x first.0.scanner.limit form

    -- by the form that was asked for, and the names of the drain
    pub asked : (P : Output → D → D → Type 0) → P (output_of first.1.form) first.1.drain.now now.1.drain.now → P form old new
    asked P h = by_drains (P form) _ _ old new fresh.drain is (subst (λ f. P f first.1.drain.now now.1.drain.now) fresh.form h)

    pub converted : (s : Summary) → ReadsAll Ended known left s first now → IfSome known (λ bytes. Accepts job bytes (contents old) (contents new) s)
    converted s h =
        Consumes-whole known left.remaining h.bytes (λ bytes. Accepts job bytes (contents old) (contents new) s) h.consumed h.at_end
        (asked (λ f o n. Accepts (conversion how w x first.0.scanner.limit f) h.bytes (contents o) (contents n) s) (h.is_end.accepts x b))

    -- the lines of all items that are due in the bytes that were taken were written
    writes_taken : (bytes : List ℕ) (at : R) → Taken first bytes at →
        WritesDue job (reading_of job.language bytes false).tokens (contents first.1.drain.now) (contents at.1.drain.now)
    writes_taken bytes at t =
        let o = t.handed x b in
        let n = at.0.scanner.limit in
        subst (λ f. WritesDue (conversion how w x first.0.scanner.limit f) (reading_of job.language bytes false).tokens
        (contents first.1.drain.now) (contents at.1.drain.now)) fresh.form
        (subst (λ k. WritesDue (conversion how w x k (output_of first.1.form)) (reading_of (in_words w x k) bytes false).tokens
        (contents first.1.drain.now) (contents at.1.drain.now)) t.limit
        (record {
          items = o.items;
          due = b.starts.convertible.lawful.due at.0.grammar x (reading_of (in_words w x n) bytes false).tokens o.items o.read.reached;
          written = o.written;
          known = laws.told first.1.form o.items o.able;
        }))

    -- those that are due in the bytes before the last fill were written then
    pub prompt : TakenBefore Taken Stays known left first now → IsPrompt job known left (contents old) (contents new)
    prompt h =
        by_drains (λ o n. IsPrompt job known left (contents o) (contents n)) _ _ old new fresh.drain is
        (record {
          before = h.before;
          piece = h.piece;
          consumed = h.consumed;
          few = h.few;
          at_fill = contents h.at_fill.1.drain.now;
          writes = writes_taken h.before h.at_fill h.is_taken;
          grows = (h.stays_on h.at_fill (grows_none contents h.at_fill.1)).grows;
        })

    -- the source failed
    broke : SourceFails Taken known left first now → StopsFor stream.Read job known left (contents first.1.drain.now)
        (contents now.1.drain.now) (failed now.1.drain.now)
    broke h =
        let o = h.is_taken.handed x b in
        let law = b.starts.convertible.lawful in (
          o.live,
          h.broken,
          record {
            bytes = h.bytes;
            consumed = h.consumed;
            goes_on = subst (λ k. GoesOn (in_words w x k) h.bytes) h.is_taken.limit (read_goes_on w law now.0 x h.bytes o.items o.read);
            writes = writes_taken h.bytes now h.is_taken;
          },
        )

    pub stopped : (Beside : StreamFault → R → List ℕ → Bool → R → Type 0) (reported : StreamFault) →
        ReadStops Taken (Halted Beside) reported known left first now →
        StopsFor reported job known left (contents old) (contents new) (failed new)
    stopped Beside reported h =
        by_drains (λ o n. StopsFor reported job known left (contents o) (contents n) (failed n)) _ _ old new fresh.drain is
        (⊎_elim (λ p. subst (λ t. StopsFor t job known left (contents first.1.drain.now) (contents now.1.drain.now)
        (failed now.1.drain.now)) (sym p.0) (broke p.1))
        (λ p.
        halts_stops reported job (b.starts.convertible.lawful.ends x) known left (contents first.1.drain.now) (contents now.1.drain.now)
        (failed now.1.drain.now) p.0
        (subst (λ f. HaltsFor reported (conversion how w x first.0.scanner.limit f) p.0.bytes left.has_ended (contents first.1.drain.now)
        (contents now.1.drain.now) (failed now.1.drain.now)) fresh.form (p.1.0.halts x b)))
        h)

    pub refused_document : (Beside : StreamFault → R → List ℕ → Bool → R → Type 0) (reported : StreamFault) →
        ReadStops Taken (Halted Beside) reported known left first now → IsRefusal reported
    refused_document Beside reported h =
        ⊎_elim (λ p. subst IsRefusal (sym p.0) tt)
        (λ p.
        halts_document reported (conversion how w x first.0.scanner.limit (output_of first.1.form)) p.0.bytes left.has_ended
        (contents first.1.drain.now) (contents now.1.drain.now) (failed now.1.drain.now)
        (p.1.0.halts x b)) h

    -- what was written before a refusal was flushed
    pub sent_on : (Beside : StreamFault → R → List ℕ → Bool → R → Type 0) (reported : StreamFault) →
        ReadStops Taken (Halted Beside) reported known left first now → IsSentOn reported (flushed new)
    sent_on Beside reported h =
        by_drains (λ o n. IsSentOn reported (flushed n)) _ _ old new fresh.drain is
        (⊎_elim (λ p. subst (λ t. IsSentOn t (flushed now.1.drain.now)) (sym p.0) tt) (λ p. p.1.1) h)

-- what else is known of a conversion that was stopped: how its reader stands
abbrev pub Stood : {G X D A : Type 0} → (D → Bool) → Words G X Quad → StreamFault → Driven G × LineOut D A → List ℕ → Bool → Driven G × LineOut D A → Type 0
Stood failed w reported first bytes e now = Stands w (λ x. Begins of_quads failed w x first.0 first.1) first.0.scanner.limit reported bytes e now.0

-- ---- by the job

-- what holds of a line format with these limits holds of the job that asks for them
pub lines_job : (P : Conversion → Type 0) (job : JobRead) (form : LineForm) → kind_of job.form ≡ Line form → (iri : ℕ) →
    iri ≡ job.limits.iri → (n : ℕ) → n ≡ job.limits.token → (f : Output) → f ≡ output Kept job →
    P (conversion of_quads line_words (record { form = form; iri = iri }) n f) → P (conversion_of job)
lines_job P job form k iri i n l f e h =
    subst (λ y. P (conversion_by y job)) (sym k)
    (subst (λ y. P (conversion of_quads line_words (record { form = form; iri = job.limits.iri }) job.limits.token y)) e
    (subst (λ m. P (conversion of_quads line_words (record { form = form; iri = job.limits.iri }) m f)) l
    (subst (λ m. P (conversion of_quads line_words (record { form = form; iri = m }) n f)) i h)))

-- the same of Turtle and TriG
pub trees_job : (P : Conversion → Type 0) (job : JobRead) (form : DocForm) → kind_of job.form ≡ Tree form → (x : Chosen) →
    x ≡ tree_job form job → (n : ℕ) → n ≡ x.start.limits.token → (f : Output) → f ≡ output Tagged job →
    P (conversion of_quads tree_words x n f) → P (conversion_of job)
trees_job P job form k x i n l f e h =
    subst (λ y. P (conversion_by y job)) (sym k)
    (subst (λ y. P (conversion of_quads tree_words (tree_job form job) job.limits.token y)) e
    (subst (λ y. P (conversion of_quads tree_words y y.start.limits.token f)) i (subst (λ m. P (conversion of_quads tree_words x m f)) l h)))

-- ---- before the first byte

-- nothing is due of a reader that has read nothing
pub none_due : {G X I : Type 0} (how : Writer I) (w : Words G X I) (x : X) (reader : Driven G) (style : Style) → Starts how w x reader style →
    Due (w.documents x) [] []
none_due how w x reader style b = subst (λ ts. Due (w.documents x) ts []) (ap (λ r. r.tokens) (tokens_of-nil w.dialect reader.scanner.limit))
    (b.convertible.lawful.due reader.grammar x (reading_of (in_words w x reader.scanner.limit) [] false).tokens [] b.read.reached)

module _ {I : Type 0} (job : ConversionOf I) (none : job.lines [] ≡ []) (known : job.known []) (due : Due job.language.documents [] []) where
  -- no line was written
  no_lines : (old : Option (List ℕ)) → Appends old old (job.lines [])
  no_lines old = subst (Appends old old) (sym none) (Appends-nil old)

  -- the source was never asked for bytes
  pub none_prompt : (left : Reading) (old : Option (List ℕ)) → IsPrompt job left.remaining left old old
  none_prompt left old = record {
    before = [];
    piece = [];
    consumed = Consumes-nil left.remaining;
    few = omega arith;
    at_fill = old;
    writes = record {
      items = [];
      due = subst (λ ts. Due job.language.documents ts []) (sym (ap (λ r. r.tokens) (tokens_of-nil job.language.dialect job.language.limit))) due;
      written = no_lines old;
      known = known;
    };
    grows = record { more = []; added = Appends-nil old };
  }

  -- there was no memory to begin with
  pub none_stops : (left : Reading) (old : Option (List ℕ)) (write_failed : Bool) → left.has_ended ≡ false → left.has_failed ≡ false → write_failed ≡ false →
      StopsFor stream.Memory job left.remaining left old old write_failed
  none_stops left old write_failed o r f = (
    f,
    none_given left o r,
    record {
      items = [];
      due = record {
        ahead = [];
        after = (reading_of job.language [] left.has_ended).tokens;
        tokens = refl;
        kept = none_passes;
        rest = [];
        due = due;
      };
      written = no_lines old;
      known = known;
    },
  )
    where
      none_passes : PassesNone job.language.passes []
      none_passes [] after t e p = let z : [] ≡ t ∷ after = e in cc
      none_passes (u ∷ us) after t e p = let z : [] ≡ u ∷ (us ++ t ∷ after) = e in cc

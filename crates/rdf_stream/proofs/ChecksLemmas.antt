-- A whole check, from what its run has done.
use Rattle.rdf_stream.proofs.Prelude.{◌≡◌, ◌≤◌, ℕ, ◌+◌, Bool, true, false, List, [], ◌++◌, length, take, Option, IfSome, refl, sym, ap, subst, ⊎_elim, ◌∙◌, arith, length-append, false≢true, Consumes-whole, Reason, Quad, Place, most_bytes, place_of, GoesOn, Language, EndsAtBlame, refused_in_more, Summary, Driven, FeedFails, FinishFails, Finishes, HasRead, in_words, StreamFault, CheckStops, IsRefusedFor, IsAccepted, BeginsToRead, CheckEnds, CheckHalts, ChecksNoMore, HasChecked, IsChecking, HasGiven, Stands, IsOfDocument, IsRefusal, fault_by, ReadStops, ReadsAll, SourceFails}
use Rattle.rdf_terms.specs.declared.reason.Reason.TheVariants as reason
use Rattle.rdf_driver.specs.Words.{Words}
use Rattle.rdf_driver.proofs.PromiseLemmas.{read_goes_on}
use Rattle.rdf_stream.specs.declared.checks.NoQuads.{NoQuads}
use Rattle.rdf_stream.specs.declared.fault.StreamFault.TheVariants as stream
use Rattle.rdf_stream.specs.Devices.{Reading}
use Rattle.rdf_stream.proofs.PiecesLemmas.{all_given, same_front, too_long_more}

-- a sink that only counts stays as it is
abbrev pub TakesNone : NoQuads → Quad → NoQuads → Type 0
TakesNone before q after = after ≡ before

module _ {G X : Type 0} (w : Words G X Quad) (first old : Driven G) (bytes : List ℕ) (i : IsChecking w first bytes old) where
  -- what a setting brings to what was read
  at_limit : (P : ℕ → Type 0) → P old.scanner.limit → P first.scanner.limit
  at_limit P h = subst P i.limit h

  module _ (piece : List ℕ) where
    -- an error in a piece
    pub piece_halts : (new : Driven G) (before after : NoQuads) (why : Reason) (n k : ℕ) →
        FeedFails w TakesNone TakesNone (λ _. false) why (record { offset = n; line = k }) old before piece new after →
        CheckHalts w (fault_by why (record { reason = why; offset = n; line = k })) first (bytes ++ piece) false
    piece_halts new before after why n k h = record { begun = i.begun; halts = λ x b. let (quads, r) = i.read x b in by x quads r why h }
      where
        by : (x : X) (quads : List Quad) → HasRead w old x bytes quads → (why : Reason) →
            FeedFails w TakesNone TakesNone (λ _. false) why (record { offset = n; line = k }) old before piece new after →
            ChecksNoMore (fault_by why (record { reason = why; offset = n; line = k })) (in_words w x first.scanner.limit) (bytes ++ piece) false
        by x quads r reason.Ended h = absurd (false≢true (sym r.running ∙ h.0))
        by x quads r reason.Memory h = tt
        by x quads r reason.Sink h = absurd (false≢true h.1)
        by x quads r reason.DocumentTooLong h =
            let f = h.full x bytes quads r in (f.too_long, at_limit (λ m. GoesOn (in_words w x m) (take most_bytes (bytes ++ piece))) f.goes_on)
        by x quads r why h =
            let z = h.refused x bytes quads r in
            at_limit (λ m. IsRefusedFor why (in_words w x m) (bytes ++ piece) false (record { offset = n; line = k })) (z.0, z.1)

  -- the document was read
  pub end_read : length bytes ≤ most_bytes → (before after : NoQuads) (s : Summary) → Finishes w TakesNone old before s after → CheckEnds w s first bytes
  end_read few before after s f = λ x b.
      let (quads, h) = i.read x b in
      let sums = f.read x bytes quads h in
      at_limit (λ m. IsAccepted (in_words w x m) bytes s) (record {
        quads = quads ++ f.more;
        document = sums.document;
        within = sums.whole;
        size = few;
        counts = record { quads = sums.given; tokens = sums.accepted; bytes = sums.taken };
      })

  -- an error at the end
  pub end_halts : (new : Driven G) (before after : NoQuads) (why : Reason) (n k : ℕ) →
      FinishFails w TakesNone TakesNone (λ _. false) why (record { offset = n; line = k }) old before new after →
      CheckHalts w (fault_by why (record { reason = why; offset = n; line = k })) first bytes true
  end_halts new before after why n k h = record { begun = i.begun; halts = λ x b. let (quads, r) = i.read x b in by x quads r why h }
    where
      by : (x : X) (quads : List Quad) → HasRead w old x bytes quads → (why : Reason) →
          FinishFails w TakesNone TakesNone (λ _. false) why (record { offset = n; line = k }) old before new after →
          ChecksNoMore (fault_by why (record { reason = why; offset = n; line = k })) (in_words w x first.scanner.limit) bytes true
      by x quads r reason.Ended h = absurd (false≢true (sym r.running ∙ h.0))
      by x quads r reason.Memory h = tt
      by x quads r reason.Sink h = absurd (false≢true h.1)
      by x quads r reason.DocumentTooLong h = absurd (h.refused x bytes quads r).1
      by x quads r why h =
          let z = h.refused x bytes quads r in at_limit (λ m. IsRefusedFor why (in_words w x m) bytes true (record { offset = n; line = k })) (z.0, z.1)

-- what is refused stays refused, with more bytes or with all of them
refused_more : (l : Language) → EndsAtBlame l → (why : Reason) (bytes more : List ℕ) (e : Bool) (at : Place) →
    IsRefusedFor why l bytes false at → IsRefusedFor why l (bytes ++ more) e at
refused_more l ends reason.DocumentTooLong bytes more e at h = (too_long_more bytes more at h.0, subst (GoesOn l) (sym (same_front bytes more at h.0)) h.1)
refused_more l ends why bytes more e at h = (h.0, refused_in_more l ends bytes more e why at h.0 h.1)

-- what is not read on is not read on with more bytes
checks_no_more : (reported : StreamFault) (l : Language) → EndsAtBlame l → (bytes more : List ℕ) → ChecksNoMore reported l bytes false →
    ChecksNoMore reported l (bytes ++ more) false
checks_no_more (stream.Refused f) l ends bytes more h = refused_more l ends f.reason bytes more false (place_of f) h
checks_no_more stream.Read l ends bytes more h = h
checks_no_more stream.Write l ends bytes more h = h
checks_no_more stream.Memory l ends bytes more h = tt

-- a refusal is of the document
refused_of_document : (l : Language) (why : Reason) (bytes : List ℕ) (e : Bool) (at : Place) → IsRefusedFor why l bytes e at → IsOfDocument why
refused_of_document l reason.Memory bytes e at h = h.1
refused_of_document l reason.Sink bytes e at h = h.1
refused_of_document l reason.Ended bytes e at h = h.1
refused_of_document l why bytes e at h = tt

-- a refusal that a check reports is one of the document
halts_of_document : (reported : StreamFault) (l : Language) (bytes : List ℕ) (e : Bool) → ChecksNoMore reported l bytes e → IsRefusal reported
halts_of_document (stream.Refused f) l bytes e h = refused_of_document l f.reason bytes e (place_of f) h
halts_of_document stream.Read l bytes e h = tt
halts_of_document stream.Write l bytes e h = tt
halts_of_document stream.Memory l bytes e h = tt

-- why the bytes that were given are not read on is why a check stops
halts_stops : (reported : StreamFault) (l : Language) → EndsAtBlame l → (known : Option (List ℕ)) (left : Reading) (given : HasGiven known left) →
    ChecksNoMore reported l given.bytes left.has_ended → CheckStops reported l known left
halts_stops (stream.Refused f) l ends known left given h = (
  all_given known left (λ bytes e. IsRefusedFor f.reason l bytes e (place_of f))
      (λ bytes more x. refused_more l ends f.reason bytes more true (place_of f) x) given h,
  given,
  h,
)
halts_stops stream.Read l ends known left given h = absurd h
halts_stops stream.Write l ends known left given h = absurd h
halts_stops stream.Memory l ends known left given h = given

-- the bytes that are not read on, and more
pub halts_more : {G X : Type 0} (w : Words G X Quad) (reported : StreamFault) (first : Driven G) (bytes more : List ℕ) →
    CheckHalts w reported first bytes false → CheckHalts w reported first (bytes ++ more) false
halts_more w reported first bytes more h = record {
  begun = h.begun;
  halts = λ x b. checks_no_more reported (in_words w x first.scanner.limit) (b.lawful.ends x) bytes more (h.halts x b);
}

-- so are they, and no more than a document has
pub few_read : {G X : Type 0} (w : Words G X Quad) (first new : Driven G) (bytes : List ℕ) → IsChecking w first bytes new →
    new.so_far.bytes ≤ most_bytes → HasChecked w first bytes new
few_read w first new bytes j few =
    let (x, b) = j.begun in
    let counts : new.so_far.bytes ≡ length bytes = ap (λ (s : Summary). s.bytes) (j.read x b).1.so_far in (j, subst (λ n. n ≤ most_bytes) counts few)

-- the bytes are counted
pub counted : {G X : Type 0} (w : Words G X Quad) (first old new : Driven G) (bytes piece : List ℕ) → IsChecking w first bytes old →
    IsChecking w first (bytes ++ piece) new → new.so_far.bytes ≡ old.so_far.bytes + length piece
counted w first old new bytes piece i j =
    let (x, b) = i.begun in
    let before : old.so_far.bytes ≡ length bytes = ap (λ (s : Summary). s.bytes) (i.read x b).1.so_far in
    let after : new.so_far.bytes ≡ length (bytes ++ piece) = ap (λ (s : Summary). s.bytes) (j.read x b).1.so_far in
    after ∙ (length-append bytes piece ∙ ap (λ n. n + length piece) (sym before))

module _ {G X : Type 0} (w : Words G X Quad) where
  -- a reader, and its sink
  abbrev pub R : Type 0
  R = Driven G × NoQuads

  abbrev pub Taken : R → List ℕ → R → Type 0
  Taken first bytes now = HasChecked w first.0 bytes now.0

  abbrev pub Halted : StreamFault → R → List ℕ → Bool → R → Type 0
  Halted reported first bytes e now =
      CheckHalts w reported first.0 bytes e × Stands w (λ x. BeginsToRead w x first.0) first.0.scanner.limit reported bytes e now.0

  abbrev pub Ended : Summary → R → List ℕ → R → Type 0
  Ended s first bytes now = CheckEnds w s first.0 bytes

  -- nothing was read
  pub begins : (x : X) (first : R) → BeginsToRead w x first.0 → Taken first [] first
  begins x first b = (record { begun = (x, b); limit = refl; read = λ y b. ([], b.read) }, omega arith)

  module _ (x : X) (limit : ℕ) (first now : R) (same_limit : first.0.scanner.limit ≡ limit) (b : BeginsToRead w x first.0)
      (known : Option (List ℕ)) (left : Reading) where
    -- a run that read to the end has accepted the document, as `check` promises
    pub checked : (s : Summary) → ReadsAll Ended known left s first now → IfSome known (λ bytes. IsAccepted (in_words w x limit) bytes s)
    checked s h =
        Consumes-whole known left.remaining h.bytes (λ bytes. IsAccepted (in_words w x limit) bytes s) h.consumed h.at_end
        (subst (λ n. IsAccepted (in_words w x n) h.bytes s) same_limit (h.is_end x b))

    -- where the source failed, what was read before it may begin a document
    broke : SourceFails Taken known left first now → CheckStops stream.Read (in_words w x limit) known left
    broke h =
        let (quads, r) = h.is_taken.0.read x b in
        let goes_on = read_goes_on w b.lawful now.0 x h.bytes quads r in (
          h.broken,
          h.bytes,
          h.consumed,
          subst (λ n. GoesOn (in_words w x n) h.bytes) same_limit (subst (λ n. GoesOn (in_words w x n) h.bytes) h.is_taken.0.limit goes_on),
        )

    -- each other end is a failed source, or the reader's refusal at its place
    pub stopped : (reported : StreamFault) → ReadStops Taken Halted reported known left first now → CheckStops reported (in_words w x limit) known left
    stopped reported h =
        ⊎_elim (λ p. subst (λ t. CheckStops t (in_words w x limit) known left) (sym p.0) (broke p.1))
        (λ p.
        halts_stops reported (in_words w x limit) (b.lawful.ends x) known left p.0
        (subst (λ n. ChecksNoMore reported (in_words w x n) p.0.bytes left.has_ended) same_limit (p.1.0.halts x b)))
        h

    -- an error of a run is one that `check` may report, and none of a drain
    pub refused_document : (reported : StreamFault) → ReadStops Taken Halted reported known left first now → IsRefusal reported
    refused_document reported h =
        ⊎_elim (λ p. subst IsRefusal (sym p.0) tt)
        (λ p. halts_of_document reported (in_words w x first.0.scanner.limit) p.0.bytes left.has_ended (p.1.0.halts x b)) h

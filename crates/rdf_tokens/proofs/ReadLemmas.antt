-- How reading goes on.
use Rattle.rdf_tokens.proofs.Prelude.{◌+◌, ◌≡◌, ℕ, ◌<◌, ◌≤◌, min, Bool, true, false, cond, List, [], ◌∷◌, ◌++◌, ◌||◌, ◌==◌, inl, inr, refl, sym, ap, ◌∙◌, subst, append_assoc, is_some, length, take, drop, arith, length-take-le, append-nil, take-append-drop, cond-true, cond-false, nat_tests, chars-nil, chars, utf8_valid_len, utf8_error_len, Token, Reading, is_empty, with_tokens, ended, broken, Dialect, first_place, good, tail_of, tokens_at, tokens_of, all_bytes, Unread, most_bytes, reading_by, Reads, HasScanned, PassesBlank, SameButHeld, SameScan, IsOpen, TakesBytes, unread_bytes, most_unread, fitting, at_once, beyond, BeginsChar, good_bytes, rest_of_bytes, is_broken, lengthened, grown, tail_now, moved, Moves}
use Rattle.rdf_tokens.specs.Tokens.Tail.{goes_on}
use Rattle.rdf_tokens.specs.Scans.{reading_of}
use Rattle.rdf_tokens.specs.Moves.{counted}
use Rattle.rdf_tokens.proofs.GoodLemmas.{good_front}
use Rattle.rdf_tokens.proofs.PlaceLemmas.{end_of-append}
use Rattle.rdf_tokens.proofs.PastGood.{good_past, tail_past, good_broken, still_broken, tail_broken}

-- what is read where nothing comes after the pending bytes
pending_good : (p : List ℕ) → BeginsChar p → good (p ++ []) ≡ []
pending_good p b = ap good (append-nil p) ∙ (ap (λ n. chars (take n p)) b.none_whole ∙ chars-nil)

-- bytes that begin a character leave the text open, and are bad where no more come
tail_of-begins : (p : List ℕ) (e : Bool) → BeginsChar p → tail_of p e ≡ cond e (cond (is_empty p) ended broken) goes_on
tail_of-begins p e b =
    ap (λ n. cond (n == length p) (cond e ended goes_on) (cond (e || is_some (utf8_error_len (drop n p))) broken goes_on)) b.none_whole
    ∙ (ap (λ o. cond (0 == length p) (cond e ended goes_on) (cond (e || is_some o) broken goes_on)) b.may_come ∙ by_bytes p e)
  where
    by_bytes : (p : List ℕ) (e : Bool) →
        cond (0 == length p) (cond e ended goes_on) (cond (e || false) broken goes_on) ≡ cond e (cond (is_empty p) ended broken) goes_on
    by_bytes [] true = refl
    by_bytes [] false = refl
    by_bytes (c ∷ w) true = let n : (0 == length (c ∷ w)) ≡ false = grind (arith, nat_tests) in ap (λ b. cond b ended broken) n
    by_bytes (c ∷ w) false = let n : (0 == length (c ∷ w)) ≡ false = grind (arith, nat_tests) in ap (λ b. cond b goes_on goes_on) n

-- bytes that begin a character, with nothing appended, leave the text open until the end is told
pub tail_of-pending : (p : List ℕ) (e : Bool) → BeginsChar p → tail_of (p ++ []) e ≡ cond e (cond (is_empty p) ended broken) goes_on
tail_of-pending p e b = ap (λ x. tail_of x e) (append-nil p) ∙ tail_of-begins p e b

-- the reading of the text with what is known to come
pub reading_known : (v : Unread) (e : Bool) → BeginsChar v.pending → v.ended ≡ e →
    reading_of v [] e ≡ tokens_at v.dialect v.limit (tail_now v) v.begun v.comment v.place v.text
reading_known v e b h = by_broken v.broken refl
  where
    by_broken : (k : Bool) → v.broken ≡ k → reading_by k v [] e ≡ tokens_at v.dialect v.limit (tail_now v) v.begun v.comment v.place v.text
    by_broken true x =
        let t : tail_now v ≡ broken = cond-true _ _ _ x in
        ap (λ t. tokens_at v.dialect v.limit t v.begun v.comment v.place v.text) (sym t)
    by_broken false x =
        let t : tail_now v ≡ cond e (cond (is_empty v.pending) ended broken) goes_on =
        cond-false _ _ _ x ∙ ap (λ e. cond e (cond (is_empty v.pending) ended broken) goes_on) h in
        ap (λ t. tokens_at v.dialect v.limit t v.begun v.comment v.place (v.text ++ good (v.pending ++ []))) (tail_of-pending v.pending e b ∙ sym t)
        ∙ ap (λ w. tokens_at v.dialect v.limit (tail_now v) v.begun v.comment v.place w) (ap (λ w. v.text ++ w) (pending_good v.pending b) ∙ append-nil v.text)

-- what is read now
pub read_now : (v : Unread) (bytes : List ℕ) (ts : List Token) → v.stopped ≡ false → BeginsChar v.pending → HasScanned v bytes ts →
    tokens_of v.dialect v.limit bytes v.ended ≡ with_tokens ts (tokens_at v.dialect v.limit (tail_now v) v.begun v.comment v.place v.text)
read_now v bytes ts s b r =
    by_end v.ended refl (subst (λ s. Reads s v.ended v bytes ts) s r.reads)
  where
    by_end : (e : Bool) → v.ended ≡ e → Reads false e v bytes ts →
        tokens_of v.dialect v.limit bytes e ≡ with_tokens ts (tokens_at v.dialect v.limit (tail_now v) v.begun v.comment v.place v.text)
    by_end true h r = r ∙ ap (with_tokens ts) (reading_known v true b h)
    by_end false h r =
        ap (λ x. tokens_of v.dialect v.limit x false) (sym (append-nil bytes)) ∙ (r [] false ∙ ap (with_tokens ts) (reading_known v false b h))

-- tokens before a reading, in two lists or in one
with_both : (ts us : List Token) (r : Reading) → with_tokens ts (with_tokens us r) ≡ with_tokens (ts ++ us) r
with_both ts us r = ap (λ x. record { tokens = x; outcome = r.outcome; at = r.at }) (sym (append_assoc ts us r.tokens))

-- tokens are read
pub read_on : (v w : Unread) (bytes : List ℕ) (ts us : List Token) → v.stopped ≡ false → BeginsChar v.pending → Moves v us w →
    HasScanned v bytes ts → HasScanned w bytes (ts ++ us)
read_on v w bytes ts us s b m r =
    subst (λ w. HasScanned w bytes (ts ++ us)) (sym m.same) (record { taken = r.taken; reads = by_stop v.stopped s r.reads })
  where
    new : Unread
    new = moved v w.place w.begun w.comment w.text

    -- the same where only what is known may come
    known : (e : Bool) → v.ended ≡ e → reading_of v [] e ≡ with_tokens us (reading_of new [] e)
    known e h =
        reading_known v e b h
        ∙ (ap (λ x. tokens_at v.dialect v.limit (tail_now v) v.begun v.comment v.place x) (sym (append-nil v.text))
        ∙ (m.on (tail_now v) [] (inl (refl, refl))
        ∙ (ap (λ x. with_tokens us (tokens_at v.dialect v.limit (tail_now v) w.begun w.comment w.place x)) (append-nil w.text)
        ∙ ap (with_tokens us) (sym (reading_known new e b h)))))

    comes : (k : Bool) → v.broken ≡ k → v.ended ≡ false → (more : List ℕ) (e : Bool) → reading_by k v more e ≡ with_tokens us (reading_by k new more e)
    comes false x h more e = m.on (tail_of (v.pending ++ more) e) (good (v.pending ++ more)) (inr (x, h))
    comes true x h more e = subst (λ k. reading_by k v [] false ≡ with_tokens us (reading_by k new [] false)) x (known false h)

    by_stop : (s : Bool) → s ≡ false → Reads s v.ended v bytes ts → Reads s v.ended new bytes (ts ++ us)
    by_stop true x r = absurd (let h : true ≡ false = x in cc)
    by_stop false x r = by_end v.ended refl r
      where
        by_end : (e : Bool) → v.ended ≡ e → Reads false e v bytes ts → Reads false e new bytes (ts ++ us)
        by_end true h r = r ∙ (ap (with_tokens ts) (known true h) ∙ with_both ts us _)
        by_end false h r = λ more e. r more e ∙ (ap (with_tokens ts) (comes v.broken refl h more e) ∙ with_both ts us _)

-- what is held of the text that was read is not looked at
pub scanned_same : (v : Unread) (n : ℕ) (bytes : List ℕ) (ts : List Token) → HasScanned v bytes ts → HasScanned (record v { held = n }) bytes ts
scanned_same v n bytes ts r = record { taken = r.taken; reads = by v.stopped v.ended r.reads }
  where
    now : (k : Bool) (more : List ℕ) (e : Bool) → reading_by k v more e ≡ reading_by k (record v { held = n }) more e
    now true more e = refl
    now false more e = refl

    by : (s e : Bool) → Reads s e v bytes ts → Reads s e (record v { held = n }) bytes ts
    by true e r = r
    by false true r = r ∙ ap (with_tokens ts) (now v.broken [] true)
    by false false r = λ more e. r more e ∙ ap (with_tokens ts) (now v.broken more e)

-- where nothing else changes, nothing of what is to be read does
pub passes_same : (old new : Unread) → SameButHeld old new → PassesBlank old new
passes_same old new is =
    subst (PassesBlank old) (sym is)
    (record { same = record { dialect = refl; limit = refl }; ended = refl; stopped = refl; less = omega arith; read = scanned_same old new.held })

-- a piece comes
pub read_push : (v : Unread) (bytes piece : List ℕ) (ts : List Token) → v.stopped ≡ false → v.ended ≡ false → HasScanned v bytes ts →
    HasScanned (grown v piece) (bytes ++ piece) ts
read_push v bytes piece ts s n r = by_broken v.broken refl
  where
    all : List ℕ
    all = v.pending ++ piece

    more_all : (more : List ℕ) → v.pending ++ (piece ++ more) ≡ all ++ more
    more_all more = sym (append_assoc v.pending piece more)

    cut : (more : List ℕ) → all ++ more ≡ good_bytes all ++ (rest_of_bytes all ++ more)
    cut more = ap (λ x. x ++ more) (sym (take-append-drop (utf8_valid_len all) all)) ∙ append_assoc (good_bytes all) (rest_of_bytes all) more

    counts : (k : Bool) → k ≡ true → (more : List ℕ) (e : Bool) → reading_by k v (piece ++ more) e ≡ reading_by k (counted v piece) more e
    counts true x more e = refl
    counts false x more e = absurd (let h : true ≡ false = sym x in cc)

    grows : (k : Bool) → k ≡ false → (more : List ℕ) (e : Bool) → reading_by k v (piece ++ more) e ≡ reading_by (is_broken all) (lengthened v piece) more e
    grows true x more e = absurd (let h : true ≡ false = x in cc)
    grows false x more e = at (is_broken all) refl
      where
        at : (b : Bool) → is_broken all ≡ b → reading_by false v (piece ++ more) e ≡ reading_by b (lengthened v piece) more e
        at true bad =
            ap (λ x. tokens_at v.dialect v.limit (tail_of x e) v.begun v.comment v.place (v.text ++ good x)) (more_all more)
            ∙ (ap (λ x. tokens_at v.dialect v.limit x v.begun v.comment v.place (v.text ++ good (all ++ more)))
            (tail_broken (all ++ more) e (still_broken all more bad))
            ∙ ap (λ x. tokens_at v.dialect v.limit broken v.begun v.comment v.place (v.text ++ x)) (good_broken all more bad))
        at false well =
            let y = rest_of_bytes all ++ more in
            let p : cond (is_broken all) [] (rest_of_bytes all) ≡ rest_of_bytes all = cond-false _ _ _ well in
            ap (λ x. tokens_at v.dialect v.limit (tail_of x e) v.begun v.comment v.place (v.text ++ good x)) (more_all more ∙ cut more)
            ∙ (ap (λ x. tokens_at v.dialect v.limit x v.begun v.comment v.place (v.text ++ good (good_bytes all ++ y)))
            (tail_past (good_bytes all) y (good_front all) e)
            ∙ (ap (λ x. tokens_at v.dialect v.limit (tail_of y e) v.begun v.comment v.place (v.text ++ x)) (good_past (good_bytes all) y (good_front all))
            ∙ (ap (tokens_at v.dialect v.limit (tail_of y e) v.begun v.comment v.place) (sym (append_assoc v.text (good all) (good y)))
            ∙ ap (λ x. tokens_at v.dialect v.limit (tail_of (x ++ more) e) v.begun v.comment v.place (v.text ++ good all ++ good (x ++ more))) (sym p))))

    reads : (w : Unread) → w.dialect ≡ v.dialect → w.limit ≡ v.limit → w.stopped ≡ v.stopped → w.ended ≡ v.ended →
        ((more : List ℕ) (e : Bool) → reading_of v (piece ++ more) e ≡ reading_of w more e) → Reads w.stopped w.ended w (bytes ++ piece) ts
    reads w d l s' n' h = by_stop v.stopped v.ended w.stopped w.ended s n (s' ∙ s) (n' ∙ n) r.reads
      where
        by_stop : (s e s' e' : Bool) → s ≡ false → e ≡ false → s' ≡ false → e' ≡ false → Reads s e v bytes ts → Reads s' e' w (bytes ++ piece) ts
        by_stop true e s' e' x y x' y' r = absurd (let h : true ≡ false = x in cc)
        by_stop false true s' e' x y x' y' r = absurd (let h : true ≡ false = y in cc)
        by_stop false false true e' x y x' y' r = absurd (let h : true ≡ false = x' in cc)
        by_stop false false false true x y x' y' r = absurd (let h : true ≡ false = y' in cc)
        by_stop false false false false x y x' y' r = λ more e.
            ap (λ d. tokens_of d w.limit (bytes ++ piece ++ more) e) d
            ∙ (ap (λ l. tokens_of v.dialect l (bytes ++ piece ++ more) e) l
            ∙ (ap (λ b. tokens_of v.dialect v.limit b e) (append_assoc bytes piece more)
            ∙ (r (piece ++ more) e ∙ ap (with_tokens ts) (h more e))))

    has_read : (w : Unread) → w.taken ≡ beyond v.taken piece → Reads w.stopped w.ended w (bytes ++ piece) ts → HasScanned w (bytes ++ piece) ts
    has_read w t h = record { taken = t ∙ (ap (λ p. beyond p piece) r.taken ∙ end_of-append bytes piece); reads = h }

    by_broken : (k : Bool) → v.broken ≡ k → HasScanned (grown v piece) (bytes ++ piece) ts
    by_broken true x =
        subst (λ w. HasScanned w (bytes ++ piece) ts) (sym (cond-true v.broken (counted v piece) (lengthened v piece) x))
        (has_read (counted v piece) refl (reads (counted v piece) refl refl refl refl (counts v.broken x)))
    by_broken false x =
        subst (λ w. HasScanned w (bytes ++ piece) ts) (sym (cond-false v.broken (counted v piece) (lengthened v piece) x))
        (has_read (lengthened v piece) refl (reads (lengthened v piece) refl refl refl refl (grows v.broken x)))

-- what a scanner has read where bytes were taken
pub takes_bytes : (old new : Unread) (piece : List ℕ) (n : ℕ) → old.stopped ≡ false → old.ended ≡ false → n ≤ length piece →
    n ≡ fitting old (min (length piece) (at_once old.limit)) →
    (unread_bytes old < most_unread old.limit → 0 < length piece → 0 < n) → old.taken.offset + n ≤ most_bytes →
    SameButHeld (grown old (take n piece)) new → TakesBytes old piece n new
takes_bytes old new piece n s e within count progress most is =
    subst (TakesBytes old piece n) (sym is) (takes_same (by_broken old.broken refl))
  where
    takes_same : TakesBytes old piece n (grown old (take n piece)) → TakesBytes old piece n (record (grown old (take n piece)) { held = new.held })
    takes_same t = record {
      same = record { dialect = t.same.dialect; limit = t.same.limit };
      before = t.before;
      after = record { running = t.after.running; more = t.after.more };
      within = t.within;
      count = t.count;
      progress = t.progress;
      most = t.most;
      read = λ bytes ts r. scanned_same _ new.held (bytes ++ take n piece) ts (t.read bytes ts r);
    }

    size : old.taken.offset + length (take n piece) ≤ most_bytes
    size = let l = length-take-le n piece within in omega arith

    taken : (w : Unread) → SameScan old w → IsOpen w → w.taken.offset ≤ most_bytes → w ≡ grown old (take n piece) → TakesBytes old piece n w
    taken w same after most is = record {
      same = same;
      before = record { running = s; more = e };
      after = after;
      within = within;
      count = count;
      progress = progress;
      most = most;
      read = λ bytes ts r. subst (λ w. HasScanned w (bytes ++ take n piece) ts) (sym is) (read_push old bytes (take n piece) ts s e r);
    }

    by_broken : (k : Bool) → old.broken ≡ k → TakesBytes old piece n (grown old (take n piece))
    by_broken true x =
        let c : cond old.broken (counted old (take n piece)) (lengthened old (take n piece)) ≡ counted old (take n piece) = cond-true _ _ _ x in
        subst (TakesBytes old piece n) (sym c)
        (taken (counted old (take n piece)) (record { dialect = refl; limit = refl }) (record { running = s; more = e }) size (sym c))
    by_broken false x =
        let c : cond old.broken (counted old (take n piece)) (lengthened old (take n piece)) ≡ lengthened old (take n piece) = cond-false _ _ _ x in
        subst (TakesBytes old piece n) (sym c)
        (taken (lengthened old (take n piece)) (record { dialect = refl; limit = refl }) (record { running = s; more = e }) size (sym c))

-- the end comes
pub read_last : (v : Unread) (bytes : List ℕ) (ts : List Token) → v.stopped ≡ false → HasScanned v bytes ts → HasScanned (record v { ended = true }) bytes ts
read_last v bytes ts s r = record { taken = r.taken; reads = by_stop v.stopped v.ended s r.reads }
  where
    same : (k : Bool) → reading_by k v [] true ≡ reading_by k (record v { ended = true }) [] true
    same true = refl
    same false = refl

    by_stop : (s e : Bool) → s ≡ false → Reads s e v bytes ts → Reads s true (record v { ended = true }) bytes ts
    by_stop true e x r = absurd (let h : true ≡ false = x in cc)
    by_stop false true x r = r ∙ ap (with_tokens ts) (same v.broken)
    by_stop false false x r = ap (λ b. tokens_of v.dialect v.limit b true) (sym (append-nil bytes)) ∙ (r [] true ∙ ap (with_tokens ts) (same v.broken))

-- no bytes begin no character, and more may come
pub begins_nil : BeginsChar []
unfolding utf8_valid_len utf8_error_len
begins_nil = record { none_whole = refl; may_come = refl }

-- a scanner that has taken nothing
abbrev pub unread : Dialect → ℕ → List ℕ → List ℕ → List ℕ → Unread
unread d limit bytes text pending = record {
  dialect = d;
  limit = limit;
  place = first_place;
  begun = false;
  comment = false;
  text = text;
  pending = pending;
  broken = false;
  taken = first_place;
  ended = false;
  stopped = false;
  held = all_bytes bytes pending;
}

-- a scanner that has taken no bytes has given no tokens
read_nothing : (d : Dialect) (limit : ℕ) (bytes : List ℕ) → HasScanned (unread d limit bytes [] []) [] []
unfolding tokens_of
read_nothing d limit bytes = record { taken = refl; reads = λ more e. refl }

-- a new scanner has given no tokens of no bytes, however its empty buffers are written
pub read_new : (d : Dialect) (limit : ℕ) (bytes pending : List ℕ) → bytes ≡ [] → pending ≡ [] → HasScanned (unread d limit bytes (chars bytes) pending) [] []
read_new d limit bytes pending a b =
    subst (λ x. HasScanned (unread d limit bytes x pending) [] []) (sym (ap chars a ∙ chars-nil))
    (subst (λ x. HasScanned (unread d limit bytes [] x) [] []) (sym b) (read_nothing d limit bytes))

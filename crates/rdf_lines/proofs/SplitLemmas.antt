-- A document of a line format is its lines, and without its bad lines it is the others.
use Rattle.rdf_lines.proofs.Prelude.{◌≡◌, ℕ, ◌≤◌, Bool, true, false, List, [], ◌∷◌, ◌++◌, inl, inr, refl, sym, ap, ◌∙◌, subst, length, arith, length-append, concat, cond_both, append-nil, Quad, is_line_end, good, has_byte_order_mark, most_bytes, Language, LineForm, in_lines, put_byte, split_lines, IsGoodLine, AreGoodLines, Sifts, DocumentsAreTheirLines, GoodLinesAreRead}
use Rattle.rdf_lines.proofs.LineEnds.{IsEnd, tested_end}
use Rattle.rdf_lines.proofs.DocumentLines.{IsRun, split, joined, mark_same, accepted_run, run_accepted, nothing_run, nothing_unmarked, run_utf8}

-- The line ends in a line end.
pub record IsEnded (line : List ℕ) : Type 0 where
  pub front : List ℕ
  pub last : ℕ
  pub is_end : IsEnd last
  pub whole : line ≡ front ++ last ∷ []

-- so does each line but the last
abbrev pub AreEnded : List (List ℕ) → Type 0
AreEnded [] = Unit
AreEnded (x ∷ []) = Unit
AreEnded (x ∷ y ∷ ys) = IsEnded x × AreEnded (y ∷ ys)

-- of lines those after the first
rest_ended : (x : List ℕ) (xs : List (List ℕ)) → AreEnded (x ∷ xs) → AreEnded xs
rest_ended x [] h = tt
rest_ended x (y ∷ ys) h = h.1

-- a byte in front of the first line
put_ended : (b : ℕ) (ls : List (List ℕ)) → AreEnded ls → AreEnded (put_byte b ls)
put_ended b [] h = tt
put_ended b (x ∷ []) h = tt
put_ended b (x ∷ y ∷ ys) h = (record { front = b ∷ h.0.front; last = h.0.last; is_end = h.0.is_end; whole = ap (λ w. b ∷ w) h.0.whole }, h.1)

-- a line that is a line end alone, before others
end_ended : (b : ℕ) (ls : List (List ℕ)) → IsEnd b → AreEnded ls → AreEnded ((b ∷ []) ∷ ls)
end_ended b [] e h = tt
end_ended b (x ∷ xs) e h = (record { front = []; last = b; is_end = e; whole = refl }, h)

-- the lines of a text end so
pub split_ended : (w : List ℕ) → AreEnded (split_lines w)
split_ended [] = tt
split_ended (b ∷ w) = cond_both (is_line_end b) ((b ∷ []) ∷ split_lines w) (put_byte b (split_lines w)) AreEnded
    (λ t. end_ended b (split_lines w) (tested_end b t) (split_ended w)) (λ f. put_ended b (split_lines w) (split_ended w))

-- a byte in front of the first line is one in front of all
put_whole : (b : ℕ) (ls : List (List ℕ)) → concat (put_byte b ls) ≡ b ∷ concat ls
put_whole b [] = refl
put_whole b (x ∷ xs) = refl

-- and they are the whole text
pub split_whole : (w : List ℕ) → concat (split_lines w) ≡ w
split_whole [] = refl
split_whole (b ∷ w) =
    cond_both (is_line_end b) ((b ∷ []) ∷ split_lines w) (put_byte b (split_lines w)) (λ ls. concat ls ≡ b ∷ w)
    (λ t. ap (λ v. b ∷ v) (split_whole w)) (λ f. put_whole b (split_lines w) ∙ ap (λ v. b ∷ v) (split_whole w))

module _ (form : LineForm) (limit iri : ℕ) where
  -- nothing in front of it that only a first line may have
  abbrev Unmarked : Bool → List ℕ → Type 0
  Unmarked first bytes = first ≡ false → has_byte_order_mark (good bytes) ≡ false

  -- parts of bytes that are few are few
  size_front : (x b : List ℕ) → length (x ++ b) ≤ most_bytes → length x ≤ most_bytes
  size_front x b h = omega (arith, h, length-append x b)

  size_rest : (x b : List ℕ) → length (x ++ b) ≤ most_bytes → length b ≤ most_bytes
  size_rest x b h = omega (arith, h, length-append x b)

  -- good lines are a document
  pub lines_joined : (first : Bool) (ls : List (List ℕ)) (qs : List Quad) → AreEnded ls → AreGoodLines (in_lines form limit iri) first ls qs →
      IsRun form limit iri (concat ls) qs × Unmarked first (concat ls)
  lines_joined first [] qs e g = (subst (IsRun form limit iri []) (sym g) (nothing_run form limit iri), λ f. nothing_unmarked)
  lines_joined first (x ∷ []) qs e (ps, rs, h, n, s) =
      let all : qs ≡ ps = s ∙ (ap (λ y. ps ++ y) n ∙ append-nil ps) in
      let one : x ++ [] ≡ x = append-nil x in (
        subst (λ w. IsRun form limit iri w qs) (sym one) (subst (IsRun form limit iri x) (sym all)
            (accepted_run form limit iri x ps h.accepted)),
        subst (Unmarked first) (sym one) h.marked,
      )
  lines_joined first (x ∷ y ∷ ys) qs e (ps, rs, h, n, s) =
      let more = lines_joined false (y ∷ ys) rs e.1 n in
      let b = concat (y ∷ ys) in
      let line : IsRun form limit iri (e.0.front ++ e.0.last ∷ []) ps =
      subst (λ w. IsRun form limit iri w ps) e.0.whole (accepted_run form limit iri x ps h.accepted) in
      let both : IsRun form limit iri ((e.0.front ++ e.0.last ∷ []) ++ b) (ps ++ rs) =
      joined form limit iri e.0.front e.0.last b e.0.is_end ps rs line more.0 (more.1 refl) in
      let m = mark_same form limit iri e.0.front e.0.last b e.0.is_end (run_utf8 form limit iri _ _ both) in
      let whole : (e.0.front ++ e.0.last ∷ []) ++ b ≡ x ++ b = ap (λ w. w ++ b) (sym e.0.whole) in (
        subst (λ w. IsRun form limit iri w qs) whole (subst (IsRun form limit iri ((e.0.front ++ e.0.last ∷ []) ++ b)) (sym s) both),
        λ f. ap (λ w. has_byte_order_mark (good w)) (sym whole) ∙ (m ∙ (ap (λ w. has_byte_order_mark (good w)) (sym e.0.whole) ∙ h.marked f)),
      )

  -- and a document is good lines
  pub lines_split : (first : Bool) (ls : List (List ℕ)) (qs : List Quad) → AreEnded ls → length (concat ls) ≤ most_bytes →
      IsRun form limit iri (concat ls) qs → Unmarked first (concat ls) →
      AreGoodLines (in_lines form limit iri) first ls qs
  lines_split first [] qs e k r m =
      let none : qs ≡ [] = same_quads r (nothing_run form limit iri) in none
    where
      same_quads : {qs rs : List Quad} → IsRun form limit iri [] qs → IsRun form limit iri [] rs → qs ≡ rs
      same_quads r s = let z = sym r.ran ∙ s.ran in cc
  lines_split first (x ∷ []) qs e k r m =
      let one : x ++ [] ≡ x = append-nil x in (
        qs,
        [],
        record {
          accepted = run_accepted form limit iri x qs (size_front x [] k) (subst (λ w. IsRun form limit iri w qs) one r);
          marked = subst (Unmarked first) one m;
        },
        refl,
        sym (append-nil qs),
      )
  lines_split first (x ∷ y ∷ ys) qs e k r m =
      let b = concat (y ∷ ys) in
      let a = e.0.front ++ e.0.last ∷ [] in
      let whole : x ++ b ≡ a ++ b = ap (λ w. w ++ b) e.0.whole in
      let r' : IsRun form limit iri (a ++ b) qs = subst (λ w. IsRun form limit iri w qs) whole r in
      let s = split form limit iri e.0.front e.0.last b e.0.is_end qs r' in
      let n = mark_same form limit iri e.0.front e.0.last b e.0.is_end (run_utf8 form limit iri (a ++ b) qs r') in (
        s.first,
        s.second,
        record {
          accepted = run_accepted form limit iri x s.first (size_front x b k) (subst (λ w. IsRun form limit iri w s.first) (sym e.0.whole) s.line);
          marked = λ f. ap (λ w. has_byte_order_mark (good w)) e.0.whole ∙ (sym n ∙ (ap (λ w. has_byte_order_mark (good w)) (sym whole) ∙ m f));
        },
        lines_split false (y ∷ ys) s.second e.1 (size_rest x b k) s.rest (λ f. s.unmarked),
        s.all,
      )

  -- lines that are good after others are so at the beginning
  first_good : (first : Bool) (ls : List (List ℕ)) (qs : List Quad) → AreGoodLines (in_lines form limit iri) false ls qs →
      AreGoodLines (in_lines form limit iri) first ls qs
  first_good first [] qs g = g
  first_good first (x ∷ xs) qs (ps, rs, h, n, s) = (ps, rs, record { accepted = h.accepted; marked = λ f. h.marked refl }, n, s)

  -- what is kept of lines: its lines end as they do, and are good
  pub record IsKept (first : Bool) (ls kept : List (List ℕ)) (qs : List Quad) : Type 0 where
    pub ended : AreEnded kept
    pub good : AreGoodLines (in_lines form limit iri) first kept qs
    pub none : ls ≡ [] → kept ≡ []
    pub size : length (concat kept) ≤ length (concat ls)

  pub sifted : (first : Bool) (ls kept bad : List (List ℕ)) (qs : List Quad) → AreEnded ls →
      Sifts (in_lines form limit iri) first ls kept bad qs → IsKept first ls kept qs
  sifted first [] kept bad qs e s = record {
    ended = subst AreEnded (sym s.0) tt;
    good = subst (λ k. AreGoodLines (in_lines form limit iri) first k qs) (sym s.0) s.2;
    none = λ z. s.0;
    size = omega (arith, ap (λ k. length (concat k)) s.0);
  }
  sifted first (x ∷ xs) kept bad qs e (inl s) =
      let h = sifted false xs s.kept_after bad s.quads_after (rest_ended x xs e) s.after in
      record {
        ended = subst AreEnded (sym s.lines) (ended xs s.kept_after e h.ended h.none);
        good = subst (λ k. AreGoodLines (in_lines form limit iri) first k qs) (sym s.lines) (s.quads, s.quads_after, s.is_good, h.good, s.all);
        none = λ z. absurd (let z : x ∷ xs ≡ [] = z in cc);
        size = let a = ap (λ k. length (concat k)) s.lines in let b = h.size in
            omega (arith, a, b, length-append x (concat s.kept_after), length-append x (concat xs));
      }
    where
      ended : (xs ks : List (List ℕ)) → AreEnded (x ∷ xs) → AreEnded ks → (xs ≡ [] → ks ≡ []) → AreEnded (x ∷ ks)
      ended xs [] e k n = tt
      ended [] (z ∷ zs) e k n = absurd (let q : z ∷ zs ≡ [] = n refl in cc)
      ended (y ∷ ys) (z ∷ zs) e k n = (e.0, k)
  sifted first (x ∷ xs) kept bad qs e (inr s) =
      let h = sifted false xs kept s.bad_after qs (rest_ended x xs e) s.after in
      record {
        ended = h.ended;
        good = first_good first kept qs h.good;
        none = λ z. absurd (let z : x ∷ xs ≡ [] = z in cc);
        size = let b = h.size in omega (arith, b, length-append x (concat xs));
      }

-- a document is its lines
pub documents_lines : DocumentsAreTheirLines
documents_lines form limit iri bytes qs l =
    let whole = split_whole bytes in
    let e = split_ended bytes in (
      λ a. lines_split form limit iri true (split_lines bytes) qs e (subst (λ w. length w ≤ most_bytes) (sym whole) l)
          (subst (λ w. IsRun form limit iri w qs) (sym whole) (accepted_run form limit iri bytes qs a)) (λ f. absurd (let z : true ≡ false = f in cc)),
      λ g. run_accepted form limit iri bytes qs l
          (subst (λ w. IsRun form limit iri w qs) whole (lines_joined form limit iri true (split_lines bytes) qs e g).0),
    )

-- what is left of one without its bad lines is one
pub good_read : GoodLinesAreRead
good_read form limit iri bytes kept bad qs l s =
    let k = sifted form limit iri true (split_lines bytes) kept bad qs (split_ended bytes) s in
    let size : length (concat kept) ≤ most_bytes = let a = k.size in let b : length (concat (split_lines bytes)) ≡ length bytes =
    ap length (split_whole bytes) in omega (arith, a, b, l) in
    run_accepted form limit iri (concat kept) qs size (lines_joined form limit iri true kept qs k.ended k.good).0

-- good lines are sifted so that none is bad
all_kept : (l : Language) (first : Bool) (ls : List (List ℕ)) (qs : List Quad) → AreGoodLines l first ls qs → Sifts l first ls ls [] qs
all_kept l first [] qs e = (refl, refl, e)
all_kept l first (x ∷ xs) qs (ps, rs, h, n, s) =
    inl (record { kept_after = xs; quads = ps; quads_after = rs; is_good = h; after = all_kept l false xs rs n; lines = refl; all = s })

-- Lines that are a document in a row are all good.
pub good_sifted : (form : LineForm) (limit iri : ℕ) (first : Bool) (bytes : List ℕ) (qs : List Quad) → IsGoodLine (in_lines form limit iri) first bytes qs →
    Sifts (in_lines form limit iri) first (split_lines bytes) (split_lines bytes) [] qs
good_sifted form limit iri first bytes qs g =
    let whole = split_whole bytes in
    all_kept (in_lines form limit iri) first (split_lines bytes) qs
    (lines_split form limit iri first (split_lines bytes) qs (split_ended bytes) (subst (λ w. length w ≤ most_bytes) (sym whole) g.accepted.within.size)
    (subst (λ w. IsRun form limit iri w qs) (sym whole) (accepted_run form limit iri bytes qs g.accepted))
    (λ f. ap (λ w. has_byte_order_mark (good w)) whole ∙ g.marked f))

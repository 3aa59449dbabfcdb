-- Where the lines of some bytes are cut.
use Rattle.rdf_stream.proofs.Prelude.{◌≡◌, ℕ, zero, suc, ◌<◌, Bool, true, false, cond, List, [], ◌∷◌, ◌++◌, refl, sym, ap, ◌∙◌, append_assoc, ◌+◌, length, take, drop, arith, slice_index, AllByRecursion, cond-true, cond-false, cond_both, append-nil, drop-take, drop_all, take-append-drop, take_all, is_line_end, put_byte, split_lines}

-- the first line goes up to the first line end
pub first_line : (w : List ℕ) (at : ℕ) → ((k : ℕ) → k < at → is_line_end (slice_index w k) ≡ false) → is_line_end (slice_index w at) ≡ true → at < length w →
    split_lines w ≡ take (suc at) w ∷ split_lines (drop (suc at) w)
first_line [] at f e l = absurd (omega arith)
first_line (b ∷ w) zero f e l = cond-true (is_line_end b) ((b ∷ []) ∷ split_lines w) (put_byte b (split_lines w)) e
first_line (b ∷ w) (suc n) f e l =
    cond-false (is_line_end b) ((b ∷ []) ∷ split_lines w) (put_byte b (split_lines w)) (f 0 (omega arith))
    ∙ ap (put_byte b) (first_line w n (λ k h. f (suc k) (omega arith)) e (omega arith))

-- without a line end there is one line
pub only_line : (b : ℕ) (w : List ℕ) → ((k : ℕ) → k < length (b ∷ w) → is_line_end (slice_index (b ∷ w) k) ≡ false) → split_lines (b ∷ w) ≡ (b ∷ w) ∷ []
only_line b [] f = cond-false (is_line_end b) ((b ∷ []) ∷ []) (put_byte b []) (f 0 (omega arith))
only_line b (c ∷ w) f =
    cond-false (is_line_end b) ((b ∷ []) ∷ split_lines (c ∷ w)) (put_byte b (split_lines (c ∷ w))) (f 0 (omega arith))
    ∙ ap (put_byte b) (only_line c w (λ k h. f (suc k) (omega arith)))

-- each byte is no line end
pub all_no_end : (w : List ℕ) → ((k : ℕ) → k < length w → is_line_end (slice_index w k) ≡ false) → AllByRecursion (λ b. is_line_end b ≡ false) w
all_no_end [] f = tt
all_no_end (b ∷ w) f = (f 0 (omega arith), all_no_end w (λ k h. f (suc k) (omega arith)))

-- after a place there is none
pub rest_no_end : (w : List ℕ) (at : ℕ) → ((k : ℕ) → at < k → k < length w → is_line_end (slice_index w k) ≡ false) →
    AllByRecursion (λ b. is_line_end b ≡ false) (drop (suc at) w)
rest_no_end [] at f = tt
rest_no_end (b ∷ w) zero f = all_no_end w (λ k h. f (suc k) (omega arith) (omega arith))
rest_no_end (b ∷ w) (suc n) f = rest_no_end w n (λ k h l. f (suc k) (omega arith) (omega arith))

-- up to a line end, with it
pub front_ended : (w : List ℕ) (at : ℕ) → at < length w → is_line_end (slice_index w at) ≡ true →
    (u : List ℕ) × (c : ℕ) × (take (suc at) w ≡ u ++ c ∷ []) × (is_line_end c ≡ true)
front_ended [] at l e = absurd (omega arith)
front_ended (b ∷ w) zero l e = ([], b, refl, e)
front_ended (b ∷ w) (suc n) l e = let h = front_ended w n (omega arith) e in (b ∷ h.0, h.1, ap (λ v. b ∷ v) h.2, h.3)

-- bytes have a line
put_some : (b : ℕ) (ls : List (List ℕ)) → (x : List ℕ) × (xs : List (List ℕ)) × (put_byte b ls ≡ x ∷ xs)
put_some b [] = (b ∷ [], [], refl)
put_some b (x ∷ xs) = (b ∷ x, xs, refl)

pub some_lines : (b : ℕ) (w : List ℕ) → (x : List ℕ) × (xs : List (List ℕ)) × (split_lines (b ∷ w) ≡ x ∷ xs)
some_lines b w =
    cond_both (is_line_end b) ((b ∷ []) ∷ split_lines w) (put_byte b (split_lines w)) (λ ls. (x : List ℕ) × (xs : List (List ℕ)) × (ls ≡ x ∷ xs))
    (λ t. (b ∷ [], split_lines w, refl)) (λ f. put_some b (split_lines w))

-- a byte in front of lines, and others after them
put_append : (b : ℕ) (ls ms : List (List ℕ)) (x : List ℕ) (xs : List (List ℕ)) → ls ≡ x ∷ xs → put_byte b (ls ++ ms) ≡ put_byte b ls ++ ms
put_append b [] ms x xs e = absurd (let z : [] ≡ x ∷ xs = e in cc)
put_append b (y ∷ ys) ms x xs e = refl

-- a text that ends in c has a line
some_ended : (u : List ℕ) (c : ℕ) → (x : List ℕ) × (xs : List (List ℕ)) × (split_lines (u ++ c ∷ []) ≡ x ∷ xs)
some_ended [] c = some_lines c []
some_ended (b ∷ u) c = some_lines b (u ++ c ∷ [])

-- after a line end the lines of the rest begin
pub split_append : (u : List ℕ) (c : ℕ) (w : List ℕ) → is_line_end c ≡ true → split_lines ((u ++ c ∷ []) ++ w) ≡ split_lines (u ++ c ∷ []) ++ split_lines w
split_append [] c w e =
    cond-true (is_line_end c) ((c ∷ []) ∷ split_lines w) (put_byte c (split_lines w)) e
    ∙ sym (ap (λ ls. ls ++ split_lines w) (cond-true (is_line_end c) ((c ∷ []) ∷ []) (put_byte c []) e))
split_append (b ∷ u) c w e = ap (λ ls. cond (is_line_end b) ((b ∷ []) ∷ ls) (put_byte b ls)) (split_append u c w e) ∙ at (is_line_end b)
  where
    front : List (List ℕ)
    front = split_lines (u ++ c ∷ [])

    at : (t : Bool) → cond t ((b ∷ []) ∷ front ++ split_lines w) (put_byte b (front ++ split_lines w)) ≡ cond t ((b ∷ []) ∷ front)
        (put_byte b front) ++ split_lines w
    at true = refl
    at false = let s = some_ended u c in put_append b front (split_lines w) s.0 s.1 s.2

-- up to a line end after some bytes, with it
front_after : (w : List ℕ) (n at : ℕ) → at < length (drop n w) → is_line_end (slice_index (drop n w) at) ≡ true →
    (u : List ℕ) × (c : ℕ) × (take (n + suc at) w ≡ u ++ c ∷ []) × (is_line_end c ≡ true)
front_after w n at l e =
    let h = front_ended (drop n w) at l e in
    let v = take (n + suc at) w in (
      take n v ++ h.0,
      h.1,
      sym (take-append-drop n v) ∙ (ap (λ x. take n v ++ x) (drop-take n (suc at) w ∙ h.2) ∙ sym (append_assoc (take n v) h.0 (h.1 ∷ []))),
      h.3,
    )

-- there the lines are cut
pub split_after : (w : List ℕ) (n at : ℕ) → at < length (drop n w) → is_line_end (slice_index (drop n w) at) ≡ true →
    split_lines w ≡ split_lines (take (n + suc at) w) ++ split_lines (drop (n + suc at) w)
split_after w n at l e =
    let h = front_after w n at l e in
    let rest = drop (n + suc at) w in
    ap split_lines (sym (take-append-drop (n + suc at) w) ∙ ap (λ v. v ++ rest) h.2)
    ∙ (split_append h.0 h.1 rest h.3 ∙ ap (λ v. split_lines v ++ split_lines rest) (sym h.2))

-- all lines, and none after them
pub split_all : (w : List ℕ) → split_lines w ≡ split_lines (take (length w) w) ++ split_lines (drop (length w) w)
split_all w =
    sym (append-nil (split_lines w))
    ∙ (ap (λ v. split_lines v ++ []) (sym (take_all (length w) w (omega arith)))
    ∙ ap (λ v. split_lines (take (length w) w) ++ split_lines v) (sym (drop_all (length w) w (omega arith))))

-- How many bytes a scanner holds, and how many more it can take.
use Rattle.rdf_tokens.proofs.Prelude.{◌≡◌, ℕ, ◌+◌, ◌-◌, ◌*◌, ◌/◌, ◌<◌, ◌≤◌, min, Bool, true, false, cond, ◌||◌, List, [], ◌∷◌, refl, sym, ap, ◌∙◌, subst, ⊎_elim, length, take, drop, arith, Some, is_some, encode_utf8, length-append, slice_index, encode_utf8_all, utf8_error_len, second_byte_min, second_byte_max, cases_lt, lt-ltb, le-ltb, ne_eqb, and_from, false≢true, take-append-drop, len_utf8_bounds, length-encode, Dialect, is_live, live-front, is_empty, over, Unread, BeginsChar, most_bytes, most_unread, unread_bytes, fitting, at_once}
use Rattle.std.specs.Int.{is_in_range}
use Rattle.std.proofs.Math.Nat.{min-le_left, min-le_right, min-eq_left, min-eq_right, le-min, le-max_left}

-- a character has four bytes at most
few_bytes : (w : List ℕ) → length (encode_utf8_all w) ≤ 4 * length w
few_bytes [] = omega arith
few_bytes (c ∷ w) = let a = len_utf8_bounds c in let r = few_bytes w in
    omega (arith, length-append (encode_utf8 c) (encode_utf8_all w), length-encode c, a.1, r)

-- four bytes are whole or can begin no character
told : (a b c d : ℕ) (w : List ℕ) → is_some (utf8_error_len (a ∷ b ∷ c ∷ d ∷ w)) ≡ true
unfolding utf8_error_len
told a b c d w =
    let bs = a ∷ b ∷ c ∷ d ∷ w in
    rw (
      ne_eqb (length bs) 0 (λ e. absurd (omega arith)),
      le-ltb (length bs) 2 (omega arith),
      le-ltb (length bs) 3 (omega arith),
      le-ltb (length bs) 4 (omega arith),
    )
    (by (is_in_range 0xC2 0xF4 (slice_index bs 0)) (is_in_range (second_byte_min (slice_index bs 0)) (second_byte_max (slice_index bs 0)) (slice_index bs 1))
    (is_in_range 0x80 0xBF (slice_index bs 2)))
  where
    by : (x y z : Bool) → is_some {T = ℕ} (cond x (cond y (cond z (Some 3) (Some 2)) (Some 1)) (Some 1)) ≡ true
    by true true true = refl
    by true true false = refl
    by true false z = refl
    by false y z = refl

-- so the beginning of one has three
begun_short : (bytes : List ℕ) → BeginsChar bytes → length bytes ≤ 3
begun_short [] h = omega arith
begun_short (a ∷ []) h = omega arith
begun_short (a ∷ b ∷ []) h = omega arith
begun_short (a ∷ b ∷ c ∷ []) h = omega arith
begun_short (a ∷ b ∷ c ∷ d ∷ w) h = absurd (false≢true (ap is_some (sym h.may_come) ∙ told a b c d w))

pub few_unread : (v : Unread) → length v.text ≤ v.limit → BeginsChar v.pending → unread_bytes v ≤ 4 * v.limit + 3
few_unread v l h = let a = few_bytes v.text in let b = begun_short v.pending h in omega arith

-- the beginning of a token that is not over the limit has no more characters
pub open_few : (d : Dialect) (limit : ℕ) (w : List ℕ) → over d limit w ≡ false → (is_empty w || is_live d w) ≡ true → length w ≤ limit
open_few d limit [] o b = omega arith
open_few d limit (c ∷ u) o b =
    let w = c ∷ u in
    ⊎_elim
    (λ l.
    let live : is_live d (take (limit + 1) w) ≡ true =
    live-front d (take (limit + 1) w) (drop (limit + 1) w) (subst (λ x. is_live d x ≡ true) (sym (take-append-drop (limit + 1) w)) b) in
    absurd (false≢true (sym o ∙ and_from _ _ (lt-ltb limit (length w) l) (or_right _ _ live))))
    (λ l. l)
    (cases_lt limit (length w))
  where
    or_right : (a b : Bool) → b ≡ true → (a || b) ≡ true
    or_right true b e = refl
    or_right false b e = e

-- how many are taken
pub fitting-within : (v : Unread) (n : ℕ) → fitting v n ≤ n
fitting-within v n = min-le_left n _

pub fitting-most : (v : Unread) (n : ℕ) → v.taken.offset ≤ most_bytes → v.taken.offset + fitting v n ≤ most_bytes
fitting-most v n l =
    let left = most_bytes - v.taken.offset in
    let free = most_unread v.limit - unread_bytes v in
    let a = min-le_right n (min left free) in
    let b = min-le_left left free in
    omega arith

pub fitting-room : (v : Unread) (n : ℕ) → unread_bytes v ≤ most_unread v.limit → unread_bytes v + fitting v n ≤ most_unread v.limit
fitting-room v n l =
    let left = most_bytes - v.taken.offset in
    let free = most_unread v.limit - unread_bytes v in
    let a = min-le_right n (min left free) in
    let b = min-le_right left free in
    omega arith

pub fitting-some : (v : Unread) (n : ℕ) → 0 < n → v.taken.offset < most_bytes → unread_bytes v < most_unread v.limit → 0 < fitting v n
fitting-some v n l m r =
    let left = most_bytes - v.taken.offset in
    let free = most_unread v.limit - unread_bytes v in
    let a : 1 ≤ min n (min left free) = le-min (omega arith) (le-min (omega arith) (omega arith)) in
    omega arith

-- of some bytes some are taken at once
pub at_once-some : (limit n : ℕ) → 0 < n → 0 < min n (at_once limit)
at_once-some limit n l =
    let a : 512 ≤ at_once limit = le-max_left 512 (min 65536 (limit / 2)) in
    let b : 1 ≤ min n (at_once limit) = le-min (omega arith) (omega arith) in
    omega arith

pub room-fits : (limit unread taken : ℕ) → unread ≤ most_unread limit → unread ≤ taken → taken ≤ most_bytes → unread ≤ most_unread (min limit (most_bytes / 4))
room-fits limit unread taken h u t =
    ⊎_elim
    (λ l. let e : min limit (most_bytes / 4) ≡ most_bytes / 4 = min-eq_right (omega arith) in omega (arith, e))
    (λ l. subst (λ k. unread ≤ most_unread k) (sym (min-eq_left l)) h)
    (cases_lt (most_bytes / 4) limit)

-- a limit above a quarter of what a document has at most makes no difference
pub room-same : (limit unread taken n : ℕ) → unread ≤ taken → taken ≤ most_bytes →
    min n (min (most_bytes - taken) (most_unread (min limit (most_bytes / 4)) - unread)) ≡ min n (min (most_bytes - taken) (most_unread limit - unread))
room-same limit unread taken n u t =
    ⊎_elim
    (λ l. ap (min n) (min-eq_left (omega (arith, min-eq_right {n = most_bytes / 4} {m = limit} (omega arith))) ∙ sym (min-eq_left (omega arith))))
    (λ l. ap (λ k. min n (min (most_bytes - taken) (most_unread k - unread))) (min-eq_left l))
    (cases_lt (most_bytes / 4) limit)

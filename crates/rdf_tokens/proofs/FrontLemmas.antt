-- The longest front by two tests is the longer of both fronts, in characters and in bytes.
use Rattle.rdf_tokens.proofs.Prelude.{◌≡◌, ℕ, zero, suc, ◌<◌, ◌≤◌, Bool, true, false, cond, nat_lt, List, [], ◌∷◌, refl, sym, ap, ◌∙◌, length, length-append, take, arith, Option, Some, None, encode_utf8, lt-ltb, ⊎_elim, encode_utf8_all, le-ltb, cases_lt, len_utf8_bounds, length-encode, Kind, Dialect, kind_of, or_else, longest, with_length, three_quotes, only_long, bytes_of, in_bytes, longest_by, longer_front}

-- the longest token is a longest front
pub longest-by : (d : Dialect) (w : List ℕ) (n : ℕ) → longest d w n ≡ longest_by (λ u. only_long (three_quotes d w) (kind_of d u)) w n
longest-by d w zero = refl
longest-by d w (suc n) = ap (with_length (suc n) (only_long (three_quotes d w) (kind_of d (take (suc n) w)))) (longest-by d w n)

-- two tests that agree on the fronts give one front
pub longest_by-same : (f g : List ℕ → Option Kind) (w : List ℕ) → ((m : ℕ) → f (take (suc m) w) ≡ g (take (suc m) w)) → (n : ℕ) →
    longest_by f w n ≡ longest_by g w n
longest_by-same f g w e zero = refl
longest_by-same f g w e (suc n) =
    ap (λ k. with_length (suc n) k (longest_by f w n)) (e n) ∙ ap (with_length (suc n) (g (take (suc n) w))) (longest_by-same f g w e n)

-- a front that was found is not empty, and no longer than was looked for
abbrev pub AtMost : ℕ → Option (ℕ × Kind) → Type 0
AtMost n None = Unit {0}
AtMost n (Some x) = (0 < x.0) × (x.0 ≤ n)

-- what is at most n is at most n + 1
at_most-suc : (n : ℕ) (o : Option (ℕ × Kind)) → AtMost n o → AtMost (suc n) o
at_most-suc n None h = tt
at_most-suc n (Some x) h = (h.0, omega arith)

-- the longest front of n characters has at most n
pub longest_by-at_most : (f : List ℕ → Option Kind) (w : List ℕ) (n : ℕ) → AtMost n (longest_by f w n)
longest_by-at_most f w zero = tt
longest_by-at_most f w (suc n) = go (f (take (suc n) w)) (longest_by-at_most f w n)
  where
    go : (k : Option Kind) → AtMost n (longest_by f w n) → AtMost (suc n) (with_length (suc n) k (longest_by f w n))
    go None h = at_most-suc n (longest_by f w n) h
    go (Some k) h = (omega arith, omega arith)

-- one character more of both
longer-step : (n : ℕ) (k l : Option Kind) (a b : Option (ℕ × Kind)) → AtMost n a → AtMost n b →
    with_length (suc n) (or_else k l) (longer_front a b) ≡ longer_front (with_length (suc n) k a) (with_length (suc n) l b)
longer-step n None None a b h i = refl
longer-step n None (Some l) None b h i = refl
longer-step n None (Some l) (Some x) b h i = sym (ap (λ t. cond t (Some (suc n, l)) (Some x)) (lt-ltb x.0 (suc n) (omega arith)))
longer-step n (Some k) None a None h i = refl
longer-step n (Some k) None a (Some y) h i = sym (ap (λ t. cond t (Some y) (Some (suc n, k))) (le-ltb (suc n) y.0 (omega arith)))
longer-step n (Some k) (Some l) a b h i = sym (ap (λ t. cond t (Some (suc n, l)) (Some (suc n, k))) (le-ltb (suc n) (suc n) (omega arith)))

-- the longest front by either of two tests is the longer of theirs, so spellings and states may be looked for apart
pub longest_by-or : (f g : List ℕ → Option Kind) (w : List ℕ) (n : ℕ) →
    longest_by (λ u. or_else (f u) (g u)) w n ≡ longer_front (longest_by f w n) (longest_by g w n)
longest_by-or f g w zero = refl
longest_by-or f g w (suc n) =
    ap (with_length (suc n) (or_else (f (take (suc n) w)) (g (take (suc n) w)))) (longest_by-or f g w n)
    ∙ longer-step n (f (take (suc n) w)) (g (take (suc n) w)) (longest_by f w n) (longest_by g w n) (longest_by-at_most f w n) (longest_by-at_most g w n)

-- more characters are more bytes
pub bytes_of-lt : (w : List ℕ) (n m : ℕ) → n < m → m ≤ length w → bytes_of n w < bytes_of m w
bytes_of-lt [] n m l k = absurd (omega arith)
bytes_of-lt (c ∷ w) zero zero l k = absurd (omega arith)
bytes_of-lt (c ∷ w) zero (suc m) l k =
    omega (arith, length-append (encode_utf8 c) (encode_utf8_all (take m w)), length-encode c, len_utf8_bounds c)
bytes_of-lt (c ∷ w) (suc n) zero l k = absurd (omega arith)
bytes_of-lt (c ∷ w) (suc n) (suc m) l k =
    let h = bytes_of-lt w n m (omega arith) (omega arith) in
    omega (arith, length-append (encode_utf8 c) (encode_utf8_all (take m w)), length-append (encode_utf8 c) (encode_utf8_all (take n w)))

-- fronts compare by characters as they do by bytes
bytes_of-test : (w : List ℕ) (n m : ℕ) → n ≤ length w → m ≤ length w → nat_lt n m ≡ nat_lt (bytes_of n w) (bytes_of m w)
bytes_of-test w n m l k = ⊎_elim
    (λ h. lt-ltb n m h ∙ sym (lt-ltb _ _ (bytes_of-lt w n m h k)))
    (λ h. le-ltb n m h ∙ sym (le-ltb _ _ (⊎_elim
    (λ g. let x = bytes_of-lt w m n g l in omega arith)
    (λ g. let e : n ≡ m = omega arith in let x : bytes_of n w ≡ bytes_of m w = ap (λ i. bytes_of i w) e in omega arith)
    (cases_lt m n))))
    (cases_lt n m)

-- the longer front is the longer one in bytes
pub in_bytes-longer : (w : List ℕ) (a b : Option (ℕ × Kind)) → AtMost (length w) a → AtMost (length w) b →
    in_bytes w (longer_front a b) ≡ longer_front (in_bytes w a) (in_bytes w b)
in_bytes-longer w None b h i = refl
in_bytes-longer w (Some x) None h i = refl
in_bytes-longer w (Some x) (Some y) h i = go (nat_lt x.0 y.0) ∙ ap (λ t. cond t (in_bytes w (Some y)) (in_bytes w (Some x))) (bytes_of-test w x.0 y.0 h.1 i.1)
  where
    go : (t : Bool) → in_bytes w (cond t (Some y) (Some x)) ≡ cond t (in_bytes w (Some y)) (in_bytes w (Some x))
    go true = refl
    go false = refl

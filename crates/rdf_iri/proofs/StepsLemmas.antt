-- A path that is written after a directory: what each of its segments does.
use Rattle.rdf_iri.proofs.Prelude.{◌≡◌, ◌≢◌, ℕ, zero, suc, true, false, List, [], ◌∷◌, ◌++◌, ◌==◌, ◌+◌, ◌-◌, ◌≤◌, ◌<◌, ◌⊎◌, drop, length, get_or, slice_range, Some, inl, inr, refl, sym, ap, ◌∙◌, subst, ⊎_elim, append_assoc, arith, codes, or_from, or_parts, cond-false, false≢true, false_from_ne_true, ne_eqb, append-nil, length-append, append_cancel_right, drop_more, Lacks, BeginsWith, begins, equal, before, after, from, suffix, walk, step, by_E, fits_D, finish, parent, dots_after_slash, has_dots, path_in, tail_in, onward, Leads, Passes}
use Rattle.std.proofs.lemmas.List.Folds.{drop_split}
use Rattle.rdf_iri.proofs.TextsLemmas.{Lacks-append, cut_at, cut_whole, before-from, before-lacks, from-starts, begins-true, equal-true, equal-self}
use Rattle.rdf_iri.proofs.DotsLemmas.{finish-step}
use Rattle.rdf_iri.proofs.DirectoryLemmas.{dots-next, dots-last, finish-keeps}
use Rattle.rdf_iri.proofs.RulesLemmas.{not_C}

-- a path and what stands after it are the reference
pub path-tail : (w : List ℕ) → path_in w ++ tail_in w ≡ w
path-tail w =
    sym (append_assoc (path_in w) (suffix 63 (after 63 (before 35 w))) (suffix 35 (after 35 w)))
    ∙ (ap (λ x. x ++ suffix 35 (after 35 w)) (cut_whole 63 (before 35 w)) ∙ cut_whole 35 w)

-- a byte that ends no path
pub path_in-cons : (c : ℕ) (w : List ℕ) → c ≢ 63 → c ≢ 35 → path_in (c ∷ w) ≡ c ∷ path_in w
path_in-cons c w q f =
    ap (before 63) (cond-false (c == 35) [] (c ∷ before 35 w) (ne_eqb c 35 f)) ∙ cond-false (c == 63) [] (c ∷ path_in w) (ne_eqb c 63 q)

-- and none that belongs to what follows it
pub tail_in-cons : (c : ℕ) (w : List ℕ) → c ≢ 63 → c ≢ 35 → tail_in (c ∷ w) ≡ tail_in w
tail_in-cons c w q f =
    ap (λ x. suffix 63 (after 63 x) ++ suffix 35 (after 35 (c ∷ w))) (cond-false (c == 35) [] (c ∷ before 35 w) (ne_eqb c 35 f))
    ∙ (ap (λ x. suffix 63 x ++ suffix 35 (after 35 (c ∷ w))) (cond-false (c == 63) (Some (before 35 w)) (after 63 (before 35 w)) (ne_eqb c 63 q))
    ∙ ap (λ x. suffix 63 (after 63 (before 35 w)) ++ suffix 35 x) (cond-false (c == 35) (Some w) (after 35 w) (ne_eqb c 35 f)))

-- a query or a fragment ends the path
pub path_in-mark : (c : ℕ) (w : List ℕ) → (c ≡ 63) ⊎ (c ≡ 35) → path_in (c ∷ w) ≡ []
path_in-mark c w h = ⊎_elim (λ (e : c ≡ 63). ap (λ x. path_in (x ∷ w)) e) (λ (e : c ≡ 35). ap (λ x. path_in (x ∷ w)) e) h

-- a text without the marks of a query and a fragment
abbrev pub LacksMarks : List ℕ → Type 0
LacksMarks u = Lacks 63 u × Lacks 35 u

-- is all of a path, before another one
pub path_in-append : (u w : List ℕ) → LacksMarks u → path_in (u ++ w) ≡ u ++ path_in w
path_in-append [] w l = refl
path_in-append (c ∷ u) w l = path_in-cons c (u ++ w) l.0.0 l.1.0 ∙ ap (λ x. c ∷ x) (path_in-append u w (l.0.1, l.1.1))

pub tail_in-append : (u w : List ℕ) → LacksMarks u → tail_in (u ++ w) ≡ tail_in w
tail_in-append [] w l = refl
tail_in-append (c ∷ u) w l = tail_in-cons c (u ++ w) l.0.0 l.1.0 ∙ tail_in-append u w (l.0.1, l.1.1)

-- where the segment after a '/' is not "." or "..", no other front with dots begins the path
no_dots : (front v : List ℕ) → ((rest : List ℕ) → fits_D (before 47 (front ++ rest)) ≡ true) → fits_D (before 47 v) ≡ false → begins front v ≡ false
no_dots front v h n = false_from_ne_true _ (λ t. false≢true (sym n ∙ (ap (λ x. fits_D (before 47 x)) (begins-true front v t) ∙ h (drop (length front) v))))

not_dots : (last v : List ℕ) → fits_D (before 47 last) ≡ true → fits_D (before 47 v) ≡ false → equal last v ≡ false
not_dots last v h n = false_from_ne_true _ (λ t. false≢true (sym n ∙ (ap (λ x. fits_D (before 47 x)) (sym (equal-true last v t)) ∙ h)))

equal-swapped : (v w : List ℕ) → equal v w ≡ false → equal w v ≡ false
equal-swapped v w h = false_from_ne_true _ (λ t. false≢true (sym h ∙ (ap (equal v) (equal-true w v t) ∙ equal-self v)))

-- so that the segment moves to the output
pub step-segment : (v o : List ℕ) → fits_D (before 47 v) ≡ false → step (walk (47 ∷ v) o) ≡ by_E (walk (47 ∷ v) o)
step-segment v o n =
    not_C (walk (47 ∷ v) o) refl
    (or_from _ _ (no_dots (codes "./") v (λ _. refl) n) (equal-swapped (codes ".") v (not_dots (codes ".") v refl n)))
    (or_from _ _ (no_dots (codes "../") v (λ _. refl) n) (equal-swapped (codes "..") v (not_dots (codes "..") v refl n)))

-- a segment with a '/' after it, which is not "." or ".."
pub segment-moves : (s p o : List ℕ) → Lacks 47 s → fits_D s ≡ false → finish (walk (47 ∷ (s ++ 47 ∷ p)) o) ≡ finish (walk (47 ∷ p) (o ++ 47 ∷ s))
segment-moves s p o l n =
    let k = cut_at 47 s (47 ∷ p) l (inr (p, refl)) in
    sym (finish-step (walk (47 ∷ (s ++ 47 ∷ p)) o) 47 (s ++ 47 ∷ p) refl)
    ∙ (ap finish (step-segment (s ++ 47 ∷ p) o (ap fits_D k.0 ∙ n))
    ∙ (ap (λ x. finish (walk x (o ++ 47 ∷ before 47 (s ++ 47 ∷ p)))) k.1 ∙ ap (λ x. finish (walk (47 ∷ p) (o ++ 47 ∷ x))) k.0))

-- segments without dots move to the output, whatever follows their last '/'
pub segments-move : (n : ℕ) (u p o : List ℕ) → length u ≤ n → has_dots (u ++ 47 ∷ []) ≡ false →
    finish (walk (47 ∷ (u ++ 47 ∷ p)) o) ≡ finish (walk (47 ∷ p) (o ++ 47 ∷ u))
segments-move zero [] p o l h = segment-moves [] p o tt refl
segments-move zero (c ∷ u) p o l h = absurd (omega arith)
segments-move (suc n) u p o l h =
    ⊎_elim
    (λ (e : from 47 u ≡ []).
    let whole : before 47 u ≡ u = sym (append-nil (before 47 u)) ∙ (ap (λ x. before 47 u ++ x) (sym e) ∙ before-from 47 u) in
    let lacks : Lacks 47 u = subst (Lacks 47) whole (before-lacks 47 u) in
    let k = cut_at 47 u (47 ∷ []) lacks (inr ([], refl)) in
    segment-moves u p o lacks (ap fits_D (sym k.0) ∙ (or_parts _ (dots_after_slash (u ++ 47 ∷ [])) h).0))
    (λ (b : BeginsWith (47 ∷ []) (from 47 u)).
    let s = before 47 u in
    let v = b.0 in
    let whole : s ++ 47 ∷ v ≡ u = ap (λ x. s ++ x) (sym b.1) ∙ before-from 47 u in
    let k = cut_at 47 s (47 ∷ (v ++ 47 ∷ [])) (before-lacks 47 u) (inr (v ++ 47 ∷ [], refl)) in
    let e : s ++ 47 ∷ (v ++ 47 ∷ []) ≡ u ++ 47 ∷ [] = sym (append_assoc s (47 ∷ v) (47 ∷ [])) ∙ ap (λ x. x ++ 47 ∷ []) whole in
    let d : has_dots (s ++ 47 ∷ (v ++ 47 ∷ [])) ≡ false = ap has_dots e ∙ h in
    let f : fits_D (before 47 (s ++ 47 ∷ (v ++ 47 ∷ []))) ≡ false = (or_parts _ (dots_after_slash (s ++ 47 ∷ (v ++ 47 ∷ []))) d).0 in
    let m : has_dots (v ++ 47 ∷ []) ≡ false = sym (dots-next (s ++ 47 ∷ (v ++ 47 ∷ [])) (v ++ 47 ∷ []) 47 f k.1) ∙ d in
    let size = ap length whole in
    ap (λ x. finish (walk (47 ∷ x) o)) (ap (λ x. x ++ 47 ∷ p) (sym whole) ∙ append_assoc s (47 ∷ v) (47 ∷ p))
    ∙ (segment-moves s (v ++ 47 ∷ p) o (before-lacks 47 u) (ap fits_D (sym k.0) ∙ f)
    ∙ (segments-move n v p (o ++ 47 ∷ s) (omega (arith, size, length-append s (47 ∷ v), l)) m
    ∙ ap (λ x. finish (walk (47 ∷ p) x)) (append_assoc o (47 ∷ s) (47 ∷ v) ∙ ap (λ x. o ++ 47 ∷ x) whole))))
    (from-starts 47 u)

-- a path without dots moves to the output as it is
pub last-moves : (p o : List ℕ) → has_dots p ≡ false → finish (walk (47 ∷ p) o) ≡ o ++ 47 ∷ p
last-moves p o h = finish-keeps (length (47 ∷ p)) (47 ∷ p) o (omega arith) h

-- "." stays in the directory
pub dot-last : (o : List ℕ) → finish (walk (47 ∷ 46 ∷ []) o) ≡ finish (walk (47 ∷ []) o)
unfolding step
dot-last o = sym (finish-step (walk (47 ∷ 46 ∷ []) o) 47 (46 ∷ []) refl)

pub dot-slash : (p o : List ℕ) → finish (walk (47 ∷ 46 ∷ 47 ∷ p) o) ≡ finish (walk (47 ∷ p) o)
unfolding step
dot-slash p o = sym (finish-step (walk (47 ∷ 46 ∷ 47 ∷ p) o) 47 (46 ∷ 47 ∷ p) refl)

-- ".." leads out of it
pub dots-end : (o : List ℕ) → finish (walk (47 ∷ 46 ∷ 46 ∷ []) o) ≡ finish (walk (47 ∷ []) (parent o))
unfolding step
dots-end o = sym (finish-step (walk (47 ∷ 46 ∷ 46 ∷ []) o) 47 (46 ∷ 46 ∷ []) refl)

pub dots-slash : (p o : List ℕ) → finish (walk (47 ∷ 46 ∷ 46 ∷ 47 ∷ p) o) ≡ finish (walk (47 ∷ p) (parent o))
unfolding step
dots-slash p o = sym (finish-step (walk (47 ∷ 46 ∷ 46 ∷ 47 ∷ p) o) 47 (46 ∷ 46 ∷ 47 ∷ p) refl)

-- Places of segments.
at-place : (bytes : List ℕ) (at c : ℕ) → at < length bytes → get_or bytes at 0 ≡ c → drop at bytes ≡ c ∷ drop (at + 1) bytes
at-place bytes at c l e = drop_more bytes at 0 l ∙ ap (λ x. x ∷ drop (at + 1) bytes) e

-- bytes are passed, the last of which is known
passes : (bytes : List ℕ) (at next last : ℕ) → at ≤ last → next ≡ last + 1 → last < length bytes → get_or bytes last 0 < 128 → Passes bytes at next
passes bytes at next last l e w a =
    let k : last ≡ next - 1 = omega (arith, e) in
    record { some = omega (arith, e); within = omega (arith, e); ascii = subst (λ (x : ℕ). get_or bytes x 0 < 128) k a }

-- a text from a place on, and where it leads
leads-from : (bytes w v : List ℕ) (at next : ℕ) (other : List ℕ → List ℕ) → drop at bytes ≡ w → drop next bytes ≡ v →
    ((o : List ℕ) → onward o w ≡ onward (other o) v) → tail_in w ≡ tail_in v → Leads other (drop at bytes) (drop next bytes)
leads-from bytes w v at next other e f p t = record {
  path = λ o. ap (onward o) e ∙ (p o ∙ ap (onward (other o)) (sym f));
  tail = ap tail_in e ∙ (t ∙ ap tail_in (sym f));
}

-- a last "."
pub here-last : (bytes : List ℕ) (at : ℕ) → at < length bytes → get_or bytes at 0 ≡ 46 → path_in (drop (at + 1) bytes) ≡ [] →
    Passes bytes at (at + 1) × Leads (λ o. o) (drop at bytes) (drop (at + 1) bytes)
here-last bytes at l e n = (
  passes bytes at (at + 1) at (omega arith) refl l (omega (arith, e)),
  leads-from bytes (46 ∷ drop (at + 1) bytes) (drop (at + 1) bytes) at (at + 1) (λ o. o) (at-place bytes at 46 l e) refl
      (λ o. ap (λ x. finish (walk (47 ∷ 46 ∷ x) o)) n ∙ (dot-last o ∙ ap (λ x. finish (walk (47 ∷ x) o)) (sym n)))
      refl,
)

-- "./"
pub here-slash : (bytes : List ℕ) (at : ℕ) → at + 1 < length bytes → get_or bytes at 0 ≡ 46 → get_or bytes (at + 1) 0 ≡ 47 →
    Passes bytes at (at + 2) × Leads (λ o. o) (drop at bytes) (drop (at + 2) bytes)
here-slash bytes at l e f =
    let k : (at + 1) + 1 ≡ at + 2 = omega arith in
    let v = drop (at + 2) bytes in
    let w : drop at bytes ≡ 46 ∷ 47 ∷ v =
    at-place bytes at 46 (omega arith) e ∙ ap (λ x. 46 ∷ x) (at-place bytes (at + 1) 47 l f ∙ ap (λ (i : ℕ). 47 ∷ drop i bytes) k) in (
      passes bytes at (at + 2) (at + 1) (omega arith) (sym k) l (omega (arith, f)),
      leads-from bytes (46 ∷ 47 ∷ v) v at (at + 2) (λ o. o) w refl (λ o. dot-slash (path_in v) o) refl,
    )

-- a last ".."
pub up-last : (bytes : List ℕ) (at : ℕ) → at + 1 < length bytes → get_or bytes at 0 ≡ 46 → get_or bytes (at + 1) 0 ≡ 46 → path_in (drop (at + 2) bytes) ≡ [] →
    Passes bytes at (at + 2) × Leads parent (drop at bytes) (drop (at + 2) bytes)
up-last bytes at l e f n =
    let k : (at + 1) + 1 ≡ at + 2 = omega arith in
    let v = drop (at + 2) bytes in
    let w : drop at bytes ≡ 46 ∷ 46 ∷ v =
    at-place bytes at 46 (omega arith) e ∙ ap (λ x. 46 ∷ x) (at-place bytes (at + 1) 46 l f ∙ ap (λ (i : ℕ). 46 ∷ drop i bytes) k) in (
      passes bytes at (at + 2) (at + 1) (omega arith) (sym k) l (omega (arith, f)),
      leads-from bytes (46 ∷ 46 ∷ v) v at (at + 2) parent w refl
          (λ o. ap (λ x. finish (walk (47 ∷ 46 ∷ 46 ∷ x) o)) n ∙ (dots-end o ∙ ap (λ x. finish (walk (47 ∷ x) (parent o))) (sym n)))
          refl,
    )

-- "../"
pub up-slash : (bytes : List ℕ) (at : ℕ) → at + 2 < length bytes → get_or bytes at 0 ≡ 46 → get_or bytes (at + 1) 0 ≡ 46 → get_or bytes (at + 2) 0 ≡ 47 →
    Passes bytes at (at + 3) × Leads parent (drop at bytes) (drop (at + 3) bytes)
up-slash bytes at l e f g =
    let k : (at + 1) + 1 ≡ at + 2 = omega arith in
    let j : (at + 2) + 1 ≡ at + 3 = omega arith in
    let v = drop (at + 3) bytes in
    let third : drop (at + 2) bytes ≡ 47 ∷ v = at-place bytes (at + 2) 47 l g ∙ ap (λ (i : ℕ). 47 ∷ drop i bytes) j in
    let second : drop (at + 1) bytes ≡ 46 ∷ 47 ∷ v = at-place bytes (at + 1) 46 (omega arith) f ∙ ap (λ x. 46 ∷ x) (ap (λ (i : ℕ). drop i bytes) k ∙ third) in
    let w : drop at bytes ≡ 46 ∷ 46 ∷ 47 ∷ v = at-place bytes at 46 (omega arith) e ∙ ap (λ x. 46 ∷ x) second in (
      passes bytes at (at + 3) (at + 2) (omega arith) (sym j) l (omega (arith, g)),
      leads-from bytes (46 ∷ 46 ∷ 47 ∷ v) v at (at + 3) parent w refl (λ o. dots-slash (path_in v) o) refl,
    )

-- what stands between two places, and more
pub between-more : (w : List ℕ) (a b c : ℕ) → a ≤ b → b ≤ c → slice_range w a c ≡ slice_range w a b ++ slice_range w b c
between-more w a b c l m =
    let i : a ≤ c = omega arith in
    append_cancel_right (slice_range w a c) (slice_range w a b ++ slice_range w b c) (drop c w)
    (sym (drop_split w a c i) ∙ (drop_split w a b l
    ∙ (ap (λ x. slice_range w a b ++ x) (drop_split w b c m) ∙ sym (append_assoc (slice_range w a b) (slice_range w b c) (drop c w)))))

-- one more byte
pub between-one : (w : List ℕ) (a b : ℕ) → a ≤ b → b < length w → slice_range w a (b + 1) ≡ slice_range w a b ++ get_or w b 0 ∷ []
between-one w a b l m =
    let e : slice_range w b (b + 1) ++ drop (b + 1) w ≡ (get_or w b 0 ∷ []) ++ drop (b + 1) w =
    sym (drop_split w b (b + 1) (omega arith)) ∙ drop_more w b 0 m in
    between-more w a b (b + 1) l (omega arith) ∙ ap (λ x. slice_range w a b ++ x)
    (append_cancel_right (slice_range w b (b + 1)) (get_or w b 0 ∷ []) (drop (b + 1) w) e)

-- what is passed has none of these bytes
pub lacks-one : (c : ℕ) (w : List ℕ) (a b : ℕ) → a ≤ b → b < length w → get_or w b 0 ≢ c → Lacks c (slice_range w a b) → Lacks c (slice_range w a (b + 1))
lacks-one c w a b l m n h = subst (Lacks c) (sym (between-one w a b l m)) (Lacks-append c (slice_range w a b) (get_or w b 0 ∷ []) h (n, tt))

-- a segment with its '/'
pub into-slash : (bytes : List ℕ) (a b : ℕ) → a ≤ b → b < length bytes → get_or bytes b 0 ≡ 47 → Lacks 47 (slice_range bytes a b) →
    LacksMarks (slice_range bytes a b) →
    fits_D (before 47 (path_in (drop a bytes))) ≡ false →
    Passes bytes a (b + 1) × (x : List ℕ) × (slice_range bytes a (b + 1) ≡ x ++ 47 ∷ []) × Leads (λ o. o ++ 47 ∷ x) (drop a bytes) (drop (b + 1) bytes)
into-slash bytes a b l m e s k n =
    let x = slice_range bytes a b in
    let v = drop (b + 1) bytes in
    let w : drop a bytes ≡ x ++ 47 ∷ v = drop_split bytes a b l ∙ ap (λ y. x ++ y) (at-place bytes b 47 m e) in
    let p : path_in (x ++ 47 ∷ v) ≡ x ++ 47 ∷ path_in v = path_in-append x (47 ∷ v) k in
    let t : tail_in (x ++ 47 ∷ v) ≡ tail_in v = tail_in-append x (47 ∷ v) k in
    let c = cut_at 47 x (47 ∷ path_in v) s (inr (path_in v, refl)) in
    let f : fits_D x ≡ false = ap fits_D (sym c.0 ∙ ap (before 47) (sym p ∙ ap path_in (sym w))) ∙ n in (
      passes bytes a (b + 1) b l refl m (omega (arith, e)),
      x,
      between-one bytes a b l m ∙ ap (λ y. x ++ y ∷ []) e,
      leads-from bytes (x ++ 47 ∷ v) v a (b + 1) (λ o. o ++ 47 ∷ x) w refl (λ o. ap (λ y. finish (walk (47 ∷ y) o)) p ∙ segment-moves x (path_in v) o s f) t,
    )

-- the last segment
pub last-segment : (bytes : List ℕ) (a b : ℕ) → a ≤ b → path_in (drop b bytes) ≡ [] → Lacks 47 (slice_range bytes a b) → LacksMarks (slice_range bytes a b) →
    fits_D (before 47 (path_in (drop a bytes))) ≡ false → has_dots (path_in (drop a bytes)) ≡ false
last-segment bytes a b l e s k n =
    let x = slice_range bytes a b in
    let p : path_in (drop a bytes) ≡ x ++ [] = ap path_in (drop_split bytes a b l) ∙ (path_in-append x (drop b bytes) k ∙ ap (λ y. x ++ y) e) in
    let c = cut_at 47 x [] s (inl refl) in
    dots-last (path_in (drop a bytes)) n (ap (from 47) p ∙ c.1)

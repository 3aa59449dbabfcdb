-- What a turn of the loop keeps: the path is w as it stands, its input begins at r, and its output is the first k bytes.
use Rattle.rdf_iri.proofs.Prelude.{◌≡◌, ℕ, suc, List, [], ◌∷◌, ◌++◌, ◌+◌, ◌-◌, ◌≤◌, ◌<◌, take, drop, set, length, refl, sym, ap, ◌∙◌, subst, arith, take-set-le, drop-set, drop-drop, take-take, length-take, length-drop, between_to_end, drop_of_length-le, copy_within, Walk, walk, step, skip, slash, up, keep, parent, finish, remove_dots}
use Rattle.std.proofs.lemmas.List.Edits.{take-paste, drop-paste}
use lib.Seq.{paste}
use Rattle.rdf_iri.proofs.DotsLemmas.{finish-after, finish-empty}

-- what is still to read and what is written, both within the same bytes, lead to the result
abbrev pub Keeps : List ℕ → ℕ → ℕ → List ℕ → Type 0
Keeps w r k result = finish (walk (drop r w) (take k w)) ≡ result

-- the rule, read at the rest of a path
rest_of : (w : List ℕ) (r : ℕ) (effect : Walk → Walk) →
    ((o : List ℕ) → step (walk (take (length w - r) (drop r w)) o) ≡ effect (walk (take (length w - r) (drop r w)) o)) →
    (o : List ℕ) → step (walk (drop r w) o) ≡ effect (walk (drop r w) o)
rest_of w r effect h o =
    let e = between_to_end w r (length w) (omega arith) in
    subst (λ v. step (walk v o) ≡ effect (walk v o)) e (h o)

-- a step of the rules leads to the same result
stepped : (w : List ℕ) (r k : ℕ) (result : List ℕ) (effect : Walk → Walk) → Keeps w r k result →
    ((o : List ℕ) → step (walk (take (length w - r) (drop r w)) o) ≡ effect (walk (take (length w - r) (drop r w)) o)) →
    finish (effect (walk (drop r w) (take k w))) ≡ result
stepped w r k result effect h s =
    let t = walk (drop r w) (take k w) in
    ap finish (sym (rest_of w r effect s (take k w))) ∙ (finish-after t (drop r w) refl ∙ h)

-- to drop bytes keeps it
pub skip_kept : (w : List ℕ) (r k n : ℕ) (result : List ℕ) → Keeps w r k result →
    ((o : List ℕ) → step (walk (take (length w - r) (drop r w)) o) ≡ skip n (walk (take (length w - r) (drop r w)) o)) → Keeps w (r + n) k result
skip_kept w r k n result h s =
    ap (λ v. finish (walk v (take k w))) (sym (drop-drop n r w)) ∙ stepped w r k result (skip n) h s

-- a slash written after the output
slash_set : (w : List ℕ) (r n : ℕ) → r + n < length w → drop (r + n) (set w (r + n) 47) ≡ 47 ∷ drop (suc n) (drop r w)
slash_set w r n l =
    let e : (r + n) + 1 ≡ r + suc n = omega arith in
    drop-set w (r + n) 47 l ∙ ap (λ v. 47 ∷ v) (ap (λ i. drop i w) e ∙ sym (drop-drop (suc n) r w))

-- to drop bytes and put a "/" in place of the next one keeps it
pub slash_kept : (w : List ℕ) (r k n : ℕ) (result : List ℕ) → k ≤ r → r + n < length w → Keeps w r k result →
    ((o : List ℕ) → step (walk (take (length w - r) (drop r w)) o) ≡ slash n (walk (take (length w - r) (drop r w)) o)) →
    Keeps (set w (r + n) 47) (r + n) k result
slash_kept w r k n result b l h s =
    ap (λ v. finish (walk v (take k (set w (r + n) 47)))) (slash_set w r n l)
    ∙ (ap (λ v. finish (walk (47 ∷ drop (suc n) (drop r w)) v)) (take-set-le k w (r + n) 47 (omega arith)) ∙ stepped w r k result (slash n) h s)

-- to remove the last segment of the output as well keeps it
pub up_kept : (w : List ℕ) (r k n j : ℕ) (result : List ℕ) → k ≤ r → r + n < length w → Keeps w r k result →
    ((o : List ℕ) → step (walk (take (length w - r) (drop r w)) o) ≡ up n (walk (take (length w - r) (drop r w)) o)) →
    j ≤ length (take k (set w (r + n) 47)) → take j (take k (set w (r + n) 47)) ≡ parent (take k (set w (r + n) 47)) → Keeps (set w (r + n) 47) (r + n) j result
up_kept w r k n j result b l h s m p =
    let v = set w (r + n) 47 in
    let e = take-set-le k w (r + n) 47 (omega arith) in
    let i : j ≤ k = let q = length-take k v in omega arith in
    let o : take j v ≡ parent (take k w) = sym (take-take j k v i) ∙ (p ∙ ap parent e) in
    ap (λ x. finish (walk x (take j v))) (slash_set w r n l)
    ∙ (ap (λ x. finish (walk (47 ∷ drop (suc n) (drop r w)) x)) o ∙ stepped w r k result (up n) h s)

-- a segment moved to the output
pub moved : (w : List ℕ) (r k n : ℕ) → k ≤ r → r + n ≤ length w →
    (take (k + n) (copy_within w r (r + n) k) ≡ take k w ++ take n (drop r w)) × (drop (r + n) (copy_within w r (r + n) k) ≡ drop (r + n) w)
moved w r k n b l =
    let e : (r + n) - r ≡ n = omega arith in
    let d : n ≤ length (drop r w) = omega (arith, length-drop r w) in
    let g : (r - k) + 0 ≡ r - k = omega arith in
    let i : (k + n) + (r - k) ≡ r + n = omega arith in
    let front : take (k + n) (paste w k (drop r w) n) ≡ take k w ++ take n (drop r w) = take-paste w k (drop r w) n (omega arith) d in
    let rest : drop (k + n) (paste w k (drop r w) n) ≡ drop (k + n) w = drop-paste w k (drop r w) n (omega arith) d in
    let past : (v : List ℕ) → drop (r + n) v ≡ drop (r - k) (drop (k + n) v) = λ v. sym (drop-drop (r - k) (k + n) v ∙ ap (λ j. drop j v) i) in (
      ap (λ j. take (k + n) (paste w k (drop r w) j)) e ∙ front,
      ap (λ j. drop (r + n) (paste w k (drop r w) j)) e ∙ (past (paste w k (drop r w) n) ∙ (ap (drop (r - k)) rest ∙ sym (past w))),
    )

-- to move bytes to the output keeps it
pub keep_kept : (w v : List ℕ) (r k n : ℕ) (result : List ℕ) → k ≤ r → r + n ≤ length w → v ≡ copy_within w r (r + n) k → Keeps w r k result →
    ((o : List ℕ) → step (walk (take (length w - r) (drop r w)) o) ≡ keep n (walk (take (length w - r) (drop r w)) o)) → Keeps v (r + n) (k + n) result
keep_kept w v r k n result b l e h s =
    let m = moved w r k n b l in
    let i : drop (r + n) v ≡ drop n (drop r w) = ap (drop (r + n)) e ∙ (m.1 ∙ sym (drop-drop n r w)) in
    let o : take (k + n) v ≡ take k w ++ take n (drop r w) = ap (take (k + n)) e ∙ m.0 in
    ap (λ x. finish (walk x (take (k + n) v))) i ∙ (ap (λ x. finish (walk (drop n (drop r w)) x)) o ∙ stepped w r k result (keep n) h s)

-- before the first turn nothing is written
pub at_start : (w : List ℕ) → finish (walk w []) ≡ remove_dots w
unfolding remove_dots
at_start w = refl

-- after the last one the output is the path without its dots
pub at_end : (w : List ℕ) (r k : ℕ) (result : List ℕ) → length w ≤ r → Keeps w r k result → take k w ≡ result
at_end w r k result l h = sym (finish-empty (walk (drop r w) (take k w)) (drop_of_length-le w l)) ∙ h

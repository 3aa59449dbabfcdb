-- The characters that can stand in the texts of an expression, and expressions without their empty parts.
use Rattle.rdf_terms.proofs.Prelude.{◌≡◌, ℕ, Bool, true, false, cond, List, [], ◌∷◌, ◌++◌, ◌||◌, inl, inr, sym, ap, ◌∙◌, subst, ⊎_elim, concat, AllByRecursion, or_left, or_right, false≢true, cond_both, has, Regex, Matches, nothing, empty, one, ◌·◌, ◌∣◌, many}

-- whether the character is in a class of the expression
abbrev pub uses : Regex → ℕ → Bool
uses nothing c = false
uses empty c = false
uses (one k) c = has k c
uses (r · s) c = uses r c || uses s c
uses (r ∣ s) c = uses r c || uses s c
uses (many r) c = uses r c

-- each character of the text may stand in some text of the expression
abbrev AllUsed : Regex → List ℕ → Type 0
AllUsed r w = AllByRecursion (λ c. uses r c ≡ true) w

-- what follows from a property of characters holds of all of them
all_map : (P Q : ℕ → Type 0) → ((c : ℕ) → P c → Q c) → (w : List ℕ) → AllByRecursion P w → AllByRecursion Q w
all_map P Q f [] a = tt
all_map P Q f (c ∷ w) a = (f c a.0, all_map P Q f w a.1)

-- what holds of two texts holds of both together
all_append : (P : ℕ → Type 0) (u v : List ℕ) → AllByRecursion P u → AllByRecursion P v → AllByRecursion P (u ++ v)
all_append P [] v a b = b
all_append P (c ∷ u) v a b = (a.0, all_append P u v a.1 b)

-- what holds of any number of texts holds of all together
all_concat : (P : List ℕ → Type 0) (Q : ℕ → Type 0) → ((w : List ℕ) → P w → AllByRecursion Q w) → (ws : List (List ℕ)) →
    AllByRecursion P ws → AllByRecursion Q (concat ws)
all_concat P Q f [] a = tt
all_concat P Q f (w ∷ ws) a = all_append Q w (concat ws) (f w a.0) (all_concat P Q f ws a.1)

-- what holds of all characters holds of each
all_at : (P : ℕ → Type 0) (u v : List ℕ) (c : ℕ) → AllByRecursion P (u ++ c ∷ v) → P c
all_at P [] v c a = a.0
all_at P (d ∷ u) v c a = all_at P u v c a.1

-- a text of an expression has no other characters than those it uses
pub all_used : (r : Regex) (w : List ℕ) → Matches r w → AllUsed r w
all_used nothing w m = absurd m
all_used empty w m = subst (AllUsed empty) (sym m) tt
all_used (one k) w m = subst (AllUsed (one k)) (sym m.2) (m.1, tt)
all_used (r · s) w m =
    let Q : ℕ → Type 0 = λ c. uses (r · s) c ≡ true in
    subst (AllUsed (r · s)) (sym m.4)
    (all_append Q m.0 m.1
    (all_map (λ c. uses r c ≡ true) Q (λ c h. or_left _ _ h) m.0 (all_used r m.0 m.2))
    (all_map (λ c. uses s c ≡ true) Q (λ c h. or_right _ _ h) m.1 (all_used s m.1 m.3)))
all_used (r ∣ s) w m =
    let Q : ℕ → Type 0 = λ c. uses (r ∣ s) c ≡ true in
    ⊎_elim
    (λ x. all_map (λ c. uses r c ≡ true) Q (λ c h. or_left _ _ h) w (all_used r w x))
    (λ x. all_map (λ c. uses s c ≡ true) Q (λ c h. or_right _ _ h) w (all_used s w x))
    m
all_used (many r) w m =
    subst (AllUsed (many r)) (sym m.2) (all_concat (Matches r) (λ c. uses r c ≡ true) (all_used r) m.0 m.1)

-- a text with a character that the expression does not use is none of its texts
pub not_used : (r : Regex) (u v : List ℕ) (c : ℕ) → uses r c ≡ false → Matches r (u ++ c ∷ v) → ⊥
not_used r u v c e m = false≢true (sym e ∙ all_at (λ c. uses r c ≡ true) u v c (all_used r (u ++ c ∷ v) m))

-- the same texts, written without `nothing` and `empty`
abbrev pub seq : Regex → Regex → Regex
seq nothing s = nothing
seq empty s = s
seq r s = r · s

-- whether it is `nothing` itself
abbrev pub is_nothing : Regex → Bool
is_nothing nothing = true
is_nothing r = false

-- a choice, without a side that has no texts
abbrev pub alt : Regex → Regex → Regex
alt r s = cond (is_nothing r) s (cond (is_nothing s) r (r ∣ s))

-- an expression without its empty parts, which a text of it still matches
abbrev pub clean : Regex → Regex
clean (r · s) = seq (clean r) (clean s)
clean (r ∣ s) = alt (clean r) (clean s)
clean r = r

-- a sequence matches without its empty parts
seq-matches : (r s : Regex) (w : List ℕ) → Matches (r · s) w → Matches (seq r s) w
seq-matches nothing s w m = m.2
seq-matches empty s w m = subst (Matches s) (sym (m.4 ∙ ap (λ u. u ++ m.1) m.2)) m.3
seq-matches (one k) s w m = m
seq-matches (q · r) s w m = m
seq-matches (q ∣ r) s w m = m
seq-matches (many r) s w m = m

-- what tests as nothing has no texts
no_texts : (r : Regex) (w : List ℕ) → is_nothing r ≡ true → Matches r w → ⊥
no_texts nothing w e m = m
no_texts empty w e m = false≢true e
no_texts (one k) w e m = false≢true e
no_texts (q · r) w e m = false≢true e
no_texts (q ∣ r) w e m = false≢true e
no_texts (many r) w e m = false≢true e

-- a choice matches without a side that has no texts
alt-matches : (r s : Regex) (w : List ℕ) → Matches (r ∣ s) w → Matches (alt r s) w
alt-matches r s w m =
    cond_both (is_nothing r) s (cond (is_nothing s) r (r ∣ s)) (λ x. Matches x w)
    (λ e. ⊎_elim (λ x. absurd (no_texts r w e x)) (λ x. x) m)
    (λ e. cond_both (is_nothing s) r (r ∣ s) (λ x. Matches x w)
    (λ f. ⊎_elim (λ x. x) (λ x. absurd (no_texts s w f x)) m)
    (λ f. m))

-- a text of an expression matches it without its empty parts
pub matches-clean : (r : Regex) (w : List ℕ) → Matches r w → Matches (clean r) w
matches-clean nothing w m = m
matches-clean empty w m = m
matches-clean (one k) w m = m
matches-clean (r · s) w m = seq-matches (clean r) (clean s) w (m.0, m.1, matches-clean r m.0 m.2, matches-clean s m.1 m.3, m.4)
matches-clean (r ∣ s) w m = alt-matches (clean r) (clean s) w (⊎_elim (λ x. inl (matches-clean r w x)) (λ x. inr (matches-clean s w x)) m)
matches-clean (many r) w m = m

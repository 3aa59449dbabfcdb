-- Renamed nodes have labels.
use Rattle.rdf_lines.proofs.Prelude.{◌≡◌, ◌⊎◌, ℕ, ◌+◌, ◌<◌, ◌^◌, ◌%◌, Bool, true, false, List, [], ◌∷◌, ◌++◌, inl, inr, refl, sym, ap, ◌∙◌, subst, ⊎_elim, append_assoc, arith, decimal, ◌&&◌, ◌||◌, ◌==◌, concat, AllByRecursion, false≢true, nat_tests, append-nil, decimal_by_steps, decimal_injective, is_u, is_digit, Lines, digit, pn_u, pn_char, Regex, Matches, many, dot, optional, Node, Label, Anon, Cell, IsLabel, IsNode, Style, Kept, Tagged, rename_node}
use Rattle.rdf_terms.specs.Classes.{has, scalar}
use Rattle.rdf_terms.specs.Regex.{◌·◌, ◌∣◌}
use Rattle.rdf_terms.specs.Regex.Regex.{one}

-- what may stand inside a label
abbrev middle : Regex
middle = one (pn_char Lines) ∣ dot

-- what may follow the first character of a label
abbrev rest : Regex
rest = optional (many middle · one (pn_char Lines))

-- a first character of a label may also stand in it
first_char : (c : ℕ) → has (pn_u Lines) c ≡ true → has (pn_char Lines) c ≡ true
unfolding has
first_char c h = wide (scalar c) (is_u Lines c) _ _ _ _ _ h
  where
    wide : (s u a b d e f : Bool) → (s && u) ≡ true → (s && (u || a || b || d || e || f)) ≡ true
    wide true true a b d e f h = refl
    wide true false a b d e f h = absurd (false≢true h)
    wide false u a b d e f h = absurd (false≢true h)

-- so may a digit
digit_char : (c : ℕ) → has digit c ≡ true → has (pn_char Lines) c ≡ true
unfolding has
digit_char c h = wide (scalar c) (is_u Lines c) (c == 45) (is_digit c) _ _ _ h
  where
    wide : (s u a b d e f : Bool) → (s && b) ≡ true → (s && (u || a || b || d || e || f)) ≡ true
    wide true true a true d e f h = refl
    wide true false true true d e f h = refl
    wide true false false true d e f h = refl
    wide true u a false d e f h = absurd (false≢true h)
    wide false u a b d e f h = absurd (false≢true h)

-- one more at the front of a repetition
many_before : (r : Regex) (u w : List ℕ) → Matches r u → Matches (many r) w → Matches (many r) (u ++ w)
many_before r u w m n = (u ∷ n.0, (m, n.1), ap (λ x. u ++ x) n.2)

-- one more at its end
many_then : (r : Regex) (w u : List ℕ) → Matches (many r) w → Matches r u → Matches (many r) (w ++ u)
many_then r w u n m = subst (λ x. Matches (many r) (x ++ u)) (sym n.2) (at n.0 n.1)
  where
    at : (ps : List (List ℕ)) → AllByRecursion (Matches r) ps → Matches (many r) (concat ps ++ u)
    at [] a = (u ∷ [], (m, tt), sym (append-nil u))
    at (p ∷ ps) a = subst (Matches (many r)) (sym (append_assoc p (concat ps) u)) (many_before r p (concat ps ++ u) a.0 (at ps a.1))

-- one more character in front of the rest of a label
rest_before : (u w : List ℕ) → Matches (one (pn_char Lines)) u → Matches rest w → Matches (many middle · one (pn_char Lines)) (u ++ w)
rest_before u w m n =
    ⊎_elim
    (λ e. subst (λ x. Matches (many middle · one (pn_char Lines)) (u ++ x)) (sym e) ([], u, ([], tt, refl), m, append-nil u))
    (λ t. (u ++ t.0, t.1, many_before middle u t.0 (inl m) t.2, t.3, ap (λ x. u ++ x) t.4 ∙ sym (append_assoc u t.0 t.1)))
    n

-- a label with a letter or a digit in front is a label
pub label_front : (c : ℕ) (x : List ℕ) → (has (pn_u Lines) c ≡ true) ⊎ (has digit c ≡ true) → IsLabel x → IsLabel (c ∷ x)
label_front c x h m =
    let first : Matches (one (pn_char Lines)) m.0 = ⊎_elim (λ a. (a.0, first_char a.0 a.1, a.2)) (λ a. (a.0, digit_char a.0 a.1, a.2)) m.2 in (
      c ∷ [],
      x,
      ⊎_elim (λ u. inl (c, u, refl)) (λ d. inr (c, d, refl)) h,
      inr (subst (Matches (many middle · one (pn_char Lines))) (sym m.4) (rest_before m.0 m.1 first m.3)),
      refl,
    )

-- a label with a character at its end is a label, if it is no dot
label_more : (x : List ℕ) (c : ℕ) → has (pn_char Lines) c ≡ true → IsLabel x → IsLabel (x ++ c ∷ [])
label_more x c h m =
    let end : Matches rest (m.1 ++ c ∷ []) = ⊎_elim
    (λ e. subst (λ y. Matches rest (y ++ c ∷ [])) (sym e) (inr ([], c ∷ [], ([], tt, refl), (c, h, refl), refl)))
    (λ t. inr (m.1, c ∷ [], subst (Matches (many middle)) (sym t.4) (many_then middle t.0 t.1 t.2 (inl t.3)), (c, h, refl), refl))
    m.3 in
    (m.0, m.1 ++ c ∷ [], m.2, end, ap (λ y. y ++ c ∷ []) m.4 ∙ append_assoc m.0 m.1 (c ∷ []))

-- a digit that is written is a digit of the grammar
written_digit : (d : ℕ) → d < 10 → has digit (48 + d) ≡ true
unfolding has
written_digit d l = grind (arith, nat_tests)

-- a digit that is written may stand in a label
digit_at : (d : ℕ) → d < 10 → has (pn_char Lines) (48 + d) ≡ true
digit_at d l = digit_char (48 + d) (written_digit d l)

-- a letter alone is a label
letter_label : (c : ℕ) → has (pn_u Lines) c ≡ true → IsLabel (c ∷ [])
letter_label c h = (c ∷ [], [], inl (c, h, refl), inl refl, refl)

-- a letter and a number are a label, so nodes without a label can be named by their offsets
label_number : (c : ℕ) → has (pn_u Lines) c ≡ true → (n : ℕ) → n < 2 ^ 64 → IsLabel (c ∷ decimal n)
label_number c h =
    decimal_by_steps (λ n ds. IsLabel (c ∷ ds))
    (λ n l. label_more (c ∷ []) (48 + n) (digit_at n l) (letter_label c h))
    (λ n ds l m. label_more (c ∷ ds) (48 + n % 10) (digit_at (n % 10) (omega arith)) m)

-- a node that a style names is one still
pub renamed_node : (s : Style) (n : Node) → IsNode n → IsNode (rename_node s n)
unfolding has
renamed_node Kept n h = h
renamed_node Tagged (Label x) h = label_front 110 x (inl refl) h
renamed_node Tagged (Anon n) h = label_number 97 refl n h
renamed_node Tagged (Cell n) h = label_number 99 refl n h

-- equal labels begin alike, which keeps the three sorts of names apart
same_head : {c d : ℕ} {u v : List ℕ} → Label (c ∷ u) ≡ Label (d ∷ v) → c ≡ d
same_head e = cc

-- Two nodes never get one name.
pub rename_injective : (s : Style) (m n : Node) → IsNode m → IsNode n → rename_node s m ≡ rename_node s n → m ≡ n
rename_injective Kept m n g h e = e
rename_injective Tagged (Label x) (Label y) g h e = let z : x ≡ y = cc in ap Label z
rename_injective Tagged (Anon x) (Anon y) g h e = let z : decimal x ≡ decimal y = cc in ap Anon (decimal_injective x y g h z)
rename_injective Tagged (Cell x) (Cell y) g h e = let z : decimal x ≡ decimal y = cc in ap Cell (decimal_injective x y g h z)
rename_injective Tagged (Label x) (Anon y) g h e = absurd (let z : 110 ≡ 97 = same_head e in omega arith)
rename_injective Tagged (Label x) (Cell y) g h e = absurd (let z : 110 ≡ 99 = same_head e in omega arith)
rename_injective Tagged (Anon x) (Label y) g h e = absurd (let z : 97 ≡ 110 = same_head e in omega arith)
rename_injective Tagged (Anon x) (Cell y) g h e = absurd (let z : 97 ≡ 99 = same_head e in omega arith)
rename_injective Tagged (Cell x) (Label y) g h e = absurd (let z : 99 ≡ 110 = same_head e in omega arith)
rename_injective Tagged (Cell x) (Anon y) g h e = absurd (let z : 99 ≡ 97 = same_head e in omega arith)

-- A word that is said, and those that follow.
use Rattle.rdf_stream.proofs.Prelude.{◌≡◌, ◌∙◌, ◌-◌, ℕ, List, [], ◌∷◌, ◌++◌, ap, append_assoc, arith, codes, length, refl, sym, append-nil, between, expected_by, listed}

-- the line with a word more, and what stands after it
pub put_one : (line w whole : List ℕ) (these rest : List (List ℕ)) (left : ℕ) → these ≡ w ∷ rest → line ++ listed these ≡ whole → left ≡ length these
    → ((line ++ w) ++ between (left - 1)) ++ listed rest ≡ whole
put_one line w whole these rest left is has count =
    let after : left - 1 ≡ length rest = omega (arith, ap length is, count) in
    let all : line ++ ((w ++ between (length rest)) ++ listed rest) ≡ whole = ap (λ ws. line ++ listed ws) (sym is) ∙ has in
    let same : line ++ ((w ++ between (left - 1)) ++ listed rest) ≡ whole = ap (λ n. line ++ ((w ++ between n) ++ listed rest)) after ∙ all in
    ap (λ l. l ++ listed rest) (append_assoc line w (between (left - 1))) ∙ (append_assoc line (w ++ between (left - 1)) (listed rest) ∙ same)

-- where no word is said nothing is told
pub none_told : (old : List ℕ) (ws : List (List ℕ)) → length ws ≡ 0 → old ≡ old ++ expected_by ws
none_told old [] e = sym (append-nil old)
none_told old (w ∷ ws) e = absurd (omega (arith, e))

-- and else what is told begins so
pub some_told : (old : List ℕ) (ws : List (List ℕ)) → (length ws ≡ 0 → ⊥) → (old ++ codes "; expected ") ++ listed ws ≡ old ++ expected_by ws
some_told old [] some = absurd (some refl)
some_told old (w ∷ ws) some = append_assoc old (codes "; expected ") (listed (w ∷ ws))

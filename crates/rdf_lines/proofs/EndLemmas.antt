-- What the end does to a run.
use Rattle.rdf_lines.proofs.Prelude.{◌≡◌, ℕ, Bool, List, [], ◌∷◌, ◌++◌, ◌⊎◌, inl, inr, refl, sym, ap, ◌∙◌, subst, ⊎_elim, Kind, End, Unexpected, Quad, Token, LineForm, NTriples, NQuads, Leaf, leaf_of, Mode, Begin, AfterString, AfterObject, AfterDot, Finished, goes, refuses, accept, ran, refused, go_on, run}
use Rattle.rdf_lines.proofs.Runs.{with_quads, run_one, then_ran, run_append}

-- The end finishes a document, or is refused.
accept_end : (test : List ℕ → Bool) (f : LineForm) (m : Mode) (l : Leaf) →
    (accept test f m End l ≡ goes Finished) ⊎ (accept test f m End l ≡ refuses Unexpected)
accept_end test f Begin l = inl refl
accept_end test f AfterDot l = inl refl
accept_end test NTriples (AfterString s p w) l = inr refl
accept_end test NQuads (AfterString s p w) l = inr refl
accept_end test NTriples (AfterObject s p o) l = inr refl
accept_end test NQuads (AfterObject s p o) l = inr refl
accept_end test f m l = inr refl

-- Each token of this kind leads into this mode, or is refused.
abbrev pub LeadsInto : Kind → Mode → Type 0
LeadsInto k into = (test : List ℕ → Bool) (f : LineForm) (m : Mode) (l : Leaf) → (accept test f m k l ≡ goes into) ⊎ (accept test f m k l ≡ refuses Unexpected)

-- So a run whose last token is one is in that mode.
pub leads_into : (k : Kind) (into : Mode) → LeadsInto k into → (test : List ℕ → Bool) (f : LineForm) (ts : List Token) (t : Token) (m n : Mode) (qs : List Quad)
    → run test f m (ts ++ t ∷ []) ≡ ran n qs → t.kind ≡ k → n ≡ into
leads_into k into leads test f ts t m n qs e is =
    let before = then_ran (run test f m ts) (λ x. run test f x (t ∷ [])) n qs (sym (run_append test f ts (t ∷ []) m) ∙ e) in
    let one = run_one test f ts t m before.0 before.1 before.2 in
    by before.0 before.1 (sym one ∙ e)
  where
    by : (x : Mode) (rs : List Quad) → with_quads rs (go_on (accept test f x t.kind (leaf_of t)) (λ j. ran j [])) ≡ ran n qs → n ≡ into
    by x rs h =
        let h : with_quads rs (go_on (accept test f x k (leaf_of t)) (λ j. ran j [])) ≡ ran n qs =
        subst (λ k. with_quads rs (go_on (accept test f x k (leaf_of t)) (λ j. ran j [])) ≡ ran n qs) is h in
        ⊎_elim
        (λ a. let z : ran into (rs ++ []) ≡ ran n qs = sym (ap (λ y. with_quads rs (go_on y (λ j. ran j []))) a) ∙ h in cc)
        (λ a. absurd (let z : refused Unexpected ≡ ran n qs = sym (ap (λ y. with_quads rs (go_on y (λ j. ran j []))) a) ∙ h in cc))
        (leads test f x (leaf_of t))

-- After the end a document is finished.
pub end_finishes : (test : List ℕ → Bool) (f : LineForm) (ts : List Token) (t : Token) (m n : Mode) (qs : List Quad) →
    run test f m (ts ++ t ∷ []) ≡ ran n qs → t.kind ≡ End → n ≡ Finished
end_finishes = leads_into End Finished accept_end

-- Only line ends and long strings have line feeds.
use Rattle.rdf_tokens.proofs.Prelude.{◌≡◌, ℕ, ◌+◌, Bool, true, false, cond, List, [], ◌∷◌, ◌==◌, refl, sym, ap, ◌∙◌, take, arith, ⊎_elim, count_by, AllByRecursion, cases_Bool, eqb-true, false≢true, Dialect, Lines, Turtle, Kind, IriRef, LabelNode, ShortString, LongString, LangTag, Carets, LineEnd, End, has, Matches, Shape, shape, is_flat, Tail}
use Rattle.rdf_terms.specs.declared.kind.Kind.TheVariants.{Dot}
use Rattle.rdf_terms.proofs.UsedCharacters.{uses, all_used}
use Rattle.rdf_tokens.specs.Tokens.{step}
use Rattle.rdf_tokens.specs.Tokens.Step.{token}
use Rattle.rdf_tokens.proofs.PlaceLemmas.{feeds-append}
use Rattle.rdf_tokens.proofs.StepLemmas.{step-token}

-- the shape of a flat kind has no line feed
no_feed : (d : Dialect) (k : Kind) → is_flat k ≡ true → uses (shape d k) 10 ≡ false
unfolding shape has
no_feed d IriRef e = refl
no_feed Lines LabelNode e = refl
no_feed Turtle LabelNode e = refl
no_feed Lines ShortString e = refl
no_feed Turtle ShortString e = refl
no_feed d LongString e = absurd (false≢true e)
no_feed d LangTag e = refl
no_feed d Carets e = refl
no_feed d Dot e = refl
no_feed d LineEnd e = absurd (false≢true e)
no_feed d End e = refl
no_feed Lines k e = refl
no_feed Turtle k e = refl

-- what has the shape of a kind matches its expression
matched : (d : Dialect) (k : Kind) (w : List ℕ) → Shape d k w → Matches (shape d k) w
matched d LangTag w h = h.0
matched d k w h = h

-- a text without a character has none of it to count
none_counted : (r : ℕ → Bool) → r 10 ≡ false → (w : List ℕ) → AllByRecursion (λ c. r c ≡ true) w → count_by (λ c. c == 10) w ≡ 0
none_counted r e [] a = refl
none_counted r e (c ∷ w) a = ⊎_elim
    (λ t. absurd (false≢true (sym e ∙ (ap r (sym (eqb-true c 10 t)) ∙ a.0))))
    (λ f.
    let all = feeds-append (c ∷ []) w in
    let one : count_by (λ c. c == 10) (c ∷ []) ≡ 0 = ap (λ b. 0 + cond b 1 0) f in
    let rest = none_counted r e w a.1 in
    omega (arith, all, one, rest))
    (cases_Bool (c == 10))

-- a token of a flat kind has no line feed, so the code need not count lines in it
pub flat_text : (d : Dialect) (limit : ℕ) (t : Tail) (w : List ℕ) (n : ℕ) (k : Kind) → step d limit t w ≡ token n k → is_flat k ≡ true →
    count_by (λ c. c == 10) (take n w) ≡ 0
flat_text d limit t w n k e f =
    let m = matched d k (take n w) (step-token d limit t w n k e).0 in
    none_counted (uses (shape d k)) (no_feed d k f) (take n w) (all_used (shape d k) (take n w) m)

-- What a look tells is the step.
use Rattle.rdf_tokens.proofs.Prelude.{◌≡◌, ℕ, ◌≤◌, Bool, true, false, cond, List, [], ◌∷◌, ◌++◌, ◌||◌, ◌⊎◌, inr, refl, sym, ap, ◌∙◌, subst, ⊎_elim, length, length-append, take, arith, Option, Some, None, IsUtf8, encode_utf8, encode_utf8_all, chars, cond-true, cond-false, true≢false, false≢true, encodes-chars, length-encode, len_utf8_bounds, Kind, Dialect, is_live, is_fit, BadEscape, Stop, Tail, longest, over, is_empty, chosen, decided, by_tail, ended, broken, token_too_long, bad_escape, bytes_of, in_bytes, IsLook, CutsAt, chosen_by, decided_by}
use Rattle.rdf_tokens.specs.declared.look.Look.TheVariants.{Token as Given}
use Rattle.rdf_tokens.specs.Tokens.{step}
use Rattle.rdf_tokens.specs.Tokens.Tail.{goes_on}
use Rattle.rdf_tokens.specs.Tokens.Step.{token, stop}
use Rattle.rdf_tokens.specs.Quick.{IsToken}
use Rattle.rdf_tokens.proofs.ByteLemmas.{cut}
use Rattle.rdf_tokens.proofs.TokensLemmas.{longest_fits}

-- a text is empty by its bytes or its characters
empty-encodes : (w : List ℕ) → is_empty (encode_utf8_all w) ≡ is_empty w
empty-encodes [] = refl
empty-encodes (c ∷ w) = go (encode_utf8 c ++ encode_utf8_all w)
    (omega (arith, length-append (encode_utf8 c) (encode_utf8_all w), length-encode c, len_utf8_bounds c))
  where
    go : (v : List ℕ) → 1 ≤ length v → is_empty v ≡ false
    go [] l = absurd (omega arith)
    go (x ∷ v) l = refl

-- a text is empty exactly where it has no bytes
pub empty-bytes : (bs : List ℕ) → IsUtf8 bs → is_empty bs ≡ is_empty (chars bs)
empty-bytes bs u = ap is_empty (sym (encodes-chars bs u)) ∙ empty-encodes (chars bs)

-- the step, as far as the limit and the tail decide it
pub step-over : (d : Dialect) (limit : ℕ) (t : Tail) (w : List ℕ) → over d limit w ≡ true → step d limit t w ≡ stop token_too_long
unfolding step
step-over d limit t w o = cond-true _ _ _ o

-- where no token is too long, the step is decided by what comes next
pub step-open : (d : Dialect) (limit : ℕ) (t : Tail) (w : List ℕ) (b : Bool) → over d limit w ≡ false → b ≡ (is_empty w || is_live d w) →
    step d limit t w ≡ by_tail d t w b
unfolding step
step-open d limit t w b o e = cond-false _ _ _ o ∙ ap (by_tail d t w) (sym e)

-- where nothing more can change it, the step is decided by the longest front
pub step-done : (d : Dialect) (limit : ℕ) (t : Tail) (w : List ℕ) (b : Bool) → over d limit w ≡ false → b ≡ (is_empty w || is_live d w) →
    (t ≡ ended) ⊎ (b ≡ false) →
    step d limit t w ≡ decided d w
step-done d limit t w b o e h =
    step-open d limit t w b o e ∙ ⊎_elim (λ x. ap (λ t. by_tail d t w b) x ∙ at_end b) (λ x. ap (by_tail d t w) x ∙ at_false t) h
  where
    at_end : (b : Bool) → by_tail d ended w b ≡ decided d w
    at_end true = refl
    at_end false = refl

    at_false : (t : Tail) → by_tail d t w false ≡ decided d w
    at_false goes_on = refl
    at_false ended = refl
    at_false broken = refl

-- the decision by the longest front
chosen-look : (bs w : List ℕ) (o : Option (ℕ × Kind)) → ((n : ℕ) (k : Kind) → o ≡ Some (n, k) → (n ≤ length w) × (chars (take (bytes_of n w) bs) ≡ take n w)) →
    IsLook (chosen_by bs (in_bytes w o)) (chosen w o) w
chosen-look bs w None h = refl
chosen-look bs w (Some x) h =
    let p = h x.0 x.1 refl in
    subst (λ u. IsLook (cond (is_fit x.1 u) (Given (bytes_of x.0 w) x.1) (Stop BadEscape)) (chosen w (Some x)) w) (sym p.1) (go (is_fit x.1 (take x.0 w)) p.0)
  where
    go : (t : Bool) → x.0 ≤ length w → IsLook (cond t (Given (bytes_of x.0 w) x.1) (Stop BadEscape)) (cond t (token x.0 x.1) (stop bad_escape)) w
    go true l = (x.0, refl, l, refl)
    go false l = refl

-- a decision in bytes tells the step, if each front in bytes is one in characters
decided-front : (d : Dialect) (bs w : List ℕ) → is_empty bs ≡ is_empty w →
    ((n : ℕ) (k : Kind) → longest d w (length w) ≡ Some (n, k) → (n ≤ length w) × (chars (take (bytes_of n w) bs) ≡ take n w)) →
    IsLook (decided_by bs (in_bytes w (longest d w (length w)))) (decided d w) w
decided-front d [] [] e h = refl
decided-front d [] (c ∷ w) e h = absurd (true≢false e)
decided-front d (x ∷ bs) [] e h = absurd (false≢true e)
decided-front d (x ∷ bs) (c ∷ w) e h = chosen-look (x ∷ bs) (c ∷ w) (longest d (c ∷ w) (length (c ∷ w))) h

-- the decision of the code on a str is the step on its characters
pub decided-look : (d : Dialect) (bs : List ℕ) (best : Option (ℕ × Kind)) → IsUtf8 bs → best ≡ in_bytes (chars bs) (longest d (chars bs) (length (chars bs))) →
    IsLook (decided_by bs best) (decided d (chars bs)) (chars bs)
decided-look d bs best u e =
    let w = chars bs in
    subst (λ b. IsLook (decided_by bs b) (decided d w) w) (sym e)
    (decided-front d bs w (empty-bytes bs u) (λ n k l. ((longest_fits d w (length w) n k l).1, (cut bs (bytes_of n w) n u refl).front)))

-- the front that was found ends between two characters, so the text can be cut there
pub cuts-front : (d : Dialect) (bs : List ℕ) (best : Option (ℕ × Kind)) → IsUtf8 bs →
    best ≡ in_bytes (chars bs) (longest d (chars bs) (length (chars bs))) → CutsAt bs best
cuts-front d bs best u e = subst (CutsAt bs) (sym e) (go (longest d (chars bs) (length (chars bs))))
  where
    go : (o : Option (ℕ × Kind)) → CutsAt bs (in_bytes (chars bs) o)
    go None = tt
    go (Some x) = (cut bs (bytes_of x.0 (chars bs)) x.0 u refl).boundary

-- a text that begins with a token is not empty
not-empty : (d : Dialect) (w : List ℕ) (n : ℕ) (k : Kind) → in_bytes w (longest d w (length w)) ≡ Some (n, k) → is_empty w ≡ false
not-empty d [] n k e = absurd (let h : None ≡ Some (n, k) = e in cc)
not-empty d (c ∷ w) n k e = refl

-- a token that nothing makes longer is the step, whatever comes after the text
pub token-look : (d : Dialect) (limit : ℕ) (t : Tail) (bs : List ℕ) (n : ℕ) (k : Kind) → IsUtf8 bs → over d limit (chars bs) ≡ false → IsToken d bs n k →
    IsLook (Given n k) (step d limit t (chars bs)) (chars bs)
token-look d limit t bs n k u o q =
    let w = chars bs in
    let e = not-empty d w n k q.best in
    let told : IsLook (Given n k) (decided d w) w =
    subst (λ l. IsLook l (decided d w) w) (go bs (empty-bytes bs u ∙ e) q.fit) (decided-look d bs (Some (n, k)) u (sym q.best)) in
    subst (λ s. IsLook (Given n k) s w) (sym (step-done d limit t w false o (sym (ap (λ x. x || is_live d w) e ∙ q.closed)) (inr refl))) told
  where
    go : (v : List ℕ) → is_empty v ≡ false → is_fit k (chars (take n v)) ≡ true → decided_by v (Some (n, k)) ≡ Given n k
    go [] e f = absurd (true≢false e)
    go (x ∷ v) e f = ap (λ t. cond t (Given n k) (Stop BadEscape)) f

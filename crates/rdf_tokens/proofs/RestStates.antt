-- The states that a run of bytes leaves as they are, by a test of each byte.
use Rattle.rdf_tokens.proofs.Prelude.{◌≡◌, ℕ, ◌<◌, ◌==◌, Bool, true, false, not, ◌||◌, nat_lt, List, [], ◌∷◌, get_or, refl, sym, ap, ◌∙◌, arith, ⊎_elim, agree_below, agree_below_at, cases_lt, cond-false, eqb-true, le-ltb, false≢true, nat_tests, goes_over, iri_byte, IsRun, is_long_byte, is_name_byte, is_short_byte, Dialect, State, Quote, Single, Rests, long_run, short_run, wide_of}
use Rattle.rdf_tokens.specs.declared.states.machine.State.TheVariants as state
use Rattle.rdf_tokens.specs.declared.states.iri.Iri.TheVariants as iri_state
use Rattle.rdf_tokens.specs.declared.states.label.Label.TheVariants as label_state
use Rattle.rdf_tokens.specs.declared.states.text.Quote.TheVariants.{Double}
use Rattle.rdf_tokens.specs.declared.states.text.Text.{Text}
use Rattle.rdf_tokens.specs.declared.states.text.Text.TheVariants as text_state
use Rattle.rdf_tokens.specs.declared.states.text.Sort.TheVariants as text_sort
use Rattle.rdf_tokens.specs.declared.states.name.Name.TheVariants as name_state
use Rattle.rdf_tokens.specs.Machine.{step}
use Rattle.rdf_tokens.specs.Iri as iri
use Rattle.rdf_tokens.specs.Text as text
use Rattle.rdf_tokens.proofs.RestLemmas.{rests_run}

-- the states that are left as they are, one by one
abbrev place : State → ℕ
place (state.Iri iri_state.Inside) = 1
place (state.Text (text_state.Short Double)) = 2
place (state.Text (text_state.Short Single)) = 3
place (state.Text (text_state.Long Double)) = 4
place (state.Text (text_state.Long Single)) = 5
place (state.Name name_state.Prefix) = 6
place (state.Name name_state.Local) = 7
place (state.Label label_state.Name) = 8
place s = 0

-- the states that a run can leave as they are
abbrev all : List State
all = state.Dead ∷ state.Iri iri_state.Inside ∷ state.Text (text_state.Short Double) ∷ state.Text (text_state.Short Single) ∷ state.Text
    (text_state.Long Double)
    ∷ state.Text (text_state.Long Single) ∷ state.Name name_state.Prefix ∷ state.Name name_state.Local ∷ state.Label label_state.Name ∷ []

-- the state of a number
abbrev at_place : ℕ → State
at_place n = get_or all n state.Dead

-- the numbers are right
there : (s : State) → (place s ≡ 0 → ⊥) → at_place (place s) ≡ s
there (state.Iri iri_state.Inside) n = refl
there (state.Text (text_state.Short Double)) n = refl
there (state.Text (text_state.Short Single)) n = refl
there (state.Text (text_state.Long Double)) n = refl
there (state.Text (text_state.Long Single)) n = refl
there (state.Name name_state.Prefix) n = refl
there (state.Name name_state.Local) n = refl
there (state.Label label_state.Name) n = refl
there s n = absurd (n refl)

-- an ASCII character that passes leaves the state as it is
abbrev rests_at : Dialect → State → (ℕ → Bool) → ℕ → Bool
rests_at d s p c = not (p c) || (place (step d s c) == place s)

-- an ASCII byte that passes leaves the state as it is, by a test of each
low : (d : Dialect) (s : State) (p : ℕ → Bool) → (place s ≡ 0 → ⊥) → agree_below (rests_at d s p) (λ _. true) 128 ≡ true → (c : ℕ) →
    c < 128 → p c ≡ true → step d s c ≡ s
low d s p n all c l pc =
    let t : (place (step d s c) == place s) ≡ true =
    sym (ap (λ b. not b || (place (step d s c) == place s)) pc) ∙ agree_below_at (rests_at d s p) (λ _. true) 128 c all l in
    let e = eqb-true (place (step d s c)) (place s) t in
    sym (there (step d s c) (λ z. n (sym e ∙ z))) ∙ (ap at_place e ∙ there s n)

-- what an IRIREF excludes is ASCII
iri_below : (x : ℕ) → iri_byte x ≡ false → x < 128
iri_below x e = ⊎_elim (λ l. l) (λ l. absurd (let h : iri_byte x ≡ true = grind (arith, nat_tests) in false≢true (sym e ∙ h))) (cases_lt x 128)

-- what ends a run in a string is ASCII
short_below : (q x : ℕ) → q < 128 → is_short_byte q x ≡ false → x < 128
short_below q x a e = ⊎_elim (λ l. l) (λ l. absurd (let h : is_short_byte q x ≡ true = grind (arith, nat_tests) in false≢true (sym e ∙ h))) (cases_lt x 128)

pub long_below : (q x : ℕ) → q < 128 → is_long_byte q x ≡ false → x < 128
long_below q x a e = ⊎_elim (λ l. l) (λ l. absurd (let h : is_long_byte q x ≡ true = grind (arith, nat_tests) in false≢true (sym e ∙ h))) (cases_lt x 128)

-- a run in a name is ASCII
name_below : (x : ℕ) → is_name_byte x ≡ true → x < 128
name_below x e = ⊎_elim (λ l. l) (λ l. absurd (let h : is_name_byte x ≡ false = grind (arith, nat_tests) in false≢true (sym h ∙ e))) (cases_lt x 128)

-- a run of IRI bytes leaves the state within an IRIREF as it is, so the code may skip it
pub rests_iri : (bs : List ℕ) (at end : ℕ) → IsRun iri_byte bs at end → Rests (state.Iri iri_state.Inside) bs at end
rests_iri bs at end r =
    rests_run (state.Iri iri_state.Inside) iri_byte bs at end r
    (λ d c l e. low d (state.Iri iri_state.Inside) iri_byte (λ (z : 1 ≡ 0). omega (arith, z)) refl c l e)
    (λ d c b l h e. ap (λ x. state.Iri (iri.move iri_state.Inside x)) (cond-false (nat_lt c 128) (iri.ascii c) (iri.high (wide_of c)) (le-ltb c 128 l)))
    (λ b x h p e. iri_below x e)

-- a run of a string's bytes leaves a state within it as it is, if it leaves it for each byte
rests_text : (s : Text) (p : ℕ → Bool) → ((d : Dialect) → agree_below (rests_at d (state.Text s) p) (λ _. true) 128 ≡ true) → (place (state.Text s) ≡ 0 → ⊥) →
    ((d : Dialect) → text.move d s text_sort.Plain ≡ s) → ((x : ℕ) → p x ≡ false → x < 128) →
    (bs : List ℕ) (at end : ℕ) → IsRun p bs at end → Rests (state.Text s) bs at end
rests_text s p all n plain below bs at end r =
    rests_run (state.Text s) p bs at end r
    (λ d c l e. low d (state.Text s) p n (all d) c l e)
    (λ d c b l h e. ap (λ x. state.Text (text.move d s x))
    (cond-false (nat_lt c 128) (text.ascii c) (text.high (wide_of c)) (le-ltb c 128 l)) ∙ ap (λ t. state.Text t) (plain d))
    (λ b x h p e. below x e)

-- so in a string with one quote at each end
pub rests_short : (q : Quote) (bs : List ℕ) (at end : ℕ) → IsRun (goes_over (short_run q)) bs at end → Rests (state.Text (text_state.Short q)) bs at end
rests_short Double bs at end r =
    rests_text (text_state.Short Double) (is_short_byte 34) (λ d. refl) (λ (z : 2 ≡ 0). omega (arith, z)) (λ d. refl)
    (λ x e. short_below 34 x (omega arith) e) bs at end r
rests_short Single bs at end r =
    rests_text (text_state.Short Single) (is_short_byte 39) (λ d. refl) (λ (z : 3 ≡ 0). omega (arith, z)) (λ d. refl)
    (λ x e. short_below 39 x (omega arith) e) bs at end r

-- and in one with three quotes at each end
pub rests_long : (q : Quote) (bs : List ℕ) (at end : ℕ) → IsRun (goes_over (long_run q)) bs at end → Rests (state.Text (text_state.Long q)) bs at end
rests_long Double bs at end r =
    rests_text (text_state.Long Double) (is_long_byte 34) (λ d. refl) (λ (z : 4 ≡ 0). omega (arith, z)) (λ d. refl)
    (λ x e. long_below 34 x (omega arith) e) bs at end r
rests_long Single bs at end r =
    rests_text (text_state.Long Single) (is_long_byte 39) (λ d. refl) (λ (z : 5 ≡ 0). omega (arith, z)) (λ d. refl)
    (λ x e. long_below 39 x (omega arith) e) bs at end r

-- a run of name bytes leaves a state as it is, if it leaves it for each byte
rests_name : (s : State) → ((d : Dialect) → agree_below (rests_at d s is_name_byte) (λ _. true) 128 ≡ true) → (place s ≡ 0 → ⊥) →
    (bs : List ℕ) (at end : ℕ) → IsRun is_name_byte bs at end → Rests s bs at end
rests_name s all n bs at end r =
    rests_run s is_name_byte bs at end r
    (λ d c l e. low d s is_name_byte n (all d) c l e)
    (λ d c b l h e. absurd (let x = name_below b e in omega arith))
    (λ b x h p e. absurd (let y = name_below b p in omega arith))

-- a run of name bytes leaves the state as it is in a prefix
pub rests_prefix : (bs : List ℕ) (at end : ℕ) → IsRun is_name_byte bs at end → Rests (state.Name name_state.Prefix) bs at end
rests_prefix bs at end r = rests_name (state.Name name_state.Prefix) (λ d. refl) (λ (z : 6 ≡ 0). omega (arith, z)) bs at end r

-- a run of name bytes leaves the state as it is in a local part
pub rests_local : (bs : List ℕ) (at end : ℕ) → IsRun is_name_byte bs at end → Rests (state.Name name_state.Local) bs at end
rests_local bs at end r = rests_name (state.Name name_state.Local) (λ d. refl) (λ (z : 7 ≡ 0). omega (arith, z)) bs at end r

-- a run of name bytes leaves the state as it is in a label
pub rests_label : (bs : List ℕ) (at end : ℕ) → IsRun is_name_byte bs at end → Rests (state.Label label_state.Name) bs at end
rests_label bs at end r = rests_name (state.Label label_state.Name) (λ d. refl) (λ (z : 8 ≡ 0). omega (arith, z)) bs at end r

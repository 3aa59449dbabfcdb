-- The words `true` and `false` before a byte with which no name goes on: the states have no token there, and the spellings have one.
use Rattle.rdf_tokens.proofs.Prelude.{◌≡◌, ℕ, ◌+◌, ◌<◌, true, false, nat_lt, List, [], ◌∷◌, ◌++◌, ◌==◌, refl, sym, ap, ◌∙◌, length, get_or, take, drop, arith, Some, None, IsUtf8, agree_below_at, and_parts, false≢true, eqb-true, ltb-true, drop_more, get_or_append_left, encode_ascii, length-encode, starts_with, chars, Kind, True, False, Turtle, IsRun, is_name_byte, fixed, is_fit, three_quotes, only_long, live_by, rows_of, front_by, ends_name, is_name_end, is_word}
use Rattle.rdf_terms.specs.Classes.{is_letter}
use Rattle.rdf_tokens.specs.declared.states.machine.State.TheVariants.{Name}
use Rattle.rdf_tokens.specs.declared.states.name.Name.TheVariants as name
use Rattle.rdf_tokens.specs.Machine.{step, kind_at}
use Rattle.rdf_tokens.specs.Quick.{IsToken}
use Rattle.rdf_tokens.proofs.ByteLemmas.{ascii_first}
use Rattle.rdf_tokens.proofs.NoNamesLemmas.{implied, letter_steps, low-letter, no_long}
use Rattle.rdf_tokens.proofs.QuickLemmas.{ended-state, first-none, other, settled, word_tests}
use Rattle.rdf_tokens.proofs.RestLemmas.{reached-run}
use Rattle.rdf_tokens.proofs.RestStates.{rests_prefix}
use Rattle.rdf_tokens.proofs.StateLemmas.{reached-step}

-- A word that begins with a letter, before a byte with which no name goes on: the states tell of no token, so the spellings do.
word_at : (bs : List ℕ) (end : ℕ) (k : Kind) → IsUtf8 bs → is_letter (get_or bs 0 0) ≡ true → IsRun is_name_byte bs 1 end → is_name_end bs end ≡ true →
    front_by (rows_of Turtle fixed) bs ≡ Some (end, k) → live_by (rows_of Turtle fixed) bs ≡ false → is_fit k (chars (take end bs)) ≡ true →
    IsToken Turtle bs end k
word_at bs end k u l r z f v t =
    let c = get_or bs 0 0 in
    let x = get_or bs end 0 in
    let three = three_quotes Turtle (chars bs) in
    let p = and_parts (nat_lt end (length bs)) _ z in
    let i : end < length bs = ltb-true end (length bs) p.0 in
    let first = first-none Turtle bs (Name name.Prefix) u (omega arith) (low-letter c l) (sym (letter_steps c l).0) refl in
    let prefix = reached-run Turtle bs 1 end (Name name.Prefix) None None (sym (no_long three)) (rests_prefix bs 1 end r) first in
    let low : x < 128 = ltb-true x 128 (and_parts (nat_lt x 128) _ p.1).0 in
    let s = step Turtle (Name name.Prefix) x in
    let d = ended-state s (other (is_name_byte x) _ (implied (ends_name x) _ (agree_below_at word_tests (λ c. true) 128 x refl low) p.1) (r.stops i)) in
    let none : None ≡ only_long three (kind_at s) = sym (ap (only_long three) d.0 ∙ no_long three) in
    let next = reached-step Turtle bs end (end + 1) x (Name name.Prefix) s None None None prefix (ascii_first bs end i low)
    (omega (arith, ap length (encode_ascii x low), length-encode x)) (omega arith) refl none refl in
    settled Turtle bs (end + 1) s None (Some (end, k)) end k u next d.1 (sym f) v refl t

-- a text that starts with a word is the word and what is left
word-front : (bs w : List ℕ) → starts_with ◌==◌ bs w ≡ true → bs ≡ w ++ drop (length w) bs
word-front bs [] e = refl
word-front [] (c ∷ w) e = absurd (false≢true e)
word-front (x ∷ bs) (c ∷ w) e =
    let p = and_parts (c == x) (starts_with ◌==◌ bs w) e in ap (λ z. z ∷ bs) (sym (eqb-true c x p.0)) ∙ ap (λ s. c ∷ s) (word-front bs w p.1)

-- A word that is the one spelling at the front of a text that goes on after it, and the beginning of no longer one.
pub quick_word : (bs : List ℕ) (end : ℕ) (w : List ℕ) (k : Kind) → IsUtf8 bs → IsRun is_name_byte bs 1 end → is_word w bs end ≡ true →
    0 < length w → is_letter (get_or w 0 0) ≡ true →
    ((x : ℕ) (t : List ℕ) → front_by (rows_of Turtle fixed) (w ++ x ∷ t) ≡ Some (length w, k)) →
    ((x : ℕ) (t : List ℕ) → live_by (rows_of Turtle fixed) (w ++ x ∷ t) ≡ false) →
    ((v : List ℕ) → is_fit k v ≡ true) → IsToken Turtle bs end k
quick_word bs end w k u r e some l f v t =
    let p = and_parts (end == length w) _ e in
    let q = and_parts (starts_with ◌==◌ bs w) _ p.1 in
    let whole : end ≡ length w = eqb-true end (length w) p.0 in
    let i : end < length bs = ltb-true end (length bs) (and_parts (nat_lt end (length bs)) _ q.1).0 in
    let x = get_or bs end 0 in
    let rest = drop (end + 1) bs in
    let all : bs ≡ w ++ x ∷ rest = word-front bs w q.0 ∙ ap (λ n. w ++ drop n bs) (sym whole) ∙ ap (λ s. w ++ s) (drop_more bs end 0 i) in
    let letter : is_letter (get_or bs 0 0) ≡ true = ap (λ b. is_letter (get_or b 0 0)) all ∙ ap is_letter (get_or_append_left w (x ∷ rest) 0 0 some) ∙ l in
    word_at bs end k u letter r q.1 (ap (front_by (rows_of Turtle fixed)) all ∙ f x rest ∙ ap (λ n. Some (n, k)) (sym whole))
    (ap (live_by (rows_of Turtle fixed)) all ∙ v x rest) (t _)

-- the word `true`
pub quick_true : (bs : List ℕ) (end : ℕ) → IsUtf8 bs → IsRun is_name_byte bs 1 end → is_word (116 ∷ 114 ∷ 117 ∷ 101 ∷ []) bs end ≡ true →
    IsToken Turtle bs end True
unfolding is_fit
quick_true bs end u r e = quick_word bs end (116 ∷ 114 ∷ 117 ∷ 101 ∷ []) True u r e (omega arith) refl (λ x t. refl) (λ x t. refl) (λ v. refl)

-- the word `false`
pub quick_false : (bs : List ℕ) (end : ℕ) → IsUtf8 bs → IsRun is_name_byte bs 1 end →
    is_word (102 ∷ 97 ∷ 108 ∷ 115 ∷ 101 ∷ []) bs end ≡ true → IsToken Turtle bs end False
unfolding is_fit
quick_false bs end u r e = quick_word bs end (102 ∷ 97 ∷ 108 ∷ 115 ∷ 101 ∷ []) False u r e (omega arith) refl (λ x t. refl) (λ x t. refl) (λ v. refl)

-- What the code finds in lines whose strings and IRIs may have any escapes.
use Rattle.rdf_lines.proofs.Prelude.{◌≡◌, ℕ, zero, suc, ◌+◌, ◌-◌, ◌<◌, ◌≤◌, Bool, true, false, ◌==◌, List, [], ◌∷◌, ◌++◌, refl, sym, ap, ◌∙◌, subst, ⊎_elim, append_assoc, Some, length, take, drop, get_or, arith, length-take, chars, IsUtf8, encodes, cases_Bool, cond-true, cond-false, false≢true, and_parts, and_from, encodes-append, encodes-chars, scalars-chars, iri_char, all_have, has_scheme, IsRun, is_short_byte, iri_value, string_value, is_clear, IriSpelled, StringSpelled, IriStands, BlankStands, BlanksStand, Stands, Lines, scalars, escaped, flat_map}
use Rattle.rdf_terms.specs.Classes.{has}
use Rattle.rdf_lines.specs.declared.form.Escapes.TheVariants.{Plain}
use Rattle.rdf_lines.proofs.EncodedLine.{low}
use Rattle.rdf_lines.proofs.EscapedRuns.{each, all_stand, run_front}
use Rattle.rdf_lines.proofs.EscapedTokens.{plain_step}
use Rattle.rdf_lines.proofs.FrontsLemmas.{all_scalar, have_both, stands_byte, stands_then}
use Rattle.rdf_lines.proofs.NextToken.{of_blank}
use Rattle.rdf_lines.proofs.PassedLemmas.{past_text}
use Rattle.std.proofs.Math.Utf8.{scalar as utf8_scalar}
use Rattle.rdf_tokens.specs.Tokens.{is_space}
use Rattle.rdf_lines.proofs.WritingLemmas.{iri_meant, string_meant}

-- two clear texts in a row
clear_then : (s : Bool) (u v : List ℕ) → is_clear s u ≡ true → is_clear false v ≡ true → is_clear s (u ++ v) ≡ true
clear_then false [] v h k = k
clear_then true [] v h k = absurd (false≢true h)
clear_then true (c ∷ u) v h k = clear_then false u v h k
clear_then false (c ∷ u) v h k =
    ⊎_elim
    (λ e. cond-true (c == 92) (is_clear true (u ++ v)) _ e ∙ clear_then true u v (sym (cond-true (c == 92) (is_clear true u) _ e) ∙ h) k)
    (λ e. let p = and_parts (is_short_byte 34 c) (is_clear false u) (sym (cond-false (c == 92) (is_clear true u) _ e) ∙ h) in
    cond-false (c == 92) (is_clear true (u ++ v)) _ e ∙ and_from (is_short_byte 34 c) (is_clear false (u ++ v)) p.0 (clear_then false u v p.1 k))
    (cases_Bool (c == 92))

-- no front of nothing has anything
nothing : (n : ℕ) → take n (let x : List ℕ = [] in x) ≡ []
nothing zero = refl
nothing (suc n) = refl

-- a front and what comes after it
pub take_more : (w : List ℕ) (m n : ℕ) → take (m + n) w ≡ take m w ++ take n (drop m w)
take_more w zero n = ap (λ k. take k w) (let e : 0 + n ≡ n = omega arith in e)
take_more [] (suc m) n = nothing (suc m + n) ∙ sym (nothing n)
take_more (c ∷ w) (suc m) n = ap (λ k. take k (c ∷ w)) (let e : suc m + n ≡ suc (m + n) = omega arith in e) ∙ ap (λ x. c ∷ x) (take_more w m n)

-- the bytes of a run are clear
passed_clear : (w : List ℕ) (n : ℕ) → n ≤ length w → ((k : ℕ) → k < n → is_short_byte 34 (get_or w k 0) ≡ true) → is_clear false (take n w) ≡ true
passed_clear w zero l h = refl
passed_clear [] (suc n) l h = absurd (omega arith)
passed_clear (c ∷ w) (suc n) l h = plain_step c (take n w) (h 0 (omega arith)) ∙ passed_clear w n (omega arith) (λ k m. h (suc k) (omega arith))

-- a byte after a place
get_drop : (w : List ℕ) (m k : ℕ) → get_or (drop m w) k 0 ≡ get_or w (m + k) 0
get_drop w zero k = ap (λ n. get_or w n 0) (let e : k ≡ 0 + k = omega arith in e)
get_drop [] (suc m) k = refl
get_drop (c ∷ w) (suc m) k = get_drop w m k ∙ ap (λ n. get_or (c ∷ w) n 0) (let e : suc (m + k) ≡ suc m + k = omega arith in e)

-- how many there are
drop_size : (w : List ℕ) (m : ℕ) → m ≤ length w → length (drop m w) ≡ length w - m
drop_size w zero l = omega arith
drop_size [] (suc m) l = absurd (omega arith)
drop_size (c ∷ w) (suc m) l = let h = drop_size w m (omega arith) in omega (arith, h)

-- a run after a clear front
pub run_clear : (w : List ℕ) (at end : ℕ) → is_clear false (take at w) ≡ true → IsRun (is_short_byte 34) w at end → is_clear false (take end w) ≡ true
run_clear w at end h r =
    let n = end - at in
    let from = r.from in
    let within = r.within in
    let size = drop_size w at (omega (arith, from, within)) in
    let run = passed_clear (drop at w) n (omega (arith, size, from, within))
    (λ k l. ap (is_short_byte 34) (get_drop w at k) ∙ r.pass (at + k) (omega arith) (omega (arith, l, from))) in
    ap (λ k. is_clear false (take k w)) (let e : end ≡ at + n = omega (arith, from) in e)
    ∙ (ap (is_clear false) (take_more w at n) ∙ clear_then false (take at w) (take n (drop at w)) h run)

-- two characters of which the first is a backslash
two_clear : (w : List ℕ) → 2 ≤ length w → get_or w 0 0 ≡ 92 → is_clear false (take 2 w) ≡ true
two_clear [] l e = absurd (omega arith)
two_clear (c ∷ []) l e = absurd (omega arith)
two_clear (c ∷ d ∷ w) l e = ap (λ x. is_clear false (x ∷ d ∷ [])) e

-- an escape after a clear front
pub escape_clear : (w : List ℕ) (at : ℕ) → at + 2 ≤ length w → get_or w at 0 ≡ 92 → is_clear false (take at w) ≡ true → is_clear false (take (at + 2) w) ≡ true
escape_clear w at l e h =
    let size = drop_size w at (omega (arith, l)) in
    let slash : get_or (drop at w) 0 0 ≡ 92 = get_drop w at 0 ∙ (ap (λ n. get_or w n 0) (let z : at + 0 ≡ at = omega arith in z) ∙ e) in
    ap (is_clear false) (take_more w at 2) ∙ clear_then false (take at w) (take 2 (drop at w)) h (two_clear (drop at w) (omega (arith, size, l)) slash)

-- an IRI that stands as it is
pub plain_spelled : (limit : ℕ) (part a b : List ℕ) → IsUtf8 part → IriStands limit (chars part) a b → IriSpelled limit (chars part) a b
plain_spelled limit part a b u h =
    let i = chars part in
    record {
      part = part;
      utf8 = u;
      value = ap iri_value (sym (each i)) ∙ iri_meant Plain i h.is.characters;
      is = h.is;
      within = h.within;
      stands =
          h.stands
          ∙ (ap (λ x. encodes (x ++ 62 ∷ []) ++ b) (each i)
          ∙ (ap (λ x. x ++ b) (encodes-append i (62 ∷ [])
          ∙ (ap (λ x. x ++ encodes (62 ∷ [])) (encodes-chars part u) ∙ ap (λ x. part ++ x) (low 62 [] (omega arith))))
          ∙ append_assoc part (62 ∷ []) b));
    }

-- an IRI whose value was put
pub escaped_spelled : (limit : ℕ) (part iri bytes a b : List ℕ) → IsUtf8 part → IsUtf8 iri → iri ≡ bytes → iri_value (chars part) ≡ Some (chars bytes) →
    all_have (has iri_char) (chars bytes) ≡ true → has_scheme (chars iri) ≡ true → length iri ≤ limit → a ≡ part ++ 62 ∷ b → IriSpelled limit (chars iri) a b
escaped_spelled limit part iri bytes a b u t e v h s l w = record {
  part = part;
  utf8 = u;
  value = v ∙ ap (λ x. Some (chars x)) (sym e);
  is = record { characters = ap (λ x. all_have (has iri_char) (chars x)) e ∙ h; scheme = s };
  within = subst (λ x. length x ≤ limit) (sym (encodes-chars iri t)) l;
  stands = w;
}

-- a string whose value was put
pub string_spelled : (part lexical bytes a b : List ℕ) → IsUtf8 part → IsUtf8 lexical → lexical ≡ bytes → string_value (chars part) ≡ Some (chars bytes) →
    is_clear false part ≡ true → a ≡ part ++ 34 ∷ b → StringSpelled (chars lexical) a b
string_spelled part lexical bytes a b u t e v h w = record {
  part = part;
  utf8 = u;
  value = v ∙ ap (λ x. Some (chars x)) (sym e);
  are = all_scalar (chars lexical) (scalars-chars lexical t);
  clear = h;
  stands = w;
}

-- a front of a front
pub take_shorter : (w : List ℕ) (m n : ℕ) → m ≤ n → take m (take n w) ≡ take m w
take_shorter w zero n l = refl
take_shorter w (suc m) zero l = absurd (omega arith)
take_shorter [] (suc m) (suc n) l = refl
take_shorter (c ∷ w) (suc m) (suc n) l = ap (λ x. c ∷ x) (take_shorter w m n (omega arith))

-- what is clear in a front of some bytes is clear in them
pub near_clear : (w : List ℕ) (m k : ℕ) → m ≤ length (take k w) → is_clear false (take m (take k w)) ≡ true → is_clear false (take m w) ≡ true
near_clear w m k l h = ap (is_clear false) (sym (take_shorter w m k (let a = length-take k w in omega (arith, a, l)))) ∙ h

-- a string that a run goes over stands as it is
pub plain_string : (part a b : List ℕ) (end : ℕ) → IsUtf8 part → part ≡ take end a → IsRun (is_short_byte 34) a 0 end → a ≡ take end a ++ 34 ∷ b →
    StringSpelled (chars part) a b
plain_string part a b end u e r s =
    let w = chars part in
    let same : flat_map (escaped Plain) w ≡ w =
    all_stand Plain w (subst (λ x. all_have (is_short_byte 34) x ≡ true) (sym (encodes-chars part u ∙ e)) (run_front Plain a end r)) in
    let are = all_scalar w (scalars-chars part u) in
    record {
      part = part;
      utf8 = u;
      value = ap string_value (sym same) ∙ string_meant Plain w are;
      are = are;
      clear = ap (is_clear false) e ∙ run_clear a 0 end refl r;
      stands = s ∙ ap (λ x. x ++ 34 ∷ b) (sym e);
    }

-- no blanks stand before a text
pub no_blanks : (a : List ℕ) → BlanksStand a a
no_blanks a = record { blanks = []; are = refl; stands = refl }

-- one blank more
pub blanks_on : (a b c : List ℕ) → BlanksStand a b → BlankStands 0 b c → BlanksStand a c
blanks_on a b c f g = record {
  blanks = f.blanks ++ g.blank ∷ [];
  are = have_both (is_space Lines) f.blanks (g.blank ∷ []) f.are (and_from (is_space Lines g.blank) true g.is refl);
  stands = f.stands ∙ (ap (λ x. f.blanks ++ x) g.stands ∙ sym (append_assoc f.blanks (g.blank ∷ []) c));
}

-- spaces and tabs are characters of one byte
pub blanks_scalars : (bs : List ℕ) → all_have (is_space Lines) bs ≡ true → scalars bs ≡ true
blanks_scalars [] h = refl
blanks_scalars (c ∷ bs) h =
    let q = and_parts (is_space Lines c) (all_have (is_space Lines) bs) h in
    and_from (utf8_scalar c) (scalars bs) (of_blank (λ x. utf8_scalar x ≡ true) refl refl c q.0) (blanks_scalars bs q.1)

-- they are their bytes
pub blanks_stand : (bs a b : List ℕ) → all_have (is_space Lines) bs ≡ true → a ≡ bs ++ b → Stands bs a b
blanks_stand [] a b h e = e
blanks_stand (c ∷ bs) a b h e =
    let q = and_parts (is_space Lines c) (all_have (is_space Lines) bs) h in
    stands_then (c ∷ []) bs a (bs ++ b) b
    (stands_byte c a (bs ++ b) (of_blank (λ x. x < 128) (omega arith) (omega arith) c q.0) e)
    (blanks_stand bs (bs ++ b) b q.1 refl)

-- what they stand in front of is text
pub blanks_text : (a b : List ℕ) → IsUtf8 a → BlanksStand a b → IsUtf8 b
blanks_text a b u h = past_text h.blanks a b u (blanks_stand h.blanks a b h.are h.stands)

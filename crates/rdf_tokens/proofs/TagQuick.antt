-- Language tags: the states over their letters and digits, and after the byte that ends them.
use Rattle.rdf_tokens.proofs.Prelude.{◌≡◌, ℕ, ◌+◌, ◌<◌, Bool, true, false, cond, nat_lt, List, [], ◌∷◌, ◌&&◌, ◌||◌, ◌==◌, not, refl, sym, ap, ◌∙◌, subst, length, get_or, drop, arith, Option, Some, None, IsUtf8, agree_below, agree_below_at, and_parts, false≢true, eqb-true, ltb-true, nat_tests, chars, codes, LangTag, AtPrefix, AtBase, Dialect, Lines, Turtle, fixed, IsRun, is_fit, State, three_quotes, only_long, is_begun, live_by, rows_of, Reached, Rests, longer_front, begins, front_by, IsLaterPart, IsTagTo, begins_directive, begins_tag, is_part_byte, ends_tag, is_tag_end}
use Rattle.rdf_terms.specs.Classes.{is_letter}
use Rattle.rdf_tokens.specs.declared.states.machine.State.TheVariants.{Start, Tag}
use Rattle.rdf_tokens.specs.declared.states.tag.Tag.{Tag as PartOfTag}
use Rattle.rdf_tokens.specs.declared.states.tag.Tag.TheVariants as tag
use Rattle.rdf_tokens.specs.Fixed.{left}
use Rattle.rdf_tokens.specs.Machine.{step}
use Rattle.rdf_tokens.specs.Quick.{IsToken}
use Rattle.rdf_tokens.specs.Tag.{accepts}
use Rattle.rdf_tokens.proofs.NoNamesLemmas.{implied}
use Rattle.rdf_tokens.proofs.NumberQuick.{first_rows}
use Rattle.rdf_tokens.proofs.PlainQuick.{byte_on, quotes_of}
use Rattle.rdf_tokens.proofs.QuickLemmas.{settled, first-none, not_true, other}
use Rattle.rdf_tokens.proofs.RestLemmas.{reached-run, rests_run}

-- a state within the first part, within a later one, and after what is no tag
abbrev at_letters : State → Bool
at_letters (Tag tag.Letters) = true
at_letters s = false

abbrev at_part : State → Bool
at_part (Tag tag.Part) = true
at_part s = false

abbrev at_no_tag : State → Bool
at_no_tag (Tag tag.Dead) = true
at_no_tag s = false

-- those states
letters-state : (s : State) → at_letters s ≡ true → s ≡ Tag tag.Letters
letters-state (Tag tag.Letters) e = refl
letters-state s e = absurd (false≢true e)

part-state : (s : State) → at_part s ≡ true → s ≡ Tag tag.Part
part-state (Tag tag.Part) e = refl
part-state s e = absurd (false≢true e)

no_tag-state : (s : State) → at_no_tag s ≡ true → s ≡ Tag tag.Dead
no_tag-state (Tag tag.Dead) e = refl
no_tag-state s e = absurd (false≢true e)

-- each byte of ASCII: a letter leads into the first part and stays there
abbrev letter_tests : Dialect → ℕ → Bool
letter_tests d c = not (is_letter c) || (at_letters (step d (Tag tag.At) c) && at_letters (step d (Tag tag.Letters) c))

-- a letter or a digit leads into a later part and stays there
abbrev part_tests : Dialect → ℕ → Bool
part_tests d c = not (is_part_byte c) || (at_part (step d (Tag tag.Hyphen) c) && at_part (step d (Tag tag.Part) c))

-- and what ends a tag leads to none
abbrev letters_over : Dialect → ℕ → Bool
letters_over d c = not (ends_tag c) || (is_letter c || at_no_tag (step d (Tag tag.Letters) c))

abbrev part_over : Dialect → ℕ → Bool
part_over d c = not (ends_tag c) || (is_part_byte c || at_no_tag (step d (Tag tag.Part) c))

-- it is so for each of them
letter_all : (d : Dialect) → (agree_below (letter_tests d) (λ c. true) 128 ≡ true) × (agree_below (letters_over d) (λ c. true) 128 ≡ true)
letter_all Lines = (refl, refl)
letter_all Turtle = (refl, refl)

part_all : (d : Dialect) → (agree_below (part_tests d) (λ c. true) 128 ≡ true) × (agree_below (part_over d) (λ c. true) 128 ≡ true)
part_all Lines = (refl, refl)
part_all Turtle = (refl, refl)

-- letters and digits are ASCII
low_letter : (c : ℕ) → is_letter c ≡ true → c < 128
low_letter c e = grind (arith, nat_tests)

low_part : (c : ℕ) → is_part_byte c ≡ true → c < 128
low_part c e = grind (arith, nat_tests)

-- the steps of a letter
letter_steps : (d : Dialect) (c : ℕ) → is_letter c ≡ true → (step d (Tag tag.At) c ≡ Tag tag.Letters) × (step d (Tag tag.Letters) c ≡ Tag tag.Letters)
letter_steps d c e =
    let p = and_parts (at_letters (step d (Tag tag.At) c)) _
    (implied (is_letter c) _ (agree_below_at (letter_tests d) (λ c. true) 128 c (letter_all d).0 (low_letter c e)) e) in
    (letters-state _ p.0, letters-state _ p.1)

-- and those of a letter or a digit after a hyphen
part_steps : (d : Dialect) (c : ℕ) → is_part_byte c ≡ true → (step d (Tag tag.Hyphen) c ≡ Tag tag.Part) × (step d (Tag tag.Part) c ≡ Tag tag.Part)
part_steps d c e =
    let p = and_parts (at_part (step d (Tag tag.Hyphen) c)) _
    (implied (is_part_byte c) _ (agree_below_at (part_tests d) (λ c. true) 128 c (part_all d).0 (low_part c e)) e) in
    (part-state _ p.0, part-state _ p.1)

-- runs of letters, and of letters and digits, leave the states as they are
rests_letters : (bs : List ℕ) (at end : ℕ) → IsRun is_letter bs at end → Rests (Tag tag.Letters) bs at end
rests_letters bs at end r =
    rests_run (Tag tag.Letters) is_letter bs at end r (λ d c l e. (letter_steps d c e).1) (λ d c b l h e. absurd (let x = low_letter b e in omega arith))
    (λ b x h p e. absurd (let y = low_letter b p in omega arith))

rests_part : (bs : List ℕ) (at end : ℕ) → IsRun is_part_byte bs at end → Rests (Tag tag.Part) bs at end
rests_part bs at end r =
    rests_run (Tag tag.Part) is_part_byte bs at end r (λ d c l e. (part_steps d c e).1) (λ d c b l h e. absurd (let x = low_part b e in omega arith))
    (λ b x h p e. absurd (let y = low_part b p in omega arith))

-- the steps of '@', and of a hyphen after a part
at_sign : (d : Dialect) → Tag tag.At ≡ step d Start 64
at_sign Lines = refl
at_sign Turtle = refl

hyphen : (d : Dialect) (p : PartOfTag) → accepts p ≡ true → Tag tag.Hyphen ≡ step d (Tag p) 45
hyphen Lines tag.Letters e = refl
hyphen Turtle tag.Letters e = refl
hyphen Lines tag.Part e = refl
hyphen Turtle tag.Part e = refl
hyphen d p e = absurd (false≢true e)

-- no tag has an escape
tag-fit : (w : List ℕ) → is_fit LangTag w ≡ true
unfolding is_fit
tag-fit w = refl

-- two tests that do not both hold
not_both : (a b : Bool) → (a && b) ≡ false → ((c : Bool) → (a && (b && c)) ≡ false) × ((o : Option (List ℕ)) → is_begun (cond a (cond b o None) None) ≡ false)
not_both true true e = absurd (false≢true (sym e))
not_both true false e = (λ c. refl, λ o. refl)
not_both false b e = (λ c. refl, λ o. refl)

-- of two tests of which none holds
neither : (a b : Bool) → (a || b) ≡ false → (a ≡ false) × (b ≡ false)
neither true b e = absurd (false≢true (sym e))
neither false b e = (refl, e)

-- a spelling with '@' and two bytes in front does not begin a text that has not both of them there, nor does the text begin it
no_row : (a b : ℕ) (s : List ℕ) (x y : ℕ) (t : List ℕ) → (x == a && y == b) ≡ false →
    (begins false (64 ∷ a ∷ b ∷ s) (64 ∷ x ∷ y ∷ t) ≡ false) × (is_begun (left false (64 ∷ a ∷ b ∷ s) (64 ∷ x ∷ y ∷ t)) ≡ false)
no_row a b s x y t e = let n = not_both (x == a) (y == b) e in (n.0 (begins false s t), n.1 (left false s t))

-- no spelling begins with '@' and two such bytes
no_directive : (d : Dialect) (x y : ℕ) (t : List ℕ) → begins_directive x y ≡ false →
    (front_by (rows_of d fixed) (64 ∷ x ∷ y ∷ t) ≡ None) × (live_by (rows_of d fixed) (64 ∷ x ∷ y ∷ t) ≡ false)
no_directive Lines x y t e = first_rows (rows_of Lines fixed) 64 (x ∷ y ∷ t) refl
no_directive Turtle x y t e =
    let w = 64 ∷ x ∷ y ∷ t in
    let n = neither (x == 112 && y == 114) (x == 98 && y == 97) e in
    let p = no_row 112 114 (codes "efix") x y t n.0 in
    let b = no_row 98 97 (codes "se") x y t n.1 in
    let rest = first_rows (rows_of Turtle (drop 2 fixed)) 64 (x ∷ y ∷ t) refl in (
      ap (λ z. longer_front (cond z (Some (7, AtPrefix)) None) (front_by (rows_of Turtle (drop 1 fixed)) w)) p.0
          ∙ (ap (λ z. longer_front (cond z (Some (5, AtBase)) None) (front_by (rows_of Turtle (drop 2 fixed)) w)) b.0 ∙ rest.0),
      ap (λ z. z || live_by (rows_of Turtle (drop 1 fixed)) w) p.1 ∙ (ap (λ z. z || live_by (rows_of Turtle (drop 2 fixed)) w) b.1 ∙ rest.1),
    )

-- the same of a text with such bytes in front
unspelled : (d : Dialect) (bs : List ℕ) → 2 < length bs → get_or bs 0 0 ≡ 64 → begins_directive (get_or bs 1 0) (get_or bs 2 0) ≡ false →
    (front_by (rows_of d fixed) bs ≡ None) × (live_by (rows_of d fixed) bs ≡ false)
unspelled d [] l a e = absurd (omega arith)
unspelled d (c ∷ []) l a e = absurd (omega arith)
unspelled d (c ∷ x ∷ []) l a e = absurd (omega arith)
unspelled d (c ∷ x ∷ y ∷ t) l a e =
    subst (λ c. (front_by (rows_of d fixed) (c ∷ x ∷ y ∷ t) ≡ None) × (live_by (rows_of d fixed) (c ∷ x ∷ y ∷ t) ≡ false)) (sym a) (no_directive d x y t e)

-- A text that begins a tag.
module _ (d : Dialect) (bs : List ℕ) (u : IsUtf8 bs) (e : begins_tag bs ≡ true) where
  three : 2 < length bs
  three = ltb-true 2 (length bs) (and_parts (nat_lt 2 (length bs)) _ e).0

  is_64 : get_or bs 0 0 ≡ 64
  is_64 = eqb-true (get_or bs 0 0) 64 (and_parts (get_or bs 0 0 == 64) _ (and_parts (nat_lt 2 (length bs)) _ e).1).0

  begun : (is_letter (get_or bs 1 0) ≡ true) × (not (begins_directive (get_or bs 1 0) (get_or bs 2 0)) ≡ true)
  begun = and_parts (is_letter (get_or bs 1 0)) _ (and_parts (get_or bs 0 0 == 64) _ (and_parts (nat_lt 2 (length bs)) _ e).1).1

  -- the text does not begin with three quotes
  quotes : three_quotes d (chars bs) ≡ false
  quotes = let l = three in quotes_of d bs 64 u (omega arith) (omega arith) is_64 refl refl

  -- so a tag is what it is
  tag_here : Some LangTag ≡ only_long (three_quotes d (chars bs)) (Some LangTag)
  tag_here = sym (ap (λ x. only_long x (Some LangTag)) quotes)

  -- the byte with which a tag ends is ASCII
  ascii : (at : ℕ) → is_tag_end bs at ≡ true → (at < length bs) × (get_or bs at 0 < 128) × (ends_tag (get_or bs at 0) ≡ true)
  ascii at z =
      let p = and_parts (nat_lt at (length bs)) _ z in
      (ltb-true at (length bs) p.0, ltb-true (get_or bs at 0) 128 (and_parts _ _ p.1).0, p.1)

  -- its first part
  pub first_part : (end : ℕ) → IsRun is_letter bs 2 end → IsTagTo d bs end
  first_part end r =
      let l = three in
      let a = is_64 in
      let c = get_or bs 1 0 in
      let first = first-none d bs (Tag tag.At) u (omega arith) (omega (arith, a)) (at_sign d ∙ sym (ap (step d Start) a)) refl in
      let second = byte_on d bs 1 (Tag tag.At) (Tag tag.Letters) (Some LangTag) None quotes (omega arith) (low_letter c begun.0) first
      (sym (letter_steps d c begun.0).0) refl in
      let x = get_or bs end 0 in
      record {
        part = tag.Letters;
        whole = refl;
        reached = reached-run d bs 2 end (Tag tag.Letters) (Some LangTag) None tag_here (rests_letters bs 2 end r) second;
        over = λ z. let o = ascii end z in
            no_tag-state _ (other (is_letter x) _
            (implied (ends_tag x) _ (agree_below_at (letters_over d) (λ c. true) 128 x (letter_all d).1 o.1) o.2) (r.stops o.0));
      }

  -- and one more
  pub later_part : (at end : ℕ) → IsTagTo d bs at → IsLaterPart bs at end → IsTagTo d bs end
  later_part at end t p =
      let m = and_parts (nat_lt at (length bs)) (get_or bs at 0 == 45) p.hyphen in
      let within = p.run.within in
      let more = p.some in
      let is_45 : get_or bs at 0 ≡ 45 = eqb-true (get_or bs at 0) 45 m.1 in
      let at_hyphen : Reached d bs (at + 1) (Tag tag.Hyphen) (Some (at, LangTag)) =
      byte_on d bs at (Tag t.part) (Tag tag.Hyphen) None (Some (at, LangTag)) quotes (omega arith) (omega (arith, is_45)) t.reached
      (hyphen d t.part t.whole ∙ sym (ap (step d (Tag t.part)) is_45)) refl in
      let c = get_or bs (at + 1) 0 in
      let is_part : is_part_byte c ≡ true = p.run.pass (at + 1) (omega arith) more in
      let first : Reached d bs (at + 1 + 1) (Tag tag.Part) (Some (at + 1 + 1, LangTag)) =
      byte_on d bs (at + 1) (Tag tag.Hyphen) (Tag tag.Part) (Some LangTag) (Some (at, LangTag)) quotes (omega arith)
      (low_part c is_part) at_hyphen (sym (part_steps d c is_part).0) refl in
      let rest : IsRun is_part_byte bs (at + 1 + 1) end =
      record { from = omega arith; within = within; pass = λ k a b. p.run.pass k (omega arith) b; stops = p.run.stops } in
      let x = get_or bs end 0 in
      record {
        part = tag.Part;
        whole = refl;
        reached = reached-run d bs (at + 1 + 1) end (Tag tag.Part) (Some LangTag) None tag_here (rests_part bs (at + 1 + 1) end rest) first;
        over = λ z. let o = ascii end z in
            no_tag-state _ (other (is_part_byte x) _
            (implied (ends_tag x) _ (agree_below_at (part_over d) (λ c. true) 128 x (part_all d).1 o.1) o.2) (p.run.stops o.0));
      }

  -- up to a byte with which none goes on it is the token
  pub whole_tag : (at : ℕ) → IsTagTo d bs at → is_tag_end bs at ≡ true → IsToken d bs at LangTag
  whole_tag at t z =
      let o = ascii at z in
      let n = unspelled d bs three is_64 (not_true _ begun.1) in
      let over = byte_on d bs at (Tag t.part) (Tag tag.Dead) None (Some (at, LangTag)) quotes o.0 o.1 t.reached (sym (t.over z)) refl in
      settled d bs (at + 1) (Tag tag.Dead) (Some (at, LangTag)) None at LangTag u over refl (sym n.0) n.1 refl (tag-fit _)

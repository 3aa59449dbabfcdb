-- The parts of a local part lead to the state within it.
use Rattle.rdf_tokens.proofs.Prelude.{◌≡◌, ◌+◌, ◌/◌, ◌%◌, ◌<◌, ◌≤◌, ◌⊎◌, ℕ, zero, Bool, true, false, cond, nat_lt, List, [], ◌∷◌, ◌++◌, length, drop, get_or, ◌==◌, not, ◌||◌, ◌&&◌, refl, sym, ap, subst, ◌∙◌, inl, inr, ⊎_elim, arith, Option, None, encode_utf8, IsUtf8, agree_below, agree_below_at, and_from, and_parts, cases_lt, cond-false, cond-true, eqb-true, false≢true, le-ltb, ltb-true, not_from_false, nat_tests, get_or-drop, get_or_append_left, encode_ascii, length-encode, len_utf8, has, is_base, local_escape, IsRun, is_name_byte, Dialect, Lines, Turtle, Kind, PnameLn, State, Letter, Mark, Other, Reached, kind_here, BeginsLocal, LeadsIn, RestsInLocal, begins_three, begins_two, is_escape, is_hex_at, is_percent, letter_len, IsPrefix, ends_name, is_colon, is_last, is_name_end, stands_at, is_mark, wide_of, with_length, hex_digit}
use Rattle.rdf_tokens.specs.declared.states.machine.State.TheVariants.{Name}
use Rattle.rdf_tokens.specs.declared.states.name.Name.TheVariants as name
use Rattle.rdf_tokens.specs.declared.states.name.Sort.TheVariants as sort
use Rattle.rdf_tokens.specs.Machine.{step, kind_at}
use Rattle.rdf_tokens.specs.Name.{ascii, high, move}
use Rattle.rdf_tokens.specs.Quick.{IsToken}
use Rattle.rdf_tokens.proofs.ByteLemmas.{ascii_first}
use Rattle.rdf_tokens.proofs.GoodLemmas.{encode_four, encode_three, encode_two}
use Rattle.rdf_tokens.proofs.NoNamesLemmas.{implied}
use Rattle.rdf_tokens.proofs.QuickLemmas.{at_local, local-state, low-name, no_hyphen, other, quick_far}
use Rattle.rdf_tokens.proofs.RestEscapes.{byte_on, hex_below}
use Rattle.rdf_tokens.proofs.RestLemmas.{first_char, with_length-again}
use Rattle.rdf_tokens.proofs.RestStates.{rests_local}
use Rattle.rdf_tokens.proofs.StateLemmas.{reached-step}

-- no bytes lead to where they begin
pub rests_none : (bs : List ℕ) (at : ℕ) → at ≤ length bs → RestsInLocal bs at at
rests_none bs at l = record { from = omega arith; within = l; on = λ d b r. r }

-- what leads there from the state within leads back to it
pub rests_in : (bs : List ℕ) (at end : ℕ) → LeadsIn (Name name.Local) bs at end → RestsInLocal bs at end
rests_in bs at end l = record {
  from = let f = l.from in omega arith;
  within = l.within;
  on = λ d b r.
      let k = kind_here d bs (Name name.Local) in
      subst (Reached d bs end (Name name.Local)) (sym (with_length-again end at k b)) (l.on d (with_length at k b) r);
}

-- one byte of ASCII on
low_on : (d : Dialect) (bs : List ℕ) (at x : ℕ) (s t : State) (b : Option (ℕ × Kind)) → at < length bs → get_or bs at 0 ≡ x → x < 128 →
    step d s x ≡ t → Reached d bs at s b →
    Reached d bs (at + 1) t (with_length (at + 1) (kind_here d bs t) b)
low_on d bs at x s t b i e a es r =
    let c = get_or bs at 0 in
    let l : c < 128 = omega (arith, e, a) in
    reached-step d bs at (at + 1) c s t (kind_here d bs t) b (with_length (at + 1) (kind_here d bs t) b) r (ascii_first bs at i l)
    (omega (arith, ap length (encode_ascii c l), length-encode c)) (omega arith) (sym (ap (step d s) e ∙ es)) refl refl

-- the same to a state without a kind
low_past : (d : Dialect) (bs : List ℕ) (at x : ℕ) (s t : State) (b : Option (ℕ × Kind)) → at < length bs → get_or bs at 0 ≡ x → x < 128 →
    step d s x ≡ t → kind_at t ≡ None →
    Reached d bs at s b → Reached d bs (at + 1) t b
low_past d bs at x s t b i e a es z r = byte_on d bs at s t b i (omega (arith, e, a)) (ap (step d s) e ∙ es) z r

-- this byte stands there
there : (x : ℕ) (bs : List ℕ) (at : ℕ) → stands_at x bs at ≡ true → (at < length bs) × (get_or bs at 0 ≡ x)
there x bs at z = let p = and_parts (nat_lt at (length bs)) (get_or bs at 0 == x) z in (ltb-true at (length bs) p.0, eqb-true (get_or bs at 0) x p.1)

-- what leads there, and what leads back
pub leads_on : (bs : List ℕ) (at mid end : ℕ) → BeginsLocal bs at mid → RestsInLocal bs mid end → BeginsLocal bs at end
leads_on bs at mid end l r = (on l.0, on l.1)
  where
    on : {s : State} → LeadsIn s bs at mid → LeadsIn s bs at end
    on l = record {
      from = let f = l.from in let g = r.from in omega arith;
      within = r.within;
      on = λ d b h. r.on d b (l.on d b h);
    }

-- each byte of ASCII: one of a name leads there from after a dot, and from the colon on if it is no hyphen
abbrev dot_tests : Dialect → ℕ → Bool
dot_tests d c = not (is_name_byte c) || at_local (step d (Name name.LocalDots) c)

dot_all : (d : Dialect) → agree_below (dot_tests d) (λ c. true) 128 ≡ true
dot_all Lines = refl
dot_all Turtle = refl

abbrev colon_tests : Dialect → ℕ → Bool
colon_tests d c = not (is_name_byte c) || (c == 45 || at_local (step d (Name name.Colon) c))

colon_all : (d : Dialect) → agree_below (colon_tests d) (λ c. true) 128 ≡ true
colon_all Lines = refl
colon_all Turtle = refl

-- what comes after a byte of a run is a run
after_first : (bs : List ℕ) (at end : ℕ) → IsRun is_name_byte bs at end → at < end → IsRun is_name_byte bs (at + 1) end
after_first bs at end r l = let w = r.within in record { from = omega arith; within = w; pass = λ k a b. r.pass k (omega arith) b; stops = r.stops }

-- a dot, and a run of name bytes after it
pub rests_dot : (bs : List ℕ) (at end : ℕ) → stands_at 46 bs at ≡ true → IsRun is_name_byte bs (at + 1) end → at + 1 < end → RestsInLocal bs at end
rests_dot bs at end z r l =
    let w = r.within in
    let c = get_or bs (at + 1) 0 in
    let e : is_name_byte c ≡ true = r.pass (at + 1) (omega arith) l in
    let low : c < 128 = low-name c e in
    let dot = there 46 bs at z in
    rests_in bs at end (record {
      from = omega arith;
      within = w;
      on = λ d b h.
          let first = low_past d bs at 46 (Name name.Local) (Name name.LocalDots) b dot.0 dot.1 (omega arith) refl refl h in
          let back = local-state _ (implied (is_name_byte c) _ (agree_below_at (dot_tests d) (λ c. true) 128 c (dot_all d) low) e) in
          (rests_local bs (at + 1 + 1) end (after_first bs (at + 1) end r l)).on d b
          (low_on d bs (at + 1) c (Name name.LocalDots) (Name name.Local) b (omega arith) refl low back first);
    })

-- a run that does not begin with a hyphen, from the colon on
pub run_in : (bs : List ℕ) (at end : ℕ) → IsRun is_name_byte bs at end → at < end → (get_or bs at 0 ≡ 45 → ⊥) → LeadsIn (Name name.Colon) bs at end
run_in bs at end r l n =
    let w = r.within in
    let f = r.from in
    let c = get_or bs at 0 in
    let e : is_name_byte c ≡ true = r.pass at (omega arith) l in
    let low : c < 128 = low-name c e in
    record {
      from = l;
      within = w;
      on = λ d b h.
          let in_local =
          local-state _ (other (c == 45) _
          (implied (is_name_byte c) _ (agree_below_at (colon_tests d) (λ c. true) 128 c (colon_all d) low) e) (no_hyphen c n)) in
          (rests_local bs (at + 1) end (after_first bs at end r l)).on d b
          (low_on d bs at c (Name name.Colon) (Name name.Local) b (omega arith) refl low in_local h);
    }

-- a name whose local part is such a run
pub quick_local : (bs : List ℕ) (colon end : ℕ) → IsUtf8 bs → IsPrefix bs colon → is_colon bs colon ≡ true →
    IsRun is_name_byte bs (colon + 1) end → is_name_end bs end ≡ true →
    (end ≡ colon + 1 → ⊥) → (get_or bs (colon + 1) 0 ≡ 45 → ⊥) → IsToken Turtle bs end PnameLn
quick_local bs colon end u p m q z n h =
    let from = q.from in
    let e = and_parts (nat_lt end (length bs)) (ends_name (get_or bs end 0)) z in
    let over = and_from (ends_name (get_or bs end 0)) _ e.1 (not_from_false _ (q.stops (ltb-true end (length bs) e.0))) in
    let last = and_from (nat_lt end (length bs)) _ e.0 over in
    quick_far bs colon end u p m q end end (run_in bs (colon + 1) end q (omega (arith, n)) h) (rests_none bs end q.within)
    (ap (λ t. t || (stands_at 46 bs end && is_last bs (end + 1))) last)

-- a colon
pub colon_in : (bs : List ℕ) (at : ℕ) → stands_at 58 bs at ≡ true → BeginsLocal bs at (at + 1)
colon_in bs at z = (from name.Colon (λ d. refl), from name.Local (λ d. refl))
  where
    from : (n : _) → ((d : Dialect) → step d (Name n) 58 ≡ Name name.Local) → LeadsIn (Name n) bs at (at + 1)
    from n e =
        let t = there 58 bs at z in
        record {
          from = omega arith;
          within = let i = t.0 in
              omega arith;
          on = λ d b h. low_on d bs at 58 (Name n) (Name name.Local) b t.0 t.1 (omega arith) (e d) h;
        }

-- the state between the two digits of a PERCENT
abbrev at_second : State → Bool
at_second (Name (name.Hex zero)) = true
at_second s = false

second-state : (s : State) → at_second s ≡ true → s ≡ Name (name.Hex 0)
second-state (Name (name.Hex zero)) e = refl
second-state s e = absurd (false≢true e)

-- each byte of ASCII: a hex digit leads on
abbrev hex_tests : Dialect → ℕ → Bool
hex_tests d c = not (has hex_digit c) || (at_second (step d (Name (name.Hex 1)) c) && at_local (step d (Name (name.Hex 0)) c))

hex_all : (d : Dialect) → agree_below (hex_tests d) (λ c. true) 128 ≡ true
unfolding has
hex_all Lines = refl
hex_all Turtle = refl

hex_steps : (d : Dialect) (c : ℕ) → has hex_digit c ≡ true → (c < 128) × (step d (Name (name.Hex 1)) c ≡ Name (name.Hex 0))
    × (step d (Name (name.Hex 0)) c ≡ Name name.Local)
hex_steps d c e =
    let low = hex_below c e in
    let p = and_parts _ _ (implied (has hex_digit c) _ (agree_below_at (hex_tests d) (λ c. true) 128 c (hex_all d) low) e) in
    (low, second-state _ p.0, local-state _ p.1)

-- a PERCENT
pub percent_in : (bs : List ℕ) (at : ℕ) → is_percent bs at ≡ true → BeginsLocal bs at (at + 3)
percent_in bs at z = (from name.Colon (λ d. refl), from name.Local (λ d. refl))
  where
    from : (n : _) → ((d : Dialect) → step d (Name n) 37 ≡ Name (name.Hex 1)) → LeadsIn (Name n) bs at (at + 3)
    from n e =
        let p = and_parts (stands_at 37 bs at) _ z in
        let t = there 37 bs at p.0 in
        let q = and_parts (is_hex_at bs (at + 1)) (is_hex_at bs (at + 2)) p.1 in
        let one = and_parts (nat_lt (at + 1) (length bs)) (has hex_digit (get_or bs (at + 1) 0)) q.0 in
        let two = and_parts (nat_lt (at + 2) (length bs)) (has hex_digit (get_or bs (at + 2) 0)) q.1 in
        let i = ltb-true (at + 1) (length bs) one.0 in
        let j = ltb-true (at + 2) (length bs) two.0 in
        let next : at + 1 + 1 ≡ at + 2 = omega arith in
        let last : at + 2 + 1 ≡ at + 3 = omega arith in
        record {
          from = omega arith;
          within = omega arith;
          on = λ d b h.
              let x = get_or bs (at + 1) 0 in
              let y = get_or bs (at + 2) 0 in
              let hx = hex_steps d x one.1 in
              let hy = hex_steps d y two.1 in
              let first = low_past d bs at 37 (Name n) (Name (name.Hex 1)) b t.0 t.1 (omega arith) (e d) refl h in
              let second = low_past d bs (at + 1) x (Name (name.Hex 1)) (Name (name.Hex 0)) b i refl hx.0 hx.1 refl first in
              let third = low_on d bs (at + 2) y (Name (name.Hex 0)) (Name name.Local) b j refl hy.0 hy.2
              (subst (λ m. Reached d bs m (Name (name.Hex 0)) b) next second) in
              subst (λ m. Reached d bs m (Name name.Local) (with_length m (kind_here d bs (Name name.Local)) b)) last third;
        }

-- each byte of ASCII: one that may be escaped leads there from after a backslash
abbrev escape_tests : Dialect → ℕ → Bool
escape_tests d c = not (has local_escape c) || at_local (step d (Name name.Escape) c)

escape_all : (d : Dialect) → agree_below (escape_tests d) (λ c. true) 128 ≡ true
unfolding has
escape_all Lines = refl
escape_all Turtle = refl

-- what may be escaped is ASCII
low_escape : (c : ℕ) → has local_escape c ≡ true → c < 128
unfolding has
low_escape c e = grind (arith, nat_tests)

-- a PN_LOCAL_ESC
pub escape_in : (bs : List ℕ) (at : ℕ) → is_escape bs at ≡ true → BeginsLocal bs at (at + 2)
escape_in bs at z = (from name.Colon (λ d. refl), from name.Local (λ d. refl))
  where
    from : (n : _) → ((d : Dialect) → step d (Name n) 92 ≡ Name name.Escape) → LeadsIn (Name n) bs at (at + 2)
    from n e =
        let p = and_parts (stands_at 92 bs at) _ z in
        let t = there 92 bs at p.0 in
        let q = and_parts (nat_lt (at + 1) (length bs)) (has local_escape (get_or bs (at + 1) 0)) p.1 in
        let i = ltb-true (at + 1) (length bs) q.0 in
        let last : at + 1 + 1 ≡ at + 2 = omega arith in
        record {
          from = omega arith;
          within = omega arith;
          on = λ d b h.
              let c = get_or bs (at + 1) 0 in
              let low = low_escape c q.1 in
              let back : step d (Name name.Escape) c ≡ Name name.Local = local-state _
              (implied (has local_escape c) _ (agree_below_at (escape_tests d) (λ c. true) 128 c (escape_all d) low) q.1) in
              let first = low_past d bs at 92 (Name n) (Name name.Escape) b t.0 t.1 (omega arith) (e d) refl h in
              subst (λ m. Reached d bs m (Name name.Local) (with_length m (kind_here d bs (Name name.Local)) b)) last
              (low_on d bs (at + 1) c (Name name.Escape) (Name name.Local) b i refl low back first);
        }

-- a letter from U+0080 on leads there from the colon on and from within
base_sort : (c : ℕ) → 128 ≤ c → is_base c ≡ true → cond (nat_lt c 128) (ascii c) (high (wide_of c)) ≡ sort.Letter
unfolding wide_of
base_sort c l e = cond-false (nat_lt c 128) (ascii c) (high (wide_of c)) (le-ltb c 128 l)
    ∙ ap high (cond-true (is_base c) Letter (cond (is_mark c) Mark Other) e)

base_colon : (d : Dialect) (c : ℕ) → 128 ≤ c → is_base c ≡ true → step d (Name name.Colon) c ≡ Name name.Local
base_colon d c l e = ap (λ x. Name (move d name.Colon x)) (base_sort c l e)

base_local : (d : Dialect) (c : ℕ) → 128 ≤ c → is_base c ≡ true → step d (Name name.Local) c ≡ Name name.Local
base_local d c l e = ap (λ x. Name (move d name.Local x)) (base_sort c l e)

-- what the number of bytes of a letter says
lens : (t u v : Bool) (n : ℕ) → cond t (cond u 2 (cond v 3 0)) 0 ≡ n → 0 < n → (t ≡ true) × (((u ≡ true) × (n ≡ 2)) ⊎ ((v ≡ true) × (n ≡ 3)))
lens true true v n e l = (refl, inl (refl, sym e))
lens true false true n e l = (refl, inr (refl, sym e))
lens true false false n e l = absurd (omega (arith, e, l))
lens false u v n e l = absurd (omega (arith, e, l))

-- the first byte says how many there are
two_first : (a b : ℕ) → begins_two a b ≡ true → (192 < a) × (a < 224)
two_first a b e = (grind (arith, nat_tests), grind (arith, nat_tests))

three_first : (a b : ℕ) → begins_three a b ≡ true → (223 < a) × (a < 240)
three_first a b e = (grind (arith, nat_tests), grind (arith, nat_tests))

-- letters of two bytes
two_base : (c : ℕ) → 128 ≤ c → c < 2048 → begins_two (192 + c / 64) (128 + c % 64) ≡ true → is_base c ≡ true
two_base c l h e = grind (arith, nat_tests)

-- and of three
three_base : (c : ℕ) → 2048 ≤ c → c < 65536 → begins_three (224 + c / 4096) (128 + (c / 64) % 64) ≡ true → is_base c ≡ true
three_base c l h e = grind (arith, nat_tests)

-- the character whose bytes stand at a place
record IsLetter (bs : List ℕ) (at n c : ℕ) : Type 0 where
  is : drop at bs ≡ encode_utf8 c ++ drop (at + n) bs
  width : at + n ≡ at + len_utf8 c
  wide : 128 ≤ c
  base : is_base c ≡ true

-- a letter that its first two bytes tell
letter : (bs : List ℕ) (at n : ℕ) → IsUtf8 (drop at bs) → letter_len bs at ≡ n → 0 < n → (c : ℕ) × IsLetter bs at n c
letter bs at n u e l = (c, by_sizes sizes.1)
  where
    a : ℕ
    a = get_or bs at 0

    b : ℕ
    b = get_or bs (at + 1) 0

    sizes : (nat_lt (at + 1) (length bs) ≡ true)
        × (((begins_two a b ≡ true) × (n ≡ 2)) ⊎ (((nat_lt (at + 2) (length bs) && begins_three a b) ≡ true) × (n ≡ 3)))
    sizes = lens _ (begins_two a b) (nat_lt (at + 2) (length bs) && begins_three a b) n e l

    inside : at + 1 < length bs
    inside = ltb-true (at + 1) (length bs) sizes.0

    found : (c : ℕ) × (drop at bs ≡ encode_utf8 c ++ drop (at + len_utf8 c) bs) × (at + len_utf8 c ≤ length bs)
    found = first_char bs at u (let i = inside in omega arith)

    c : ℕ
    c = found.0

    byte : (j : ℕ) → j < length (encode_utf8 c) → get_or bs (at + j) 0 ≡ get_or (encode_utf8 c) j 0
    byte j m = sym (get_or-drop at bs j 0) ∙ (ap (λ v. get_or v j 0) found.1 ∙ get_or_append_left (encode_utf8 c) (drop (at + len_utf8 c) bs) 0 j m)

    -- the first byte, by the bytes of the character
    lead : (x : ℕ) (v : List ℕ) → encode_utf8 c ≡ x ∷ v → a ≡ x
    lead x v s =
        let here : at + 0 ≡ at = omega arith in
        sym (ap (λ m. get_or bs m 0) here) ∙ (byte 0 (omega (arith, ap length s)) ∙ ap (λ w. get_or w 0 0) s)

    second : (x y : ℕ) (v : List ℕ) → encode_utf8 c ≡ x ∷ y ∷ v → b ≡ y
    second x y v s = byte 1 (omega (arith, ap length s)) ∙ ap (λ w. get_or w 1 0) s

    told : (m : ℕ) → n ≡ m → length (encode_utf8 c) ≡ m → 128 ≤ c → is_base c ≡ true → IsLetter bs at n c
    told m s t w k =
        let width : at + n ≡ at + len_utf8 c = omega (arith, s, t, length-encode c) in
        record { is = found.1 ∙ ap (λ m. encode_utf8 c ++ drop m bs) (sym width); width = width; wide = w; base = k }

    wide : 192 < a → 128 ≤ c
    wide h = ⊎_elim (λ m. absurd (omega (arith, h, lead c [] (encode_ascii c m)))) (λ m. m) (cases_lt c 128)

    two : 128 ≤ c → begins_two a b ≡ true → n ≡ 2 → IsLetter bs at n c
    two w k s = ⊎_elim
        (λ (m : c < 2048).
        let is = encode_two c w m in
        told 2 s (ap length is) w (two_base c w m (sym (ap (λ x. begins_two x b) (lead _ _ is) ∙ ap (begins_two (192 + c / 64)) (second _ _ _ is)) ∙ k)))
        (λ m. ⊎_elim
        (λ (o : c < 65536). absurd (let first = two_first a b k in omega (arith, first, lead _ _ (encode_three c m o))))
        (λ o. absurd (let first = two_first a b k in omega (arith, first, lead _ _ (encode_four c o))))
        (cases_lt c 65536))
        (cases_lt c 2048)

    three : 128 ≤ c → begins_three a b ≡ true → n ≡ 3 → IsLetter bs at n c
    three w k s = ⊎_elim
        (λ (m : c < 2048). absurd (let first = three_first a b k in omega (arith, first, m, lead _ _ (encode_two c w m))))
        (λ m. ⊎_elim
        (λ (o : c < 65536).
        let is = encode_three c m o in
        told 3 s (ap length is) w
        (three_base c m o (sym (ap (λ x. begins_three x b) (lead _ _ is) ∙ ap (begins_three (224 + c / 4096)) (second _ _ _ is)) ∙ k)))
        (λ o. absurd (let first = three_first a b k in omega (arith, first, lead _ _ (encode_four c o))))
        (cases_lt c 65536))
        (cases_lt c 2048)

    by_sizes : (((begins_two a b ≡ true) × (n ≡ 2)) ⊎ (((nat_lt (at + 2) (length bs) && begins_three a b) ≡ true) × (n ≡ 3))) → IsLetter bs at n c
    by_sizes (inl h) = two (wide (two_first a b h.0).0) h.0 h.1
    by_sizes (inr h) =
        let k = (and_parts (nat_lt (at + 2) (length bs)) (begins_three a b) h.0).1 in
        three (wide (let f = three_first a b k in omega arith)) k h.1

-- such a letter ends within the bytes
pub letter_within : (bs : List ℕ) (at n : ℕ) → letter_len bs at ≡ n → at ≤ length bs → at + n ≤ length bs
letter_within bs at n e l = ⊎_elim some (λ (z : n ≤ 0). omega arith) (cases_lt 0 n)
  where
    some : 0 < n → at + n ≤ length bs
    some o =
        let s = lens _ (begins_two (get_or bs at 0) (get_or bs (at + 1) 0))
        (nat_lt (at + 2) (length bs) && begins_three (get_or bs at 0) (get_or bs (at + 1) 0)) n e o in
        let i = ltb-true (at + 1) (length bs) s.0 in
        ⊎_elim
        (λ h. let z = h.1 in omega arith)
        (λ h. let z = h.1 in let j = ltb-true (at + 2) (length bs) (and_parts (nat_lt (at + 2) (length bs)) _ h.0).0 in omega arith)
        s.1

-- and leads there
pub letter_in : (bs : List ℕ) (at n : ℕ) → letter_len bs at ≡ n → at ≤ length bs → 0 < n → BeginsLocal bs at (at + n)
letter_in bs at n e i l = (from name.Colon base_colon, from name.Local base_local)
  where
    within : at + n ≤ length bs
    within = letter_within bs at n e i

    from : (s : _) → ((d : Dialect) (c : ℕ) → 128 ≤ c → is_base c ≡ true → step d (Name s) c ≡ Name name.Local) → LeadsIn (Name s) bs at (at + n)
    from s to = record {
      from = omega arith;
      within = within;
      on = λ d b r.
          let x = letter bs at n r.here.utf8 e l in
          let k = kind_here d bs (Name name.Local) in
          reached-step d bs at (at + n) x.0 (Name s) (Name name.Local) k b (with_length (at + n) k b) r x.1.is x.1.width within
          (sym (to d x.0 x.1.wide x.1.base)) refl refl;
    }

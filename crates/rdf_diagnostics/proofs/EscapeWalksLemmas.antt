-- A walk over the characters of a text, step by step.
use Rattle.rdf_diagnostics.proofs.Prelude.{◌≡◌, ℕ, zero, suc, ◌+◌, ◌-◌, ◌*◌, ◌<◌, ◌≤◌, true, List, ◌∷◌, Option, Some, refl, sym, ap, ◌∙◌, subst, arith, cond-true, len_utf8, Inside, EscapeState, outside, slash, digits, Move, leads, means, fails, digit_move, hex_value, move, begun_at, stop_by, stop_from, stand_of, stand_for, step_for, room}
use Rattle.std.specs.Prelude.{SomeIff, IfSome}
use Rattle.rdf_terms.specs.Classes.{has}
use Rattle.rdf_terms.specs.Classes.Class.{hex_digit}
use Rattle.rdf_diagnostics.specs.declared.bad_escape.Stand.{Stand}
use Rattle.rdf_diagnostics.specs.declared.bad_escape.Step.TheVariants.{Leads, Means, Fails}

-- each digit takes a part of the room
pub room_next : (k n v : ℕ) → 0 < k → n < room k → v < 16 → 16 * n + v < room (k - 1)
room_next zero n v s l h = absurd (omega arith)
room_next (suc k) n v s l h = let e : suc k - 1 ≡ k = omega arith in subst (λ j. 16 * n + v < room j) (sym e) (omega arith)

-- which is that of 32 bits
pub room_most : (k : ℕ) → room k ≤ 4294967296
room_most zero = omega arith
room_most (suc k) = let l = room_most k in omega arith

-- a number that has room fits
pub room_fits : (k n v : ℕ) → 0 < k → n < room k → v < 16 → 16 * n + v < 4294967296
room_fits k n v s l h = let a = room_next k n v s l h in let b = room_most (k - 1) in omega arith

-- a hex digit where one is to come
pub move_digit : (i : Inside) (k n c v : ℕ) → 0 < k → has hex_digit c ≡ true → v ≡ hex_value c → move i (digits k n) c ≡ digit_move i (k - 1) (16 * n + v)
move_digit i zero n c v s h e = absurd (omega arith)
move_digit i (suc k) n c v s h e =
    let j : suc k - 1 ≡ k = omega arith in
    cond-true (has hex_digit c) (digit_move i k (16 * n + hex_value c)) fails h
    ∙ (ap (λ x. digit_move i k (16 * n + x)) (sym e) ∙ ap (λ x. digit_move i x (16 * n + v)) (sym j))

-- what the code's names stand for
stand_same : (s : EscapeState) → stand_of (stand_for s) ≡ s
stand_same outside = refl
stand_same slash = refl
stand_same (digits k n) = refl

same_stand : (a b : Stand) → Leads a ≡ Leads b → a ≡ b
same_stand a b e = cc

-- a character that leads on, one that completes, and one that can't stand there
module _ (i : Inside) (s : EscapeState) (b n c : ℕ) (w : List ℕ) where
  abbrev begun : ℕ
  begun = begun_at s b n

  abbrev rest : EscapeState → Option ℕ
  rest t = stop_from i t begun (n + len_utf8 c) w

  pub by_leads : (t : Stand) → step_for (move i s c) ≡ Leads t → stop_from i s b n (c ∷ w) ≡ stop_from i (stand_of t) (begun_at s b n) (n + len_utf8 c) w
  by_leads t e = by (move i s c) e
    where
      by : (m : Move) → step_for m ≡ Leads t → stop_by m begun rest ≡ rest (stand_of t)
      by (leads u) e = ap rest (sym (stand_same u) ∙ ap stand_of (same_stand (stand_for u) t e))
      by (means d) e = absurd (cc)
      by fails e = absurd (cc)

  pub by_means : step_for (move i s c) ≡ Means → stop_from i s b n (c ∷ w) ≡ stop_from i outside (begun_at s b n) (n + len_utf8 c) w
  by_means e = by (move i s c) e
    where
      by : (m : Move) → step_for m ≡ Means → stop_by m begun rest ≡ rest outside
      by (leads u) e = absurd (cc)
      by (means d) e = refl
      by fails e = absurd (cc)

  pub by_fails : step_for (move i s c) ≡ Fails → stop_from i s b n (c ∷ w) ≡ Some (begun_at s b n)
  by_fails e = by (move i s c) e
    where
      by : (m : Move) → step_for m ≡ Fails → stop_by m begun rest ≡ Some begun
      by (leads u) e = absurd (cc)
      by (means d) e = absurd (cc)
      by fails e = refl

-- what is known of a digit
pub some_digit : (r : Option ℕ) (v c : ℕ) → r ≡ Some v → SomeIff r (has hex_digit c ≡ true) (hex_value c) → IfSome r (λ v. v < 16) →
    (has hex_digit c ≡ true) × (v ≡ hex_value c) × (v < 16)
some_digit r v c e h s = let k = subst (λ r. SomeIff r (has hex_digit c ≡ true) (hex_value c)) e h in let l =
    subst (λ r. IfSome r (λ v. v < 16)) e s in (k.0, k.1, l)

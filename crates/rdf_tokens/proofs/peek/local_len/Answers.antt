-- A name with an empty prefix, by the run after its colon and the byte after it.
use Rattle.rdf_tokens.proofs.Prelude.{◌≡◌, ◌==◌, ◌∙◌, ℕ, List, true, inl, refl, sym, ap, subst, cond, get_or, take, arith, IsUtf8, cond-false, ne_eqb, Turtle, PnameLn, PnameNs, IsRun, is_name_byte, local_kind, is_colon, is_name_end, KnowsColon}
use Rattle.rdf_tokens.specs.Quick.{IsToken}
use Rattle.rdf_tokens.proofs.LocalLemmas.{quick_local}
use Rattle.rdf_tokens.proofs.PeekLemmas.{run_past}
use Rattle.rdf_tokens.proofs.QuickLemmas.{quick_namespace}
use Rattle.rdf_tokens.proofs.peek.local_len.Goals as goal

-- what is told of it
abbrev IsLocal : List ℕ → ℕ → Type 0
IsLocal bs n = IsToken Turtle bs n (local_kind n) × KnowsColon (take n bs) 1

-- nothing stands before the colon, and no backslash in a run
past : (bs : List ℕ) (end : ℕ) → is_colon bs 0 ≡ true → IsRun is_name_byte bs 1 end → KnowsColon (take end bs) 1
past bs end is run = run_past bs 0 end (λ k from to. absurd (omega (arith, to))) is run

-- no local part
none : (bs : List ℕ) (end : ℕ) → IsUtf8 bs → is_colon bs 0 ≡ true → IsRun is_name_byte bs 1 end → is_name_end bs end ≡ true → end ≡ 1 → IsLocal bs end
none bs end u is run ends one = (
  subst (IsToken Turtle bs end) (sym (ap (λ n. cond (n == 1) PnameNs PnameLn) one)) (quick_namespace bs 0 end u (inl refl) is run ends one),
  past bs end is run,
)

-- some
some : (bs : List ℕ) (end : ℕ) → IsUtf8 bs → is_colon bs 0 ≡ true → IsRun is_name_byte bs 1 end → is_name_end bs end ≡ true →
    (end ≡ 1 → ⊥) → (get_or bs 1 0 ≡ 45 → ⊥) →
    IsLocal bs end
some bs end u is run ends n h = (
  subst (IsToken Turtle bs end) (sym (cond-false (end == 1) PnameNs PnameLn (ne_eqb end 1 n))) (quick_local bs 0 end u (inl refl) is run ends n h),
  past bs end is run,
)

pub returns-then-end-eq1 : goal.returns-then-end-eq1
returns-then-end-eq1 c =
    let bs = c.as_bytes-bytes.result.now in
    let v = c.as_bytes-bytes.ensures.value in
    let end = c.run_end-end.result in
    subst (λ b. IsLocal b end) v
    (none bs end (subst IsUtf8 (sym v) c.utf8.text) (subst (λ b. is_colon b 0 ≡ true) (sym v) c.requires) c.run_end-end.ensures
    (sym c.is_name_end.ensures ∙ c.if-not-is_name_end.false) c.if-end-eq1.true)

pub returns : goal.returns
returns c =
    let bs = c.as_bytes-bytes.result.now in
    let v = c.as_bytes-bytes.ensures.value in
    let end = c.run_end-end.result in
    subst (λ b. IsLocal b end) v
    (some bs end (subst IsUtf8 (sym v) c.utf8.text) (subst (λ b. is_colon b 0 ≡ true) (sym v) c.requires) c.run_end-end.ensures
    (sym c.is_name_end.ensures ∙ c.if-not-is_name_end.false) (λ (z : end ≡ 1). let f = c.if-end-eq1.false in omega (arith, z, f))
    (λ (z : get_or bs 1 0 ≡ 45). let f = c.if-bytes-eq45.false in omega (arith, z, f)))

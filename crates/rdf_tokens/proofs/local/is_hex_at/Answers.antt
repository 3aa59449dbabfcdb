use Rattle.rdf_tokens.proofs.Prelude.{◌≡◌, ◌<◌, ◌≤◌, ◌&&◌, ℕ, false, refl, sym, ap, ◌∙◌, ⊎_elim, arith, nat_tests, agree_below_at, cases_lt, has, hex_digit, get_or, lt-ltb}
use Rattle.std.specs.Char.{is_ascii_hexdigit}
use Rattle.rdf_tokens.proofs.local.is_hex_at.Goals as goal

-- the hex digits of std are those of the grammar, by a test of each character of ASCII
same : (b : ℕ) → is_ascii_hexdigit b ≡ has hex_digit b
unfolding has
same b = ⊎_elim (λ (l : b < 128). agree_below_at is_ascii_hexdigit (has hex_digit) 128 b refl l)
    (λ (l : 128 ≤ b). let x : is_ascii_hexdigit b ≡ false = grind (arith, nat_tests) in let y : has hex_digit b ≡ false = grind (arith, nat_tests) in x ∙ sym y)
    (cases_lt b 128)

pub returns-then-at-bytes : goal.returns-then-at-bytes
returns-then-at-bytes c =
    let b = get_or c.args.bytes.now c.args.at 0 in
    c.is_ascii_hexdigit.ensures.value ∙ same b ∙ sym (ap (λ t. t && has hex_digit b) (lt-ltb _ _ c.if-at-bytes.true))

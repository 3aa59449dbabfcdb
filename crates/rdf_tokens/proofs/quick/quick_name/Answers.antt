-- The prefix of a name, by the run after its first letter.
use Rattle.rdf_tokens.proofs.Prelude.{◌≡◌, ◌+◌, ◌∙◌, true, inr, sym, subst, length, IsUtf8, and_parts, ltb-true, Turtle, A, IsRun, is_name_byte, is_colon}
use Rattle.rdf_tokens.specs.Quick.{IsToken}
use Rattle.rdf_tokens.proofs.QuickLemmas.{quick_a}
use Rattle.rdf_tokens.proofs.quick.quick_name.Goals as goal

pub quick_local-requires-clause-prefix : goal.quick_local-requires-clause-prefix
quick_local-requires-clause-prefix c =
    inr (c.requires.letter, subst (λ b. IsRun is_name_byte b 1 c.two_run_ends-colon.result.0) c.as_bytes-bytes.ensures.value c.two_run_ends-colon.ensures.first)

pub quick_local-requires-clause-colon : goal.quick_local-requires-clause-colon
quick_local-requires-clause-colon c =
    subst (λ b. is_colon b c.two_run_ends-colon.result.0 ≡ true) c.as_bytes-bytes.ensures.value (sym c.is_colon.ensures ∙ c.if-is_colon.true)

pub quick_local-requires-clause-local : goal.quick_local-requires-clause-local
quick_local-requires-clause-local c =
    let colon = c.two_run_ends-colon.result.0 in
    let is = sym c.is_colon.ensures ∙ c.if-is_colon.true in
    subst (λ b. IsRun is_name_byte b (colon + 1) c.two_run_ends-colon.result.1) c.as_bytes-bytes.ensures.value
    (c.two_run_ends-colon.ensures.second (ltb-true colon (length c.as_bytes-bytes.result.now) (and_parts _ _ is).0))

pub quick_word-requires : goal.quick_word-requires
quick_word-requires c = subst (λ b. IsRun is_name_byte b 1 c.two_run_ends-colon.result.0) c.as_bytes-bytes.ensures.value c.two_run_ends-colon.ensures.first

pub returns-then-is_a : goal.returns-then-is_a
returns-then-is_a c =
    let bs = c.as_bytes-bytes.result.now in
    let v = c.as_bytes-bytes.ensures.value in
    subst (λ b. IsToken Turtle b 1 A) v (quick_a bs c.two_run_ends-colon.result.0
    (subst IsUtf8 (sym v) c.utf8.text) c.two_run_ends-colon.ensures.first (sym c.is_a.ensures ∙ c.if-is_a.true))

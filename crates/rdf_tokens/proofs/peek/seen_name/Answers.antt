-- A name, by the colon, the runs beside it and the byte after them; or the word `a`.
use Rattle.rdf_tokens.proofs.Prelude.{◌≡◌, ◌+◌, ◌∙◌, true, inr, refl, sym, subst, length, get_or, take, IsUtf8, and_parts, ltb-true, Turtle, A, PnameLn, IsRun, is_name_byte, KnowsColon}
use Rattle.rdf_terms.specs.Classes.{is_letter}
use Rattle.rdf_tokens.specs.Quick.{IsToken}
use Rattle.rdf_tokens.proofs.LocalLemmas.{quick_local}
use Rattle.rdf_tokens.proofs.PeekLemmas.{local_is, prefix_bytes, run_past}
use Rattle.rdf_tokens.proofs.QuickLemmas.{quick_a}
use Rattle.rdf_tokens.proofs.peek.seen_name.Goals as goal

pub returns-then-is_local : goal.returns-then-is_local
returns-then-is_local c =
    let bs = c.as_bytes-bytes.result.now in
    let v = c.as_bytes-bytes.ensures.value in
    let colon = c.two_run_ends-colon.result.0 in
    let end = c.two_run_ends-colon.result.1 in
    let is = sym c.is_colon.ensures ∙ c.if-is_colon.true in
    let letter = subst (λ b. is_letter (get_or b 0 0) ≡ true) (sym v) c.requires.letter in
    let first = c.two_run_ends-colon.ensures.first in
    let second = c.two_run_ends-colon.ensures.second (ltb-true colon (length bs) (and_parts _ _ is).0) in
    let l = local_is bs (colon + 1) end (sym c.is_local.ensures ∙ c.if-is_local.true) in (
      refl,
      subst (λ b. IsToken Turtle b end PnameLn) v
          (quick_local bs colon end (subst IsUtf8 (sym v) c.utf8.text) (inr (letter, first)) is second l.ends l.some l.no_hyphen),
      subst (λ b. KnowsColon (take end b) (colon + 1)) v (run_past bs colon end (prefix_bytes bs colon letter first) is second),
    )

pub returns-then-is_a : goal.returns-then-is_a
returns-then-is_a c =
    let bs = c.as_bytes-bytes.result.now in
    let v = c.as_bytes-bytes.ensures.value in (
      refl,
      subst (λ b. IsToken Turtle b 1 A) v
          (quick_a bs c.two_run_ends-colon.result.0 (subst IsUtf8 (sym v) c.utf8.text) c.two_run_ends-colon.ensures.first
          (sym c.is_a.ensures ∙ c.if-is_a.true)),
      tt,
    )

pub returns-then-is_colon : goal.returns-then-is_colon
returns-then-is_colon c =
    let colon = c.two_run_ends-colon.result.0 in
    c.seen_far.ensures c.args.text.now
    (c.far_name.ensures colon (subst (λ b. IsRun is_name_byte b 1 colon) c.as_bytes-bytes.ensures.value c.two_run_ends-colon.ensures.first))

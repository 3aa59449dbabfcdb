-- A name that goes on after its run, by the parts of its local part and what comes after.
use Rattle.rdf_tokens.proofs.Prelude.{◌≡◌, ◌+◌, ◌∙◌, true, sym, subst, IsUtf8, Turtle, PnameLn, IsRun, is_name_byte, IsPrefix, is_colon}
use Rattle.rdf_tokens.specs.Quick.{IsToken}
use Rattle.rdf_tokens.proofs.QuickLemmas.{quick_far}
use Rattle.rdf_tokens.proofs.quick.far_len.Goals as goal

pub returns-then-ends_local : goal.returns-then-ends_local
returns-then-ends_local c =
    let bs = c.as_bytes-bytes.result.now in
    let v = c.as_bytes-bytes.ensures.value in
    let colon = c.args.colon in
    let end = c.args.end in
    let last = c.local_end-last.result in
    subst (λ b. IsToken Turtle b last PnameLn) v
    (quick_far bs colon end (subst IsUtf8 (sym v) c.utf8.text) (subst (λ b. IsPrefix b colon) (sym v) c.requires.prefix)
    (subst (λ b. is_colon b colon ≡ true) (sym v) c.requires.colon) (subst (λ b. IsRun is_name_byte b (colon + 1) end) (sym v) c.requires.local)
    c.in_ok-front.front last c.in_ok-front.ensures c.local_end-last.ensures (sym c.ends_local.ensures ∙ c.if-ends_local.true))

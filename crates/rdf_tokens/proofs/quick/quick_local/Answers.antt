-- A name, by the colon, the run after it and the byte that ends it.
use Rattle.rdf_tokens.proofs.Prelude.{◌≡◌, ◌+◌, ◌∙◌, true, sym, subst, get_or, arith, IsUtf8, Turtle, PnameNs, PnameLn, IsRun, is_name_byte, IsPrefix, is_colon}
use Rattle.rdf_tokens.specs.Quick.{IsToken}
use Rattle.rdf_tokens.proofs.LocalLemmas.{quick_local}
use Rattle.rdf_tokens.proofs.QuickLemmas.{quick_namespace}
use Rattle.rdf_tokens.proofs.quick.quick_local.Goals as goal

pub returns-then-end-local : goal.returns-then-end-local
returns-then-end-local c =
    let bs = c.as_bytes-bytes.result.now in
    let v = c.as_bytes-bytes.ensures.value in
    let colon = c.args.colon in
    subst (λ b. IsToken Turtle b c.args.end PnameNs) v
    (quick_namespace bs colon c.args.end (subst IsUtf8 (sym v) c.utf8.text) (subst (λ b. IsPrefix b colon) (sym v) c.requires.prefix)
    (subst (λ b. is_colon b colon ≡ true) (sym v) c.requires.colon) (subst (λ b. IsRun is_name_byte b (colon + 1) c.args.end) (sym v) c.requires.local)
    (sym c.is_name_end.ensures ∙ c.if-not-is_name_end.false) c.if-end-local.true)

pub returns : goal.returns
returns c =
    let bs = c.as_bytes-bytes.result.now in
    let v = c.as_bytes-bytes.ensures.value in
    let colon = c.args.colon in
    let end = c.args.end in
    subst (λ b. IsToken Turtle b end PnameLn) v
    (quick_local bs colon end (subst IsUtf8 (sym v) c.utf8.text) (subst (λ b. IsPrefix b colon) (sym v) c.requires.prefix)
    (subst (λ b. is_colon b colon ≡ true) (sym v) c.requires.colon) (subst (λ b. IsRun is_name_byte b (colon + 1) end) (sym v) c.requires.local)
    (sym c.is_name_end.ensures ∙ c.if-not-is_name_end.false)
    (λ (z : end ≡ colon + 1). let f = c.if-end-local.false in omega (arith, z, f))
    (λ (z : get_or bs (colon + 1) 0 ≡ 45). let f = c.if-bytes-local-eq45.false in omega (arith, z, f)))

-- A string, by its quotes and the run between them.
use Rattle.rdf_tokens.proofs.Prelude.{◌≡◌, ◌+◌, ◌∙◌, true, sym, subst, IsUtf8, ShortString, IsRun, goes_over, opens_with, stands_at}
use Rattle.rdf_tokens.specs.Quick.{IsToken}
use Rattle.rdf_tokens.proofs.PlainQuick.{quick_empty}
use Rattle.rdf_tokens.proofs.StringLemmas.{run_string}
use Rattle.rdf_tokens.proofs.quick.quick_string.Goals as goal

pub returns-then-is_empty_string : goal.returns-then-is_empty_string
returns-then-is_empty_string c =
    let bs = c.as_bytes-bytes.result.now in
    let v = c.as_bytes-bytes.ensures.value in
    let d = c.args.dialect in
    let q = c.args.quote in
    subst (λ b. IsToken d b 2 ShortString) v
    (quick_empty d q bs (subst IsUtf8 (sym v) c.utf8.text) (subst (λ b. opens_with d q b ≡ true) (sym v) c.requires)
    (sym c.is_empty_string.ensures ∙ c.if-is_empty_string.true))

pub returns-then-stands_at : goal.returns-then-stands_at
returns-then-stands_at c =
    let bs = c.as_bytes-bytes.result.now in
    let v = c.as_bytes-bytes.ensures.value in
    let d = c.args.dialect in
    let q = c.args.quote in
    let end = c.run_end-end.result in
    subst (λ b. IsToken d b (end + 1) ShortString) v
    (run_string d q bs (subst IsUtf8 (sym v) c.utf8.text) (subst (λ b. opens_with d q b ≡ true) (sym v) c.requires) end c.if-end-gt1.true
    (subst (λ r. IsRun (goes_over r) bs 1 end) c.short_run.ensures c.run_end-end.ensures)
    (subst (λ n. stands_at n bs end ≡ true) c.quote_byte.ensures (sym c.stands_at.ensures ∙ c.if-stands_at.true)))

-- The states have come to the place where the inside of the string ends.
use Rattle.rdf_tokens.proofs.Prelude.{◌≡◌, ◌+◌, ◌≤◌, arith, true, sym, ◌∙◌, subst, IsUtf8, ShortString, opens_with, stands_at, IsFirst, IsFit, counted_bytes}
use Rattle.rdf_tokens.specs.Quick.{IsToken}
use Rattle.rdf_tokens.proofs.PlainQuick.{some_string, utf8_after}
use Rattle.rdf_tokens.proofs.StringLemmas.{string_fits, string_whole}
use Rattle.rdf_tokens.proofs.strings.quoted_len.Goals as goal

pub first_end-requires-clause-some : goal.first_end-requires-clause-some
first_end-requires-clause-some c = some_string c.args.dialect c.args.quote c.args.text.now c.utf8.text c.requires.opens

pub first_end-requires-clause-utf8 : goal.first_end-requires-clause-utf8
first_end-requires-clause-utf8 c = utf8_after c.args.dialect c.args.quote c.args.text.now c.utf8.text c.requires.opens

pub returns-then-stands_at-clause-token : goal.returns-then-stands_at-clause-token
returns-then-stands_at-clause-token c =
    let bs = c.as_bytes-bytes.result.now in
    let v = c.as_bytes-bytes.ensures.value in
    let d = c.args.dialect in
    let q = c.args.quote in
    let e = c.string_end-end in
    subst (λ b. IsToken d b (e.result + 1) ShortString) v
    (string_whole d q bs (subst IsUtf8 (sym v) c.utf8.text) (subst (λ b. opens_with d q b ≡ true) (sym v) c.requires.opens) c.in-Some.first
    (subst (λ b. IsFirst q b c.in-Some.first) (sym v) c.in-Some.ensures) e.result
    e.ensures.rests e.ensures.fits (subst (λ n. stands_at n bs e.result ≡ true) c.quote_byte.ensures (sym c.stands_at.ensures ∙ c.if-stands_at.true)))

pub returns-then-end-ge3-clause-walked : goal.returns-then-end-ge3-clause-walked
returns-then-end-ge3-clause-walked c =
    let bs = c.as_bytes-bytes.result.now in
    let v = c.as_bytes-bytes.ensures.value in
    let d = c.args.dialect in
    let q = c.args.quote in
    let e = c.string_end-end in
    let some = c.if-end-ge3.true in
    c.keep_inside.ensures d c.args.text.now c.utf8.text c.requires.walked
    (subst (λ o. counted_bytes o ≤ e.result) (sym c.requires.none) (omega arith)) (omega arith)
    (subst (λ b. IsFit d b e.result q) v
    (string_fits d q bs (subst IsUtf8 (sym v) c.utf8.text) (subst (λ b. opens_with d q b ≡ true) (sym v) c.requires.opens) c.in-Some.first
    (subst (λ b. IsFirst q b c.in-Some.first) (sym v) c.in-Some.ensures)
    e.result e.ensures.rests e.ensures.fits))

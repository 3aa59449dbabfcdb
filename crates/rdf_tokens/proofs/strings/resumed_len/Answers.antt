-- The string goes on from the place up to which it has no bad escape.
use Rattle.rdf_tokens.proofs.Prelude.{◌≡◌, ◌+◌, arith, true, sym, ◌∙◌, subst, IsUtf8, ShortString, stands_at, IsFit}
use Rattle.rdf_tokens.specs.Quick.{IsToken}
use Rattle.rdf_tokens.proofs.StringLemmas.{fit_on, fit_whole}
use Rattle.rdf_tokens.proofs.strings.resumed_len.Goals as goal

pub returns-then-stands_at-clause-token : goal.returns-then-stands_at-clause-token
returns-then-stands_at-clause-token c =
    let bs = c.as_bytes-bytes.result.now in
    let v = c.as_bytes-bytes.ensures.value in
    let d = c.args.dialect in
    let q = c.args.quote in
    let e = c.string_end-end in
    let from = c.args.from in
    subst (λ b. IsToken d b (e.result + 1) ShortString) v
    (fit_whole d q bs e.result (subst IsUtf8 (sym v) c.utf8.text)
    (fit_on d q bs from e.result (subst (λ b. IsFit d b from q) (sym v) c.requires.fit) e.ensures.rests e.ensures.fits)
    (subst (λ n. stands_at n bs e.result ≡ true) c.quote_byte.ensures (sym c.stands_at.ensures ∙ c.if-stands_at.true)))

pub returns-clause-walked : goal.returns-clause-walked
returns-clause-walked c =
    let bs = c.as_bytes-bytes.result.now in
    let v = c.as_bytes-bytes.ensures.value in
    let d = c.args.dialect in
    let q = c.args.quote in
    let e = c.string_end-end in
    let from = c.args.from in
    let on = e.ensures.rests.from in
    let enough = c.requires.enough in
    let counted = c.requires.counted in
    c.keep_inside.ensures d c.args.text.now c.utf8.text c.requires.walked (omega (arith, on, counted)) (omega (arith, on, enough))
    (subst (λ b. IsFit d b e.result q) v
    (fit_on d q bs from e.result (subst (λ b. IsFit d b from q) (sym v) c.requires.fit) e.ensures.rests e.ensures.fits))

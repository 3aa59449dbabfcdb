-- The states have come to the place where the inside of the reference ends.
use Rattle.rdf_tokens.proofs.Prelude.{◌≡◌, ◌+◌, ◌≤◌, arith, true, sym, ◌∙◌, subst, None, IsUtf8, IriRef, Reached, begins_iri, counted_bytes}
use Rattle.rdf_tokens.specs.declared.states.iri.Iri.TheVariants.{Inside}
use Rattle.rdf_tokens.specs.declared.states.machine.State.TheVariants.{Iri}
use Rattle.rdf_tokens.specs.Quick.{IsToken}
use Rattle.rdf_tokens.proofs.PlainQuick.{iri_reached, iri_whole}
use Rattle.rdf_tokens.proofs.iris.enclosed_len.Goals as goal

pub returns-then-stands_at-clause-token : goal.returns-then-stands_at-clause-token
returns-then-stands_at-clause-token c =
    let bs = c.as_bytes-bytes.result.now in
    let v = c.as_bytes-bytes.ensures.value in
    let d = c.args.dialect in
    let e = c.iri_end-end in
    subst (λ b. IsToken d b (e.result + 1) IriRef) v
    (iri_whole d bs (subst IsUtf8 (sym v) c.utf8.text) (subst (λ b. begins_iri b ≡ true) (sym v) c.requires.opens) e.result e.ensures.rests
    e.ensures.fits (sym c.stands_at.ensures ∙ c.if-stands_at.true))

pub returns-then-end-ge3-clause-walked : goal.returns-then-end-ge3-clause-walked
returns-then-end-ge3-clause-walked c =
    let bs = c.as_bytes-bytes.result.now in
    let v = c.as_bytes-bytes.ensures.value in
    let d = c.args.dialect in
    let e = c.iri_end-end in
    let some = c.if-end-ge3.true in
    c.walk_to.ensures d c.args.text.now c.utf8.text c.requires.walked
    (subst (λ o. counted_bytes o ≤ e.result) (sym c.requires.none) (omega arith)) (omega arith)
    (subst (λ b. Reached d b e.result (Iri Inside) None) v
    (iri_reached d bs (subst IsUtf8 (sym v) c.utf8.text) (subst (λ b. begins_iri b ≡ true) (sym v) c.requires.opens) e.result e.ensures.rests)) tt

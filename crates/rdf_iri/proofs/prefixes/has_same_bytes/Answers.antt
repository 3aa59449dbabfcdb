use Rattle.rdf_iri.proofs.Prelude.{◌≡◌, ◌∙◌, sym, length, arith, take_all, bytes_eq-Decides}
use Rattle.rdf_iri.proofs.prefixes.has_same_bytes.Goals as goal

-- at the end of the loop all bytes were compared
pub returns : goal.returns
returns c =
    let a = c.args.a.now in
    let b = c.args.b.now in
    let n : c.loop-place.place ≡ length a = omega (arith, c.loop-place.auto.place-end, c.loop-place-test.false) in
    let e : a ≡ b = sym (take_all c.loop-place.place a (omega (arith, n)))
    ∙ (c.loop-place.invariant ∙ take_all c.loop-place.place b (omega (arith, n, c.requires))) in
    sym ((bytes_eq-Decides a b).1 e)

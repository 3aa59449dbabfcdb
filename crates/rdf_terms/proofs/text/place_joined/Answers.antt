use Rattle.rdf_terms.proofs.Prelude.{IsUtf8, sym, subst, arith, length-append, IsUtf8-append}
use Rattle.rdf_terms.proofs.Places.{Placed-then}
use Rattle.rdf_terms.proofs.text.place_joined.Goals as goal

pub returns-clause-placed : goal.returns-clause-placed
returns-clause-placed c = rw (c.as_bytes.ensures.value, c.as_bytes-2.ensures.value) at (Placed-then c.place_text-middle.ensures c.place_text.ensures)

pub returns-clause-bytes : goal.returns-clause-bytes
returns-clause-bytes c = (returns-clause-placed c).bytes

pub returns-clause-within : goal.returns-clause-within
returns-clause-within c =
    let p = returns-clause-placed c in
    omega (arith, p.moved, p.len, length-append c.args.front.now c.args.back.now, c.requires)

pub returns-clause-utf8 : goal.returns-clause-utf8
returns-clause-utf8 c =
    subst IsUtf8 (sym (returns-clause-bytes c)) (IsUtf8-append c.args.front.now c.args.back.now c.utf8.front c.utf8.back)

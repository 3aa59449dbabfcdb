-- The next entry is counted, and the others are left.
use Rattle.rdf_iri.proofs.Prelude.{ap, arith, sum_by-drop_more, entry_bytes}
use Rattle.rdf_iri.proofs.prefixes.row_len.Goals as goal

pub binding_len-held-requires : goal.binding_len-held-requires
binding_len-held-requires g c =
    let next = sum_by-drop_more entry_bytes c.args.row.now c.loop-prefix.prefix-index c.loop-prefix-item.result c.loop-prefix-test.true in
    let item = ap (entry_bytes {Z = g.row.A.Denot}) c.loop-prefix-item.is in
    omega (arith, next, item)

pub overflow_add-held : goal.overflow_add-held
overflow_add-held g c =
    let next = sum_by-drop_more entry_bytes c.args.row.now c.loop-prefix.prefix-index c.loop-prefix-item.result c.loop-prefix-test.true in
    let item = ap (entry_bytes {Z = g.row.A.Denot}) c.loop-prefix-item.is in
    omega (arith, next, item)

pub loop-prefix-preserved : goal.loop-prefix-preserved
loop-prefix-preserved g c =
    let next = sum_by-drop_more entry_bytes c.args.row.now c.loop-prefix.prefix-index c.loop-prefix-item.result c.loop-prefix-test.true in
    let item = ap (entry_bytes {Z = g.row.A.Denot}) c.loop-prefix-item.is in
    omega (arith, next, item)

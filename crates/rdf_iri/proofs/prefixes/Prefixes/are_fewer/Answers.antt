use Rattle.rdf_iri.proofs.Prelude.{◌-◌, ◌∙◌, ap, sym, length, length-append, arith, entries_of}
use Rattle.rdf_iri.proofs.ScopeLemmas.{length-entries_of, decided}
use Rattle.rdf_iri.proofs.prefixes.Prefixes.are_fewer.Goals as goal

pub returns-then-row-most : goal.returns-then-row-most
returns-then-row-most g c =
    let row = c.self.inside.row in
    let others = c.self.inside.others in
    let all = ap length (sym c.self.view_is) ∙ length-append (entries_of row.items) (entries_of others.entries) in
    let a = length-entries_of row.items in
    let b = length-entries_of others.entries in
    let n = row.ok.0 in
    decided c.len.result (c.args.most - c.len-row.result) _ _
    (λ l. omega (arith, l, all, a, b, n, c.len.ensures.len, c.len-row.ensures, c.if-row-most.true))
    (λ l. omega (arith, l, all, a, b, n, c.len.ensures.len, c.len-row.ensures, c.if-row-most.true))

pub returns-else-row-most : goal.returns-else-row-most
returns-else-row-most g c =
    let row = c.self.inside.row in
    let others = c.self.inside.others in
    let all = ap length (sym c.self.view_is) ∙ length-append (entries_of row.items) (entries_of others.entries) in
    let a = length-entries_of row.items in
    let n = row.ok.0 in
    decided c.len-row.result c.args.most _ _
    (λ l. omega (arith, l, c.if-row-most.false))
    (λ _. omega (arith, all, a, n, c.len-row.ensures, c.if-row-most.false))

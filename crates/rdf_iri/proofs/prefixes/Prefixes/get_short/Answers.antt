-- A prefix that stands in the row is bound as the row says.
use Rattle.rdf_iri.proofs.Prelude.{sym, arith, chars}
use Rattle.rdf_iri.proofs.PrefixLemmas.{place_within, found_in_row}
use Rattle.rdf_iri.proofs.prefixes.Prefixes.get_short.Goals as goal

pub index-requires : goal.index-requires
index-requires g c =
    let w = place_within c.deref.result.now (chars c.args.prefix.now) c.in-Some.place c.in-Some.ensures in
    omega (arith, w, c.deref.ensures.len)

pub returns-in-Some : goal.returns-in-Some
returns-in-Some g c =
    sym (found_in_row c.self.inside.row.items c.deref.result.now c.self.inside.others.entries _
    (chars c.args.prefix.now) c.in-Some.place c.index.result.now c.deref.ensures.value c.self.view_is
    c.in-Some.ensures c.index.ensures)

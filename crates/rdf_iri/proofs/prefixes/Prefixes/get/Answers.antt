-- A prefix is bound as the row says, and if it is not there, as the map says.
use Rattle.rdf_iri.proofs.Prelude.{arith, chars}
use Rattle.rdf_iri.proofs.PrefixLemmas.{place_within, found_in_row, found_in_map}
use Rattle.rdf_iri.proofs.prefixes.Prefixes.get.Goals as goal

pub index-requires : goal.index-requires
index-requires g c =
    let w = place_within c.deref.result.now (chars c.args.prefix.now) c.in-Some.place c.in-Some.ensures in
    omega (arith, w, c.deref.ensures.len)

pub returns-in-Some : goal.returns-in-Some
returns-in-Some g c =
    found_in_row c.self.inside.row.items c.deref.result.now c.self.inside.others.entries _
    (chars c.args.prefix.now) c.in-Some.place c.index.result.now c.deref.ensures.value c.self.view_is
    c.in-Some.ensures c.index.ensures

pub returns-in-None : goal.returns-in-None
returns-in-None g c =
    found_in_map c.self.inside.row.items c.deref.result.now c.self.inside.others _ c.args.prefix.now c.get.result c.utf8.prefix
    c.deref.ensures.value c.self.view_is c.in-None.ensures c.get.ensures.value

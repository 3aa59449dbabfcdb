-- The same by the slots of the row.
use Rattle.rdf_iri.proofs.Prelude.{arith, chars}
use Rattle.rdf_iri.proofs.PrefixLemmas.{place_within, found_in_row, found_in_map}
use Rattle.rdf_iri.proofs.TableLemmas.{sought}
use Rattle.rdf_iri.proofs.prefixes.Prefixes.get_of_many.Goals as goal

pub place_of-requires : goal.place_of-requires
place_of-requires g c =
    let s = sought c.self.inside.slots.items c.deref.result.now c.self.inside.row.items c.deref-2.result.now c.self.inside.others.entries
    c.deref.ensures.value c.deref-2.ensures.value c.self.invariant in
    record { slots = s.placed; apart = s.apart }

pub index-requires : goal.index-requires
index-requires g c =
    let w = place_within c.deref-2.result.now (chars c.args.prefix.now) c.in-Some.place c.in-Some.ensures in
    omega (arith, w, c.deref-2.ensures.len)

pub returns-in-Some : goal.returns-in-Some
returns-in-Some g c =
    found_in_row c.self.inside.row.items c.deref-2.result.now c.self.inside.others.entries _
    (chars c.args.prefix.now) c.in-Some.place c.index.result.now c.deref-2.ensures.value c.self.view_is
    c.in-Some.ensures c.index.ensures

pub returns-in-None : goal.returns-in-None
returns-in-None g c =
    found_in_map c.self.inside.row.items c.deref-2.result.now c.self.inside.others _ c.args.prefix.now c.get.result c.utf8.prefix
    c.deref-2.ensures.value c.self.view_is c.in-None.ensures c.get.ensures.value

-- A prefix stands where its slot says, or among the first, or nowhere in the row.
use Rattle.rdf_iri.proofs.Prelude.{◌≡◌, None, subst, MatchOption, chars, bound_to, entries_of, StandsAt}
use Rattle.rdf_iri.proofs.TableLemmas.{stands_where, first_or_none}
use Rattle.rdf_iri.proofs.prefixes.place_of_many.Goals as goal

pub returns-in-Some : goal.returns-in-Some
returns-in-Some g c = stands_where c.args.row.now c.args.prefix.now c.in-Some.place c.requires.apart c.in-Some.ensures

pub returns-in-None : goal.returns-in-None
returns-in-None g c =
    first_or_none c.args.slots.now c.args.row.now c.args.prefix.now c.utf8.prefix c.requires.slots c.in-None.ensures c.place_in.result
    (subst (λ r. MatchOption c.place_in.result (bound_to (entries_of r) (chars c.args.prefix.now) ≡ None)
    (StandsAt (entries_of r) (chars c.args.prefix.now))) c.split_at.ensures.front c.place_in.ensures)

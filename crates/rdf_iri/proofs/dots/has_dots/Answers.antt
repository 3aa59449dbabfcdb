-- The segment in hand has no dots, and those after it decide.
use Rattle.rdf_iri.proofs.Prelude.{◌≡◌, ◌∙◌, ap, sym, false, before, fits_D}
use Rattle.rdf_iri.proofs.Written.{no_items}
use Rattle.rdf_iri.proofs.DirectoryLemmas.{dots-next, dots-last}
use Rattle.rdf_iri.proofs.dots.has_dots.Goals as goal
use Rattle.rdf_iri.proofs.dots.has_dots.Goals.{After-split_first}

-- the segment that was looked at has no dots
plain : (c : After-split_first) → fits_D (before 47 c.loop-after.rest.now) ≡ false
plain c = ap fits_D (sym c.bytes_before.ensures.front) ∙ (ap fits_D (sym c.split_at.ensures.front) ∙ (sym c.is_dots.ensures ∙ c.if-is_dots.false))

pub loop-after-preserved : goal.loop-after-preserved
loop-after-preserved c =
    c.loop-after.invariant
    ∙ dots-next c.loop-after.rest.now _ _ (plain (goal.at.loop-after-preserved c).After-split_first)
    (sym c.bytes_before.ensures.rest ∙ (sym c.split_at.ensures.back ∙ c.in-Some.ensures.cases.0))

pub returns-in-None : goal.returns-in-None
returns-in-None c =
    sym (c.loop-after.invariant
    ∙ dots-last c.loop-after.rest.now (plain (goal.at.returns-in-None c).After-split_first)
    (sym c.bytes_before.ensures.rest ∙ (sym c.split_at.ensures.back ∙ no_items _ c.in-None.ensures.cases)))

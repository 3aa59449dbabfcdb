use Rattle.rdf_diagnostics.proofs.Prelude.{false, subst, MatchOption, good, rest_of, Unfit, HasBadEscape, reading_from, IsSeen}
use Rattle.rdf_diagnostics.proofs.SightLemmas.{by_equal}
use Rattle.rdf_diagnostics.proofs.SightPlaces.{found_there, stands}
use Rattle.rdf_diagnostics.proofs.sight.sight_of.Goals as goal

pub text_from-requires : goal.text_from-requires
text_from-requires g c =
    let s = c.in_ok-front.front.scanner in
    let rest = c.args.rest.now in
    let n = c.in-Unfit.offset in
    stands c.args.dialect c.args.limit rest c.args.is_end n
    (by_equal c.args.dialect s.dialect c.args.limit s.limit (λ d m. IsSeen (reading_from d m rest c.args.is_end) (Unfit n))
    c.in_ok-front.ensures.dialect c.in_ok-front.ensures.limit
    (subst (IsSeen (reading_from s.dialect s.limit rest c.args.is_end)) c.in-Unfit.is c.in_ok-see.ensures.seen))

pub returns-in-Some : goal.returns-in-Some
returns-in-Some g c =
    let s = c.in_ok-front.front.scanner in
    let d = c.args.dialect in
    let rest = c.args.rest.now in
    let n = c.in-Unfit.offset in
    let h : IsSeen (reading_from d c.args.limit rest c.args.is_end) (Unfit n) =
    by_equal d s.dialect c.args.limit s.limit (λ d m. IsSeen (reading_from d m rest c.args.is_end) (Unfit n)) c.in_ok-front.ensures.dialect
    c.in_ok-front.ensures.limit
    (subst (IsSeen (reading_from s.dialect s.limit rest c.args.is_end)) c.in-Unfit.is c.in_ok-see.ensures.seen) in
    let f = found_there d c.args.limit rest c.args.is_end n h c.text_from.result.now c.bad_escape_in.result c.text_from.ensures c.bad_escape_in.ensures in
    (h.0, subst (λ r. MatchOption r ⊥ (λ k. HasBadEscape d (rest_of d false (good rest)) k)) c.in-Some.is f)

pub unreachable-requires : goal.unreachable-requires
unreachable-requires g c =
    let s = c.in_ok-front.front.scanner in
    let d = c.args.dialect in
    let rest = c.args.rest.now in
    let n = c.in-Unfit.offset in
    let h : IsSeen (reading_from d c.args.limit rest c.args.is_end) (Unfit n) =
    by_equal d s.dialect c.args.limit s.limit (λ d m. IsSeen (reading_from d m rest c.args.is_end) (Unfit n)) c.in_ok-front.ensures.dialect
    c.in_ok-front.ensures.limit
    (subst (IsSeen (reading_from s.dialect s.limit rest c.args.is_end)) c.in-Unfit.is c.in_ok-see.ensures.seen) in
    let f = found_there d c.args.limit rest c.args.is_end n h c.text_from.result.now c.bad_escape_in.result c.text_from.ensures c.bad_escape_in.ensures in
    subst (λ r. MatchOption r ⊥ (λ k. HasBadEscape d (rest_of d false (good rest)) k)) c.in-None.is f

-- The characters that were not counted before are those between two places.
use Rattle.rdf_tokens.proofs.Prelude.{◌≡◌, ◌+◌, length, ap, ◌∙◌, subst, arith, slice_range, chars, IsCharBoundary-from_drop, IsWalk, Walked}
use Rattle.rdf_tokens.proofs.OverLemmas.{fewer}
use Rattle.rdf_tokens.proofs.WalkLemmas.{counted-up, walked-counted}
use Rattle.rdf_tokens.proofs.over.count_up.Goals as goal

pub range-requires-clause-start_boundary : goal.range-requires-clause-start_boundary
range-requires-clause-start_boundary c =
    let bs = c.args.text.now in
    let w = c.in-Some.known in
    let h : IsWalk c.args.dialect bs w = subst (Walked c.args.dialect bs) c.in-Some.is c.requires in
    λ l. IsCharBoundary-from_drop bs w.counted h.counted.inside h.counted.utf8

pub range-requires-clause-end_boundary : goal.range-requires-clause-end_boundary
range-requires-clause-end_boundary c =
    let bs = c.args.text.now in
    let w = c.in-Some.known in
    let h : IsWalk c.args.dialect bs w = subst (Walked c.args.dialect bs) c.in-Some.is c.requires in
    IsCharBoundary-from_drop bs w.at h.reached.here.inside h.reached.here.utf8

pub overflow_add-known : goal.overflow_add-known
overflow_add-known c =
    let bs = c.args.text.now in
    let w = c.in-Some.known in
    let h : IsWalk c.args.dialect bs w = subst (Walked c.args.dialect bs) c.in-Some.is c.requires in
    let here = h.reached.here in
    let most = here.count in
    let rest : c.char_count.result ≡ length (chars (slice_range bs w.counted w.at)) = c.char_count.ensures ∙ ap (λ x. length (chars x)) c.range.ensures.value in
    omega (arith, rest, most, counted-up bs w.counted w.at w.count h.reached.n c.utf8.text h.counted here h.within, fewer bs c.utf8.text)

pub returns-in-Some-clause-walked : goal.returns-in-Some-clause-walked
returns-in-Some-clause-walked c =
    let bs = c.args.text.now in
    let w = c.in-Some.known in
    let h : IsWalk c.args.dialect bs w = subst (Walked c.args.dialect bs) c.in-Some.is c.requires in
    walked-counted c.args.dialect bs w (w.count + c.char_count.result) c.utf8.text h
    (ap (λ n. w.count + n) (c.char_count.ensures ∙ ap (λ x. length (chars x)) c.range.ensures.value))

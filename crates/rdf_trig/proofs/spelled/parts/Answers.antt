-- The code cuts a name at its first ':' where the definition does.
use Rattle.rdf_trig.proofs.Prelude.{◌≡◌, ◌<◌, ◌+◌, ◌-◌, length, drop, get_or, sym, ap, ◌∙◌, arith, rules, [], unwrap_or, chars, position_or_len, position_or_len_is, IsCharBoundary-after_ascii}
use Rattle.std.proofs.Common.{take}
use Rattle.rdf_trig.proofs.code.ColonLemmas.{is_colon, front_chars, back_chars, no_colon}
use Rattle.rdf_trig.proofs.spelled.parts.Goals as goal

pub range_from-requires : goal.range_from-requires
range_from-requires c =
    let b : get_or c.args.name.now c.in-Some.len 0 ≡ 58 = search rules in
    λ _. IsCharBoundary-after_ascii c.args.name.now c.in-Some.len c.utf8.name (search rules) (omega (arith, b))

pub returns-in-Some-clause-prefix : goal.returns-in-Some-clause-prefix
returns-in-Some-clause-prefix c =
    let name = c.args.name.now in
    let found : position_or_len is_colon name ≡ c.in-Some.len = position_or_len_is is_colon name c.in-Some.len 0 (search rules) (search rules) (search rules) in
    let e : c.in-Some.len - 0 ≡ position_or_len is_colon name = omega (arith, found) in
    front_chars name _ c.utf8.name (c.range.ensures.value ∙ ap (λ n. take n name) e)

pub returns-in-Some-clause-local : goal.returns-in-Some-clause-local
returns-in-Some-clause-local c =
    let name = c.args.name.now in
    let found : position_or_len is_colon name ≡ c.in-Some.len = position_or_len_is is_colon name c.in-Some.len 0 (search rules) (search rules) (search rules) in
    let l : c.in-Some.len < length name = search rules in
    back_chars name _ c.utf8.name (omega (arith, found, l)) (c.range_from.ensures.value ∙ ap (λ n. drop (n + 1) name) (sym found))

pub returns-in-None-clause-prefix : goal.returns-in-None-clause-prefix
returns-in-None-clause-prefix c =
    (no_colon c.args.name.now c.utf8.name
    (position_or_len_is is_colon c.args.name.now (length c.args.name.now) 0 (omega arith) (search rules) (search rules))).0

pub returns-in-None-clause-local : goal.returns-in-None-clause-local
unfolding chars
returns-in-None-clause-local c =
    sym (ap (λ o. unwrap_or o []) (no_colon c.args.name.now c.utf8.name
    (position_or_len_is is_colon c.args.name.now (length c.args.name.now) 0 (omega arith) (search rules) (search rules))).1)

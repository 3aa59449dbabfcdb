-- The bytes before the colon are of names, so it is the first, and those after it are no backslash.
use Rattle.rdf_trig.proofs.Prelude.{◌≡◌, ◌-◌, ap, arith, subst, sym, ◌∙◌, MeansLocal}
use Rattle.std.proofs.Common.{take}
use Rattle.rdf_trig.proofs.code.Backslashes.{local_plain}
use Rattle.rdf_trig.proofs.code.ColonLemmas.{plain_back, plain_cut, plain_cut_after, plain_front, plain_rest}
use Rattle.rdf_trig.proofs.spelled.plain_parts.Goals as goal

pub range-requires-clause-end_boundary : goal.range-requires-clause-end_boundary
range-requires-clause-end_boundary c = plain_cut c.args.name.now c.args.past c.utf8.name c.requires.some c.requires.colon

pub range_from-requires : goal.range_from-requires
range_from-requires c = λ _. plain_cut_after c.args.name.now c.args.past c.utf8.name c.requires.some c.requires.colon

pub returns-clause-prefix : goal.returns-clause-prefix
returns-clause-prefix c = plain_front c.args.name.now c.args.past c.utf8.name c.requires.some c.requires.colon c.range.result.now
    (c.range.ensures.value ∙ (let n : c.args.past - 1 - 0 ≡ c.args.past - 1 = omega arith in ap (λ n. take n c.args.name.now) n))

pub returns-clause-local : goal.returns-clause-local
returns-clause-local c = plain_back c.args.name.now c.args.past c.utf8.name c.requires.some c.requires.colon c.range_from.result.now c.range_from.ensures.value

pub returns-clause-text : goal.returns-clause-text
returns-clause-text c =
    let is = plain_back c.args.name.now c.args.past c.utf8.name c.requires.some c.requires.colon c.range_from.result.now c.range_from.ensures.value in
    let rest = plain_rest c.args.name.now c.args.past c.utf8.name c.requires.some c.requires.colon c.range_from.result.now c.range_from.ensures.value in
    (local_plain c.range_from.result.now c.range_from.utf8 rest (subst MeansLocal (sym is) c.requires.means)).1

pub returns-clause-value : goal.returns-clause-value
returns-clause-value c =
    let is = plain_back c.args.name.now c.args.past c.utf8.name c.requires.some c.requires.colon c.range_from.result.now c.range_from.ensures.value in
    let rest = plain_rest c.args.name.now c.args.past c.utf8.name c.requires.some c.requires.colon c.range_from.result.now c.range_from.ensures.value in
    (local_plain c.range_from.result.now c.range_from.utf8 rest (subst MeansLocal (sym is) c.requires.means)).0

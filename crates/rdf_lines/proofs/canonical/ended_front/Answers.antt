use Rattle.rdf_lines.proofs.Prelude.{◌<◌, ◌+◌, length, sym, subst, arith, LinesStand}
use Rattle.rdf_lines.proofs.FrontsLemmas.{lines_more, lines_few, line_goes_on}
use Rattle.rdf_lines.proofs.PassedLemmas.{rest_utf8}
use Rattle.rdf_lines.proofs.canonical.ended_front.Goals as goal

pub canonical_line-requires-text-text : goal.canonical_line-requires-text-text
canonical_line-requires-text-text c = λ _. rest_utf8 c.args.ending c.args.rules.form c.args.token c.args.rules.iri c.lines.quads
    c.lines.tokens c.args.text.now c.lines.rest.now c.utf8.text c.lines.invariant

pub overflow_add-quads : goal.overflow_add-quads
overflow_add-quads c =
    let f = lines_few c.args.ending c.args.rules.form c.args.token c.args.rules.iri c.lines.quads c.lines.tokens c.args.text.now
    c.lines.rest.now c.lines.invariant in
    let l = line_goes_on c.args.ending c.args.rules.form c.args.token c.args.rules.iri _ c.lines.rest.now c.in-Some.line.rest.now
    (c.in-Some.ensures c.args.token c.requires.token (omega (arith, f.0, c.requires.short))) in
    let m = c.requires.few in
    omega (arith, f.0, f.1, l.0, l.1, m)

pub overflow_add-tokens : goal.overflow_add-tokens
overflow_add-tokens c =
    let f = lines_few c.args.ending c.args.rules.form c.args.token c.args.rules.iri c.lines.quads c.lines.tokens c.args.text.now
    c.lines.rest.now c.lines.invariant in
    let l = line_goes_on c.args.ending c.args.rules.form c.args.token c.args.rules.iri _ c.lines.rest.now c.in-Some.line.rest.now
    (c.in-Some.ensures c.args.token c.requires.token (omega (arith, f.0, c.requires.short))) in
    let m = c.requires.few in
    let e = c.end_tokens-ends.ensures in
    omega (arith, f.0, f.1, l.0, l.1, m, e)

pub lines-smaller : goal.lines-smaller
lines-smaller c =
    let f = lines_few c.args.ending c.args.rules.form c.args.token c.args.rules.iri c.lines.quads c.lines.tokens c.args.text.now
    c.lines.rest.now c.lines.invariant in
    let l = line_goes_on c.args.ending c.args.rules.form c.args.token c.args.rules.iri _ c.lines.rest.now c.in-Some.line.rest.now
    (c.in-Some.ensures c.args.token c.requires.token (omega (arith, f.0, c.requires.short))) in
    let less : length c.in-Some.line.rest.now < length c.lines.rest.now = omega (arith, l.0, l.1) in
    less

pub lines-preserved : goal.lines-preserved
lines-preserved c =
    let f = lines_few c.args.ending c.args.rules.form c.args.token c.args.rules.iri c.lines.quads c.lines.tokens c.args.text.now
    c.lines.rest.now c.lines.invariant in
    let line = c.in-Some.ensures c.args.token c.requires.token (omega (arith, f.0, c.requires.short)) in
    subst (λ k. LinesStand c.args.ending c.args.rules.form c.args.token c.args.rules.iri (c.lines.quads + 1)
    (c.lines.tokens + (c.in-Some.line.tokens + k)) c.args.text.now c.in-Some.line.rest.now)
    (sym c.end_tokens-ends.ensures)
    (lines_more c.args.ending c.args.rules.form c.args.token c.args.rules.iri c.lines.quads c.lines.tokens _ c.args.text.now
    c.lines.rest.now c.in-Some.line.rest.now c.lines.invariant line)

pub overflow_add-tokens-in-Some : goal.overflow_add-tokens-in-Some
overflow_add-tokens-in-Some c =
    let f = lines_few c.args.ending c.args.rules.form c.args.token c.args.rules.iri c.lines.quads c.lines.tokens c.args.text.now
    c.lines.rest.now c.lines.invariant in
    let l = line_goes_on c.args.ending c.args.rules.form c.args.token c.args.rules.iri _ c.lines.rest.now c.in-Some.line.rest.now
    (c.in-Some.ensures c.args.token c.requires.token (omega (arith, f.0, c.requires.short))) in
    let m = c.requires.few in
    let e = c.end_tokens-ends.ensures in
    omega (arith, f.0, f.1, l.0, l.1, m, e)

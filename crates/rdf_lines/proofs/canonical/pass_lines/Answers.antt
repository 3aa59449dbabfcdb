use Rattle.rdf_lines.proofs.Prelude.{◌≡◌, true, length, take, sym, ◌∙◌, subst, arith, can_pass, can_pass-parts, PassesLines, AreLines}
use Rattle.rdf_lines.proofs.PassedLemmas.{at_reader, leads, passes, passes_none}
use Rattle.rdf_lines.proofs.canonical.pass_lines.Goals as goal

pub returns-then-not-can_pass-clause-passes : goal.returns-then-not-can_pass-clause-passes
returns-then-not-can_pass-clause-passes g c = passes_none c.args.ending c.args.reader.now

pub pass-requires-clause-leads : goal.pass-requires-clause-leads
pass-requires-clause-leads g c =
    let r = c.args.reader.now in
    let front = c.lines_in-front.result in
    let text = c.args.text.now in
    let can : can_pass r (length text) ≡ true = sym c.can_pass.ensures ∙ c.if-not-can_pass.false in
    let limit = c.grammar.ensures.limit (can_pass-parts r (length text) can).0 in
    let at = at_reader c.args.ending r c.grammar.result.now c.grammar.ensures.grammar limit
    (take front.bytes text) front.quads front.tokens c.lines_in-front.ensures.lines
    (c.lines_in-front.ensures.begins (omega (arith, c.if-front-eq0.false))) in
    let lines = subst (λ x. AreLines c.args.ending r.grammar.rules.form r.scanner.limit r.grammar.rules.iri front.quads front.tokens
    (take front.bytes x)) (sym c.as_bytes.ensures.value) at.0 in
    leads c.args.ending r at.1.0 at.1.1 (take front.bytes c.as_bytes.result.now) front.quads front.tokens lines

pub returns-clause-passes : goal.returns-clause-passes
returns-clause-passes g c =
    let r = c.args.reader.now in
    let front = c.lines_in-front.result in
    let text = c.args.text.now in
    let can : can_pass r (length text) ≡ true = sym c.can_pass.ensures ∙ c.if-not-can_pass.false in
    let limit = c.grammar.ensures.limit (can_pass-parts r (length text) can).0 in
    let at = at_reader c.args.ending r c.grammar.result.now c.grammar.ensures.grammar limit
    (take front.bytes text) front.quads front.tokens c.lines_in-front.ensures.lines
    (c.lines_in-front.ensures.begins (omega (arith, c.if-front-eq0.false))) in
    let lines = subst (λ x. AreLines c.args.ending r.grammar.rules.form r.scanner.limit r.grammar.rules.iri front.quads front.tokens
    (take front.bytes x)) (sym c.as_bytes.ensures.value) at.0 in
    let all = passes c.args.ending r at.1.0 at.1.1 (take front.bytes c.as_bytes.result.now) front.quads front.tokens lines c.pass.new.self
    c.pass.ensures.passed c.pass.ensures.read in
    subst (λ x. PassesLines c.args.ending r (take front.bytes x) c.pass.new.self) c.as_bytes.ensures.value all

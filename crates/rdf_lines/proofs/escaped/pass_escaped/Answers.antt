use Rattle.rdf_lines.proofs.Prelude.{◌≡◌, ◌+◌, take, refl, subst, arith, PassesInto}
use Rattle.rdf_lines.proofs.EscapedPassing.{passes_nothing, passes_on, rest_within}
use Rattle.rdf_lines.proofs.escaped.pass_escaped.Goals as goal

pub lines-init : goal.lines-init
lines-init g c = (omega arith, passes_nothing c.args.reader.now c.args.out.now c.args.out.now refl)

pub lines-preserved : goal.lines-preserved
lines-preserved g c =
    let rest = c.text_from-line.result.now in
    let n = c.in_ok-passed.passed in (
      rest_within c.args.text.now rest c.lines.at n c.text_from-line.ensures c.in_ok-passed.ensures.within c.lines.invariant.0,
      passes_on c.args.reader.now c.lines.reader _ c.args.text.now rest c.lines.at n c.args.out.now c.lines.out _ c.text_from-line.ensures
          c.in_ok-passed.ensures.within c.lines.invariant.1 c.in_ok-passed.ensures.passes,
    )

pub returns-then-passed-eq0-clause-passes : goal.returns-then-passed-eq0-clause-passes
returns-then-passed-eq0-clause-passes g c =
    let n = c.in_ok-passed.passed in
    let none = c.if-passed-eq0.true in
    let same : c.lines.at + n ≡ c.lines.at = omega (arith, none) in
    subst (λ k. PassesInto c.args.reader.now (take k c.args.text.now) c.pass_line.new.reader c.args.out.now c.pass_line.new.self) same
    (passes_on c.args.reader.now c.lines.reader c.pass_line.new.reader c.args.text.now c.text_from-line.result.now c.lines.at n c.args.out.now
    c.lines.out c.pass_line.new.self c.text_from-line.ensures
    c.in_ok-passed.ensures.within c.lines.invariant.1 c.in_ok-passed.ensures.passes)

pub returns-then-stands-clause-within : goal.returns-then-stands-clause-within
returns-then-stands-clause-within g c =
    rest_within c.args.text.now c.text_from-line.result.now c.lines.at c.in_ok-passed.passed c.text_from-line.ensures c.in_ok-passed.ensures.within c.lines.invariant.0

pub returns-then-stands-clause-passes : goal.returns-then-stands-clause-passes
returns-then-stands-clause-passes g c =
    passes_on c.args.reader.now c.lines.reader _ c.args.text.now c.text_from-line.result.now c.lines.at c.in_ok-passed.passed c.args.out.now
    c.lines.out _ c.text_from-line.ensures c.in_ok-passed.ensures.within c.lines.invariant.1
    c.in_ok-passed.ensures.passes

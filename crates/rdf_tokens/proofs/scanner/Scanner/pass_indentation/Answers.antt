-- The line feed and what comes after it are the white space before the next token.
use Rattle.rdf_tokens.proofs.Prelude.{◌==◌, ◌∙◌, sym, subst, ap, take, count_by, false, chars, Turtle, bytes_of, MayPeek, blank}
use Rattle.rdf_tokens.proofs.PeekLemmas.{may_bared, one_passed, passes_bared}
use Rattle.rdf_tokens.proofs.scanner.Scanner.pass_indentation.Goals as goal

pub returns-then-blank-gt0-clause-passes : goal.returns-then-blank-gt0-clause-passes
returns-then-blank-gt0-clause-passes g c =
    let is = c.if-blank-gt0.true in
    let e = c.indented-blank.ensures in
    let one = one_passed c.args.self.now c.move_on.new.self (chars c.rest.result.now) c.requires c.move_on.ensures c.rest.ensures (e.len is) (e.comment is) in
    passes_bared c.args.self.now c.move_on.new.self c.requires one.0

pub returns-then-blank-gt0-clause-again : goal.returns-then-blank-gt0-clause-again
returns-then-blank-gt0-clause-again g c =
    let is = c.if-blank-gt0.true in
    let e = c.indented-blank.ensures in
    let one = one_passed c.args.self.now c.move_on.new.self (chars c.rest.result.now) c.requires c.move_on.ensures c.rest.ensures (e.len is) (e.comment is) in
    subst MayPeek (sym one.0) (may_bared c.args.self.now c.requires one.1)

pub move_on-requires : goal.move_on-requires
move_on-requires g c =
    let w = chars c.rest.result.now in
    let r = c.rest.ensures in
    let n = blank Turtle false w in
    let e = c.indented-blank.ensures in
    let is = c.if-blank-gt0.true in
    (n, sym (ap (bytes_of n) (sym r) ∙ e.len is), sym (ap (λ w. count_by (λ c. c == 10) (take n w)) (sym r) ∙ e.feeds is))

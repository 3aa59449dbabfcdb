-- The line feed is the white space before the next token.
use Rattle.rdf_tokens.proofs.Prelude.{sym, subst, rules, chars, MayPeek}
use Rattle.rdf_tokens.proofs.PeekLemmas.{may_bared, one_passed, passes_bared}
use Rattle.rdf_tokens.proofs.scanner.Scanner.pass_line_feed.Goals as goal

pub returns-then-is_one-clause-passes : goal.returns-then-is_one-clause-passes
returns-then-is_one-clause-passes g c =
    let is = c.if-is_one.true in
    let one = one_passed c.args.self.now c.move_on.new.self (chars c.rest-2.result.now) c.requires c.move_on.ensures c.rest-2.ensures
    (c.is_one.ensures.len is) (c.is_one.ensures.comment is) in
    passes_bared c.args.self.now c.move_on.new.self c.requires one.0

pub returns-then-is_one-clause-again : goal.returns-then-is_one-clause-again
returns-then-is_one-clause-again g c =
    let is = c.if-is_one.true in
    let one = one_passed c.args.self.now c.move_on.new.self (chars c.rest-2.result.now) c.requires c.move_on.ensures c.rest-2.ensures
    (c.is_one.ensures.len is) (c.is_one.ensures.comment is) in
    subst MayPeek (sym one.0) (may_bared c.args.self.now c.requires one.1)

pub move_on-requires : goal.move_on-requires
move_on-requires g c = search rules

-- What is passed is the white space before the next token.
use Rattle.rdf_tokens.proofs.Prelude.{ap, not, rules}
use Rattle.rdf_tokens.proofs.PeekLemmas.{blanks_bared, blanks_again, blanks_less, passes_bared}
use Rattle.rdf_tokens.proofs.scanner.Scanner.pass_blanks.Goals as goal

pub returns-then-blank-clause-passes : goal.returns-then-blank-clause-passes
returns-then-blank-clause-passes g c =
    passes_bared c.args.self.now c.advance.new.self c.requires
    (blanks_bared c.requires c.self.view_is c.rest-2.ensures c.advance.ensures c.blank_run-blank.ensures.len c.blank_run-blank.ensures.comment)

pub returns-else-blank-clause-passes : goal.returns-else-blank-clause-passes
returns-else-blank-clause-passes g c =
    passes_bared c.args.self.now c.advance.new.self c.requires
    (blanks_bared c.requires c.self.view_is c.rest-2.ensures c.advance.ensures c.blank_run-blank.ensures.len c.blank_run-blank.ensures.comment)

pub returns-else-blank-clause-forward : goal.returns-else-blank-clause-forward
returns-else-blank-clause-forward g c = λ _.
    blanks_less c.requires c.self.view_is c.rest-2.ensures c.advance.ensures c.blank_run-blank.ensures.len c.blank_run-blank.ensures.comment
    c.if-blank-eq0.false

pub returns-else-blank-clause-again : goal.returns-else-blank-clause-again
returns-else-blank-clause-again g c = λ _.
    blanks_again c.requires c.self.view_is c.rest-2.ensures c.advance.ensures c.blank_run-blank.ensures.len
    c.blank_run-blank.ensures.comment (ap not c.if-blank.false)

pub returns-then-blank-eq0-clause-passes : goal.returns-then-blank-eq0-clause-passes
returns-then-blank-eq0-clause-passes g c = search rules

use Rattle.rdf_tokens.proofs.Prelude.{[], sym, ap, ◌∙◌, subst, ◌==◌, false, true, take, count_by, chars, comment_after, bytes_of, Moves, Stands, blank}
use Rattle.rdf_tokens.proofs.MoveLemmas.{bared, bared_is, one_bared, moves_bared, stands_bared}
use Rattle.rdf_tokens.proofs.scanner.Scanner.drop_blanks.Goals as goal

pub returns-clause-moves : goal.returns-clause-moves
returns-clause-moves g c =
    let begun = ap (λ v. v.begun) c.self.view_is ∙ c.requires in
    let rest = c.rest-2.ensures ∙ ap (λ v. v.text) (sym c.self.view_is) in
    let new = bared_is _ c.advance.new.self (chars c.rest-2.result.now) c.blank_run-blank.result.len c.blank_run-blank.result.in_comment
    c.advance.ensures rest begun
    c.blank_run-blank.ensures.len c.blank_run-blank.ensures.comment ∙ ap bared c.self.view_is in
    subst (Moves c.args.self.now []) (sym new) (moves_bared c.args.self.now c.requires)

pub returns-clause-stands : goal.returns-clause-stands
returns-clause-stands g c =
    let begun = ap (λ v. v.begun) c.self.view_is ∙ c.requires in
    let rest = c.rest-2.ensures ∙ ap (λ v. v.text) (sym c.self.view_is) in
    let new = bared_is _ c.advance.new.self (chars c.rest-2.result.now) c.blank_run-blank.result.len c.blank_run-blank.result.in_comment
    c.advance.ensures rest begun
    c.blank_run-blank.ensures.len c.blank_run-blank.ensures.comment ∙ ap bared c.self.view_is in
    subst Stands (sym new) (stands_bared c.args.self.now)

pub move_on-requires : goal.move_on-requires
move_on-requires g c =
    let w = chars c.rest.result.now in
    let r = c.rest.ensures in
    let n = blank c.self.inside.dialect false w in
    let one = c.is_one.ensures in
    let is = c.if-is_one.true in
    (n, sym (ap (bytes_of n) (sym r) ∙ one.len is), sym (ap (λ w. count_by (λ c. c == 10) (take n w)) (sym r) ∙ one.feeds is))

pub returns-then-is_one-clause-moves : goal.returns-then-is_one-clause-moves
returns-then-is_one-clause-moves g c =
    let v = c.self.view_is in
    let w = chars c.rest.result.now in
    let one = c.is_one.ensures in
    let is = c.if-is_one.true in
    let new = one_bared c.args.self.now c.move_on.new.self w c.move_on.ensures c.rest.ensures c.requires (ap (λ v. v.comment) (sym v) ∙ c.if-not-self.true)
    (ap (λ v. bytes_of (blank v.dialect false w) w) (sym v) ∙ one.len is) (ap (λ v. comment_after v.dialect false w) (sym v) ∙ one.comment is) in
    subst (Moves c.args.self.now []) (sym new) (moves_bared c.args.self.now c.requires)

pub returns-then-is_one-clause-stands : goal.returns-then-is_one-clause-stands
returns-then-is_one-clause-stands g c =
    let v = c.self.view_is in
    let w = chars c.rest.result.now in
    let one = c.is_one.ensures in
    let is = c.if-is_one.true in
    let new = one_bared c.args.self.now c.move_on.new.self w c.move_on.ensures c.rest.ensures c.requires (ap (λ v. v.comment) (sym v) ∙ c.if-not-self.true)
    (ap (λ v. bytes_of (blank v.dialect false w) w) (sym v) ∙ one.len is) (ap (λ v. comment_after v.dialect false w) (sym v) ∙ one.comment is) in
    subst Stands (sym new) (stands_bared c.args.self.now)

pub move_on-requires-then-is_in_comment : goal.move_on-requires-then-is_in_comment
move_on-requires-then-is_in_comment g c =
    let d = c.self.inside.dialect in
    let w = chars c.rest-rest.result.now in
    let r = c.rest-rest.ensures in
    let n = blank d true w in
    let all = c.is_in_comment.ensures in
    let is = c.if-is_in_comment.true in
    (n, sym (ap (bytes_of n) (sym r) ∙ all.len d is), sym (ap (λ w. count_by (λ c. c == 10) (take n w)) (sym r) ∙ all.feeds d is))

pub returns-then-is_in_comment-clause-moves : goal.returns-then-is_in_comment-clause-moves
returns-then-is_in_comment-clause-moves g c =
    let d = c.args.self.now.dialect in
    let is = c.if-is_in_comment.true in
    let new = one_bared c.args.self.now c.move_on-then-is_in_comment.new.self
    (chars c.rest-rest.result.now) c.move_on-then-is_in_comment.ensures c.rest-rest.ensures c.requires
    (ap (λ v. v.comment) (sym c.self.view_is) ∙ c.if-self.true) (c.is_in_comment.ensures.len d is) (c.is_in_comment.ensures.comment d is) in
    subst (Moves c.args.self.now []) (sym new) (moves_bared c.args.self.now c.requires)

pub returns-then-is_in_comment-clause-stands : goal.returns-then-is_in_comment-clause-stands
returns-then-is_in_comment-clause-stands g c =
    let d = c.args.self.now.dialect in
    let is = c.if-is_in_comment.true in
    let new = one_bared c.args.self.now c.move_on-then-is_in_comment.new.self
    (chars c.rest-rest.result.now) c.move_on-then-is_in_comment.ensures c.rest-rest.ensures c.requires
    (ap (λ v. v.comment) (sym c.self.view_is) ∙ c.if-self.true) (c.is_in_comment.ensures.len d is) (c.is_in_comment.ensures.comment d is) in
    subst Stands (sym new) (stands_bared c.args.self.now)

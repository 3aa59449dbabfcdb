-- Each answer of `next`: more bytes decide, the end, an error or a token, as the definition's step says.
use Rattle.rdf_tokens.proofs.Prelude.{◌≡◌, [], false, refl, sym, ap, ◌∙◌, subst, BeginsChar, Moves, Stands}
use Rattle.rdf_tokens.proofs.FlatLemmas.{flat_text}
use Rattle.rdf_tokens.proofs.MoveLemmas.{moves_both}
use Rattle.rdf_tokens.proofs.NextLemmas.{dry, waits, ends_at, gives_look, stops_at}
use Rattle.rdf_tokens.proofs.scanner.Scanner.next.Goals as goal

pub returns-then-not-is_settled : goal.returns-then-not-is_settled
returns-then-not-is_settled g c =
    let old = c.args.self.now in
    let running : old.stopped ≡ false = ap (λ v. v.stopped) (sym c.self.view_is) ∙ c.if-self.false in
    let begins : BeginsChar old.pending = subst (λ v. BeginsChar v.pending) c.self.view_is c.self.invariant.held.begins in
    ((refl, (λ _. tt), dry old (sym c.is_settled.ensures ∙ c.if-not-is_settled.true) running begins), tt)

pub returns-in-Undecided : goal.returns-in-Undecided
returns-in-Undecided g c =
    let old = c.args.self.now in
    let mid = c.look.new.self in
    let same = sym c.in-Undecided.ensures.same in
    let running : old.stopped ≡ false = ap (λ v. v.stopped) (sym c.self.view_is) ∙ c.if-self.false in
    let begins : BeginsChar old.pending = subst (λ v. BeginsChar v.pending) c.self.view_is c.self.invariant.held.begins in
    let m = subst (Moves old []) same
    (moves_both old c.drop_mark.new.self c.drop_blanks.new.self [] [] c.drop_mark.ensures.moves c.drop_blanks.ensures.moves) in
    let stands = subst Stands same c.drop_blanks.ensures.stands in
    ((refl, (λ _. tt), waits old mid m running begins stands c.in-Undecided.ensures.look), tt)

pub returns-in-Complete : goal.returns-in-Complete
returns-in-Complete g c =
    let old = c.args.self.now in
    let mid = c.look.new.self in
    let same = sym c.in-Complete.ensures.same in
    let running : old.stopped ≡ false = ap (λ v. v.stopped) (sym c.self.view_is) ∙ c.if-self.false in
    let begins : BeginsChar old.pending = subst (λ v. BeginsChar v.pending) c.self.view_is c.self.invariant.held.begins in
    let m = subst (Moves old []) same
    (moves_both old c.drop_mark.new.self c.drop_blanks.new.self [] [] c.drop_mark.ensures.moves c.drop_blanks.ensures.moves) in
    let stands = subst Stands same c.drop_blanks.ensures.stands in (
      (
        refl,
        (λ _. tt),
        (
          ends_at old mid m running begins stands c.give_end.follows.holds-at-none.0 c.in-Complete.ensures.look,
          c.give_end.follows.holds-at-none.1,
        ),
      ),
      tt,
    )

pub returns-in-Stop : goal.returns-in-Stop
returns-in-Stop g c =
    let old = c.args.self.now in
    let mid = c.look.new.self in
    let same = sym c.in-Stop.ensures.same in
    let running : old.stopped ≡ false = ap (λ v. v.stopped) (sym c.self.view_is) ∙ c.if-self.false in
    let begins : BeginsChar old.pending = subst (λ v. BeginsChar v.pending) c.self.view_is c.self.invariant.held.begins in
    let m = subst (Moves old []) same
    (moves_both old c.drop_mark.new.self c.drop_blanks.new.self [] [] c.drop_mark.ensures.moves c.drop_blanks.ensures.moves) in
    let stands = subst Stands same c.drop_blanks.ensures.stands in
    let e = c.stop_here.ensures in
    ((refl, (λ _. tt), stops_at old mid m running begins stands e.reason e.place e.stopped c.in-Stop.ensures.look), tt)

pub give-requires-clause-bytes : goal.give-requires-clause-bytes
give-requires-clause-bytes g c = let l = c.in-Token.ensures.look in (l.0, l.3, λ f. flat_text _ _ _ _ l.0 c.in-Token.kind l.1 f)

pub returns-in-Token : goal.returns-in-Token
returns-in-Token g c =
    let old = c.args.self.now in
    let mid = c.look.new.self in
    let same = sym c.in-Token.ensures.same in
    let running : old.stopped ≡ false = ap (λ v. v.stopped) (sym c.self.view_is) ∙ c.if-self.false in
    let begins : BeginsChar old.pending = subst (λ v. BeginsChar v.pending) c.self.view_is c.self.invariant.held.begins in
    let m = subst (Moves old []) same
    (moves_both old c.drop_mark.new.self c.drop_blanks.new.self [] [] c.drop_mark.ensures.moves c.drop_blanks.ensures.moves) in
    let stands = subst Stands same c.drop_blanks.ensures.stands in (
      (
        refl,
        (λ _. tt),
        (
          gives_look old mid m running begins stands _ _ _ _ c.in-Token.ensures.look c.give.follows.holds-at-none.0,
          c.give.follows.holds-at-none.1,
        ),
      ),
      tt,
    )

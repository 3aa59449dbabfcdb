-- The text is short enough by its bytes.
use Rattle.rdf_tokens.proofs.Prelude.{◌≤◌, length, sym, ◌∙◌, subst, leb-true, BeginsChar}
use Rattle.rdf_tokens.proofs.PeekLemmas.{may_see}
use Rattle.rdf_tokens.proofs.scanner.Scanner.may_peek.Goals as goal

pub returns-then-is_none : goal.returns-then-is_none
returns-then-is_none g c = λ e.
    let begins = subst (λ v. BeginsChar v.pending) c.self.view_is c.self.invariant.held.begins in
    may_see c.args.self.now c.rest.result.now c.rest.utf8 c.rest.ensures begins (sym c.is_running.ensures ∙ c.if-not-is_running.false)
    (subst (λ v. length c.rest.result.now ≤ v.limit) c.self.view_is (leb-true _ _ e))

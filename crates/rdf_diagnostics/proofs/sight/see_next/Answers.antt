use Rattle.rdf_diagnostics.proofs.Prelude.{Ok, ◌∙◌, ap, sym, subst, Gives, Sees}
use Rattle.rdf_diagnostics.proofs.SightLemmas.{sees_stop, sees_none, sees_token}
use Rattle.rdf_diagnostics.proofs.sight.see_next.Goals as goal

pub returns-in-Err : goal.returns-in-Err
returns-in-Err g c =
    let old = c.args.scanner.now in
    let new = c.next.follows.lender-at-none in
    let gives = subst (λ r. Gives old r new) c.in-Err.is c.next.follows.holds-at-none in
    subst (λ s. Sees old s new) (sym c.seen_for.ensures) (sees_stop old new c.in-Err.fault c.requires gives)

pub returns-in-Ok-None : goal.returns-in-Ok-None
returns-in-Ok-None g c =
    let old = c.args.scanner.now in
    let new = c.next.follows.lender-at-none in
    sees_none old new (subst (λ r. Gives old r new) (c.in-Ok-None.is ∙ ap Ok c.in-Ok-None.field-0-is) c.next.follows.holds-at-none)

pub returns-in-Ok-Some : goal.returns-in-Ok-Some
returns-in-Ok-Some g c =
    let old = c.args.scanner.now in
    let new = c.next.follows.lender-at-none in
    sees_token old new c.in-Ok-Some.token c.seen_of.result
    (subst (λ r. Gives old r new) (c.in-Ok-Some.is ∙ ap Ok c.in-Ok-Some.field-0-is) c.next.follows.holds-at-none)
    c.seen_of.ensures

-- The base that the scope takes, or its error, is that of the machine.
use Rattle.rdf_trig.proofs.Prelude.{None, subst, leaf, Unnamed}
use Rattle.rdf_trig.proofs.code.AgreeingScopes.{base_looks, base_none}
use Rattle.rdf_trig.proofs.code.TurnsLemmas.{on_ok, if_err}
use Rattle.rdf_trig.proofs.names.look_up_base.Goals as goal

pub returns-in-IriRef-clause-ok : goal.returns-in-IriRef-clause-ok
returns-in-IriRef-clause-ok g c =
    rw c.in-IriRef.is (on_ok c.set_base.result _ _
    (λ h w s e. base_looks s c.args.scope.now c.set_base.new.scope w (leaf c.args.token.now) None e h) c.set_base.ensures.ok)

pub returns-in-IriRef-clause-err : goal.returns-in-IriRef-clause-err
returns-in-IriRef-clause-err g c =
    let l = leaf c.args.token.now in
    rw c.in-IriRef.is (if_err c.set_base.result _ _
    (λ r h w s e. base_none s c.args.scope.now w l r e (subst (λ k. Unnamed c.args.scope.now k l r) c.in-IriRef.is h)) c.set_base.ensures.err)

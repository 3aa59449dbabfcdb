use Rattle.std.proofs.Common.{subst, IfOk}
use Rattle.std.proofs.lemmas.Result.{IfOk-weaker}
use Rattle.rdf_options.specs.Building.{ReadsAs}
use Rattle.rdf_options.proofs.BuildLemmas.{with_action}
use Rattle.rdf_options.proofs.options.add_action.Goals as goal

pub returns-in-Ok : goal.returns-in-Ok
returns-in-Ok c old sub is reads =
    let made = subst (λ r. IfOk r (λ action. ReadsAs action sub)) c.in-Ok.is reads in
    IfOk-weaker c.subcommand.result _ _ (λ new added. with_action _ _ new _ _ added is made) c.subcommand.ensures

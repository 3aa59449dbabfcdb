use Rattle.rdf_trig.proofs.Prelude.{ap, ◌∙◌, chars, leaf}
use Rattle.rdf_trig.proofs.code.LookUps.{base_is}
use Rattle.rdf_trig.proofs.names.set_base.Goals as goal

pub returns-clause-ok : goal.returns-clause-ok
returns-clause-ok g c =
    base_is c.args.scope.now c.set_base.new.self (leaf c.args.token.now) (chars c.as_str.result.now)
    (ap chars c.as_str.ensures.value ∙ c.in_ok-reference.ensures.ok) c.in_ok-set_base.ensures.based

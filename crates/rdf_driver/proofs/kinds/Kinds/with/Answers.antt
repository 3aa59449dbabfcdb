use Rattle.rdf_driver.proofs.Prelude.{◌∙◌, ap, has}
use Rattle.rdf_driver.proofs.KindsLemmas.{has_added, has_others}
use Rattle.rdf_driver.proofs.kinds.Kinds.with.Goals as goal

pub returns-clause-added : goal.returns-clause-added
returns-clause-added c = has_added c.self.inside.bits c.number.result c.args.kind c.number.ensures.is c.number.ensures.bit

pub returns-clause-others : goal.returns-clause-others
returns-clause-others c k apart = has_others c.self.inside.bits c.number.result c.args.kind c.number.ensures.is c.number.ensures.bit k apart
    ∙ ap (λ n. has n k) c.self.view_is

use Rattle.rdf_trig.proofs.Prelude.{ap, sym, step_fault}
use Rattle.rdf_trig.proofs.fault.StepFaultFromIriFault.from.Goals as goal

pub returns-in-Unbound : goal.returns-in-Unbound
returns-in-Unbound c = sym (ap step_fault c.in-Unbound.is)

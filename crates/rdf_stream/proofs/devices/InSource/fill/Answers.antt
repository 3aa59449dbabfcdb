use Rattle.rdf_stream.proofs.Prelude.{refl, ap, subst, ◌∙◌, Keeps}
use Rattle.rdf_stream.specs.Devices.{Reading}
use Rattle.rdf_stream.proofs.devices.InSource.fill.Goals as goal

pub returns-in-Err-clause-bytes : goal.returns-in-Err-clause-bytes
returns-in-Err-clause-bytes g c = subst (λ (s : Reading). Keeps s.remaining (g.R.Read.remaining c.read.new.self)) c.self.view_is c.in-Err.ensures.bytes

pub returns-in-Err-clause-ended : goal.returns-in-Err-clause-ended
returns-in-Err-clause-ended g c = ap (λ (s : Reading). s.has_ended) c.self.view_is ∙ c.requires.more

pub returns-in-Err-clause-failed : goal.returns-in-Err-clause-failed
returns-in-Err-clause-failed g c = refl

use Rattle.rdf_command.proofs.Prelude.{ap, rules, List, option_map, ℕ, Bor}
use Rattle.rdf_command.proofs.host.ProcessHost.open.Goals as goal

pub returns-in-Err-clause-shut : goal.returns-in-Err-clause-shut
returns-in-Err-clause-shut c = (c.in-Some.path.now, ap (option_map (λ (s : Bor (List ℕ)). s.now)) c.in-Some.is, search rules)

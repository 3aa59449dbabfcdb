use Rattle.std.proofs.Common.{ap, rules, List, option_map, ℕ, Bor}
use Rattle.rdf_command_tests.proofs.command.hosts.InMemoryHost.open.Goals as goal

pub returns-clause-shut : goal.returns-clause-shut
returns-clause-shut c = (c.in-Some.path.now, ap (option_map (λ (s : Bor (List ℕ)). s.now)) c.in-Some.is, search rules)

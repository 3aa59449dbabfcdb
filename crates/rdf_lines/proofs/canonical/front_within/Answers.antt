use Rattle.rdf_lines.proofs.canonical.front_within.Goals as goal

pub returns-then-text-limit-clause-within : goal.returns-then-text-limit-clause-within
returns-then-text-limit-clause-within c = c.if-text-limit.true

use Rattle.rdf_tokens.proofs.Prelude.{ℕ, ap, sym, begins_directive}
use Rattle.rdf_tokens.proofs.quick.begins_directive.Goals as goal

pub returns-then-first-eq98 : goal.returns-then-first-eq98
returns-then-first-eq98 c = sym (ap (λ (a : ℕ). begins_directive a c.args.second) c.if-first-eq98.true)

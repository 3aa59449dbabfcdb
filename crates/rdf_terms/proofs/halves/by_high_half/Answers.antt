use Rattle.rdf_terms.proofs.Prelude.{◌/◌, arith}
use Rattle.rdf_terms.proofs.LookUps.{high_halves, may_look_up, looked_up}
use Rattle.rdf_terms.proofs.halves.by_high_half.Goals as goal

pub swizzle : goal.swizzle
swizzle c = may_look_up (λ b. b / 16) (λ b h. omega arith) c.args.v _ c.fits-v (high_halves c.args.v c.fits-v.0)

pub returns : goal.returns
returns c = looked_up (λ b. b / 16) (λ b h. omega arith) c.args.v _ c.fits-v (high_halves c.args.v c.fits-v.0) c.args.table

use Rattle.rdf_tokens.proofs.Prelude.{ltb, ap, ◌∙◌, arith, w8, bitmask_splat, ones-mask_l}
use lib.Count.{ones}
use Rattle.rdf_tokens.proofs.count.below.Goals as goal

pub returns : goal.returns
returns c = ap ones (bitmask_splat w8 ltb c.args.v 16 c.args.limit c.requires (omega arith)) ∙ ones-mask_l (λ b. ltb b c.args.limit) c.args.v

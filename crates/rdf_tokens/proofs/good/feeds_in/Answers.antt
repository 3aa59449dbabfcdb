use Rattle.rdf_tokens.proofs.Prelude.{◌==◌, ap, ◌∙◌, arith, w8, bitmask_splat, length-chunk, ones-mask_l}
use Rattle.std.specs.Int.RustNames.{count_ones}
use lib.Lanes.{chunk}
use Rattle.rdf_tokens.proofs.good.feeds_in.Goals as goal

pub returns : goal.returns
returns c =
    let v = chunk c.args.at 16 c.args.bytes.now in
    ap count_ones (bitmask_splat w8 (λ a b. a == b) v 16 10 (length-chunk c.args.at 16 c.args.bytes.now c.requires) (omega arith))
    ∙ ones-mask_l (λ b. b == 10) v

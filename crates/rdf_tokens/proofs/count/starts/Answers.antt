use Rattle.rdf_tokens.proofs.Prelude.{arith, nat_lt, count_by-le-length}
use Rattle.rdf_tokens.proofs.CountLemmas.{starts-ends}
use Rattle.rdf_tokens.proofs.count.starts.Goals as goal

pub returns : goal.returns
returns c =
    let v = c.args.v in
    omega (arith, c.requires, c.below.ensures, c.below-2.ensures, starts-ends v, count_by-le-length (λ b. nat_lt b 192) v)

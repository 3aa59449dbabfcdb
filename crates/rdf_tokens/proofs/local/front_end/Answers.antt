-- A part, or a run that does not begin with a hyphen.
use Rattle.rdf_tokens.proofs.Prelude.{◌≡◌, get_or, arith}
use Rattle.rdf_tokens.proofs.LocalLemmas.{run_in}
use Rattle.rdf_tokens.proofs.local.front_end.Goals as goal

pub returns : goal.returns
returns c =
    let from = c.requires.from in
    run_in c.args.bytes.now c.args.local c.args.end c.requires (let other = c.if-local-end.false in omega arith)
    (λ (z : get_or c.args.bytes.now c.args.local 0 ≡ 45). let f = c.if-bytes-local-eq45.false in omega (arith, z, f))

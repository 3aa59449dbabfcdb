use Rattle.rdf_command.proofs.Prelude.{◌∙◌, ◌≡◌, length, ap, arith, IfOk-weaker, byte_len}
use Rattle.rdf_iri.proofs.ResolvedText.{byte_len-chars}
use Rattle.rdf_command.proofs.commands.iri_within.Goals as goal

pub returns-clause-fits : goal.returns-clause-fits
returns-clause-fits c =
    IfOk-weaker c.new.result _ _
    (λ iri is.
    let size : byte_len iri ≡ length c.args.text.now = ap byte_len is ∙ byte_len-chars c.args.text.now c.utf8.text in
    omega (arith, size, c.if-text-most.false))
    c.new.ensures.ok

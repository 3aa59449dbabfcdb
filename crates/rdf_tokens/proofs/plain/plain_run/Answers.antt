use Rattle.rdf_tokens.proofs.Prelude.{sym, subst, IsRun}
use Rattle.rdf_tokens.specs.declared.plain.RunClass.{RunClass}
use Rattle.rdf_tokens.specs.Plain.{is_plain}
use Rattle.rdf_tokens.proofs.plain.plain_run.Goals as goal

pub returns-in-InIri : goal.returns-in-InIri
returns-in-InIri c =
    subst (λ (k : RunClass). IsRun (is_plain k) c.args.bytes.now 0 c.run_end-in-InIri.result) (sym c.in-InIri.is) c.run_end-in-InIri.ensures

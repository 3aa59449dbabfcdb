use Rattle.rdf_tokens.proofs.Prelude.{sym, subst, IsRun, Dialect, is_space}
use Rattle.rdf_tokens.proofs.blank.white_end.Goals as goal

pub returns-in-Lines : goal.returns-in-Lines
returns-in-Lines c =
    subst (λ (d : Dialect). IsRun (is_space d) c.args.bytes.now c.args.from c.run_end.result) (sym c.in-Lines.is) c.run_end.ensures

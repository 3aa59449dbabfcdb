use Rattle.rdf_lines.proofs.Prelude.{◌≡◌, ◌++◌, sym, subst, IfSome, end_text}
use Rattle.rdf_lines.proofs.canonical.after_end.Goals as goal

pub returns-in-Lf : goal.returns-in-Lf
returns-in-Lf c = subst (λ e. IfSome c.after_byte.result (λ rest. c.args.text.now ≡ end_text e ++ rest.now)) (sym c.in-Lf.is) c.after_byte.ensures

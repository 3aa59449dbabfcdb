use Rattle.rdf_lines.proofs.Prelude.{subst, KnowsNext, trees, line_words}
use Rattle.rdf_lines.proofs.reader.LineReader.may_come.Goals as goal

pub returns : goal.returns
returns g c =
    record { exact = subst (λ r. KnowsNext line_words (λ x. trees x.form) r.grammar c.args.kind c.may_come.result) c.self.view_is c.may_come.ensures.exact }

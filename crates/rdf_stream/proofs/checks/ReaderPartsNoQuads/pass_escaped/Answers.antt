use Rattle.rdf_stream.proofs.Prelude.{subst, sym, append-nil, IsChecking}
use Rattle.rdf_stream.proofs.checks.ReaderPartsNoQuads.pass_escaped.Goals as goal

pub returns-clause-takes : goal.returns-clause-takes
returns-clause-takes g c = λ first bytes t. subst (λ b. IsChecking g.G.Grammar.words first.0 b c.args.self.now) (sym (append-nil bytes)) t

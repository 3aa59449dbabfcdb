use Rattle.rdf_tokens.proofs.Prelude.{sym, subst, HasScanned}
use Rattle.rdf_tokens.proofs.ReadLemmas.{read_last}
use Rattle.rdf_tokens.proofs.scanner.Scanner.end.Goals as goal

pub returns-then-not-self-clause-read : goal.returns-then-not-self-clause-read
returns-then-not-self-clause-read g c = λ bytes ts r.
    read_last _ bytes ts c.if-not-self.true (subst (λ v. HasScanned v bytes ts) (sym c.self.view_is) r)

use Rattle.rdf_driver.proofs.Prelude.{subst, KnowsNext, Driven}
use Rattle.rdf_driver.proofs.reader.Reader.may_come.Goals as goal

pub returns : goal.returns
returns g c =
    record {
      exact = subst (λ (y : Driven g.row.G.Denot). KnowsNext g.G.Grammar.words g.G.Foresees.trees y.grammar c.args.kind
          c.may_come.result) c.self.view_is c.may_come.ensures.exact;
    }

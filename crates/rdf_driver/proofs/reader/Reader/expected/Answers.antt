use Rattle.rdf_driver.proofs.Prelude.{subst, Kind, has, KnowsNext, Driven}
use Rattle.rdf_driver.proofs.reader.Reader.expected.Goals as goal

pub returns : goal.returns
returns g c =
    record {
      exact = subst (λ (y : Driven g.row.G.Denot). (k : Kind) → KnowsNext g.G.Grammar.words g.G.Foresees.trees y.grammar k
          (has c.expected.result k)) c.self.view_is c.expected.ensures.exact;
    }

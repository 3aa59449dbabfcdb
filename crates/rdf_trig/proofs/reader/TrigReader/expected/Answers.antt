use Rattle.rdf_trig.proofs.Prelude.{subst, Kind, KnowsNext, trees, tree_words}
use Rattle.rdf_driver.specs.Kinds.{has}
use Rattle.rdf_trig.proofs.reader.TrigReader.expected.Goals as goal

pub returns : goal.returns
returns g c =
    record {
      exact = subst (λ r. (k : Kind) → KnowsNext tree_words (λ x. trees x.form x.start) r.grammar k (has c.expected.result k))
          c.self.view_is c.expected.ensures.exact;
    }

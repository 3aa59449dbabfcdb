use Rattle.rdf_lines.proofs.Prelude.{subst, Kind, KnowsNext, trees, line_words}
use Rattle.rdf_driver.specs.Kinds.{has}
use Rattle.rdf_lines.proofs.reader.LineReader.expected.Goals as goal

pub returns : goal.returns
returns g c =
    record {
      exact = subst (λ r. (k : Kind) → KnowsNext line_words (λ x. trees x.form) r.grammar k (has c.expected.result k)) c.self.view_is
          c.expected.ensures.exact;
    }

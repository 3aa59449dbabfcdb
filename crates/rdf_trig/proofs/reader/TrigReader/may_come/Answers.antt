use Rattle.rdf_trig.proofs.Prelude.{subst, KnowsNext, trees, tree_words}
use Rattle.rdf_trig.proofs.reader.TrigReader.may_come.Goals as goal

pub returns : goal.returns
returns g c =
    record {
      exact = subst (λ r. KnowsNext tree_words (λ x. trees x.form x.start) r.grammar c.args.kind c.may_come.result) c.self.view_is
          c.may_come.ensures.exact;
    }

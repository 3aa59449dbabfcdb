use Rattle.rdf_lines.proofs.Prelude.{subst, KnowsNext, trees, mode_of, state_bytes, LineAt, line_words}
use Rattle.rdf_lines.proofs.NextKinds.{knows_next}
use Rattle.rdf_lines.proofs.grammar.LineGrammarForesees.may_come.Goals as goal

pub returns : goal.returns
returns g c =
    let r = c.self.inside in
    let here : LineAt = record { rules = r.rules; limit = r.limit; mode = mode_of r.state; held = state_bytes r.state } in
    record {
      exact = subst (λ y. KnowsNext line_words (λ x. trees x.form) y c.args.kind c.may_come.result) c.self.view_is
          (knows_next here c.args.kind c.may_come.result c.may_come.ensures);
    }

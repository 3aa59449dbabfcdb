use Rattle.rdf_lines.proofs.grammar.LineGrammar.new.Goals as goal

pub returns : goal.returns
returns g c = λ k. record {
  rules = record { form = c.args.form; iri = c.iri.ensures k };
  limit = c.token.ensures k;
  mode = c.new.ensures.begins k;
  held = c.new.ensures.held k;
}

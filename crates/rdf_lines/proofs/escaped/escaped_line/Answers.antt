use Rattle.rdf_lines.proofs.Prelude.{refl, sym, subst, chars, IriSpelled}
use Rattle.rdf_lines.proofs.escaped.escaped_line.Goals as goal

pub returns-clause-spelled : goal.returns-clause-spelled
returns-clause-spelled g c =
    let subject = c.in_ok-subject.subject in
    let predicate = c.in_ok-predicate.predicate in
    let object = c.in_ok-object.object in
    let graph = c.in_ok-graph.graph in
    record {
      a = c.in_ok-after.after.now;
      b = c.in_ok-skip_blanks.field-0.now;
      c = c.in_ok-skip_blanks-2.field-0.now;
      d = graph.rest.now;
      e = c.in_ok-skip_byte-2.field-0.now;
      objects = object.tokens;
      graphs = graph.tokens;
      subject = record { mid = subject.rest.now; spelled = c.in_ok-subject.ensures; gap = c.in_ok-after.ensures };
      predicate = record {
        mid = predicate.rest.now;
        spelled = record {
          inner = c.in_ok-skip_byte.field-0.now;
          opens = c.in_ok-skip_byte.ensures;
          spelled = subst (λ t. IriSpelled c.args.rules.iri (chars t) c.in_ok-skip_byte.field-0.now predicate.rest.now)
              (sym c.new.ensures) c.in_ok-predicate.ensures;
        };
        gap = c.in_ok-skip_blanks.ensures;
      };
      object = record { mid = object.rest.now; spelled = c.in_ok-object.ensures.spelled; gap = c.in_ok-skip_blanks-2.ensures };
      graph = c.in_ok-graph.ensures.spelled;
      dot = c.in_ok-skip_byte-2.ensures;
      ends = c.in_ok-skip_end.ensures;
      count = refl;
    }

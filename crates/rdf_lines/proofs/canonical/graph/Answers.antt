use Rattle.rdf_lines.proofs.Prelude.{sym, subst, GraphStands}
use Rattle.rdf_lines.proofs.FrontsLemmas.{one_graph}
use Rattle.rdf_lines.proofs.canonical.graph.Goals as goal

pub returns-in_ok-subject-in-NQuads-None-clause-stands : goal.returns-in_ok-subject-in-NQuads-None-clause-stands
returns-in_ok-subject-in-NQuads-None-clause-stands c =
    let rest = c.in_ok-subject-in-NQuads-None.field-0.now in
    subst (λ f. GraphStands f c.args.rules.iri 1 c.args.text.now rest) (sym c.in-NQuads-None.is-0)
    (one_graph c.args.rules.iri c.args.text.now rest c.in_ok-subject-in-NQuads-None.ensures)

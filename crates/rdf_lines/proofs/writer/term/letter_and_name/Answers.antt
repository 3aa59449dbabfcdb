use Rattle.rdf_lines.proofs.Prelude.{◌∷◌, ap, sym, ◌∙◌, Label, node_by, Tagged, rename_node}
use Rattle.rdf_lines.proofs.writer.term.letter_and_name.Goals as goal

pub returns-in-Label-node-clause-named : goal.returns-in-Label-node-clause-named
returns-in-Label-node-clause-named c =
    ap (λ s. rename_node s (node_by (λ v. v) c.args.node)) c.in-Tagged.is
    ∙ (ap (λ n. rename_node Tagged (node_by (λ v. v) n)) c.in-Label-node.is ∙ ap (λ x. Label (110 ∷ x)) (sym c.as_str-in-Label-node.ensures))

pub returns-in-Cell-node-clause-named : goal.returns-in-Cell-node-clause-named
returns-in-Cell-node-clause-named c =
    ap (λ s. rename_node s (node_by (λ v. v) c.args.node)) c.in-Tagged.is
    ∙ (ap (λ n. rename_node Tagged (node_by (λ v. v) n)) c.in-Cell-node.is ∙ ap (λ x. Label (99 ∷ x)) (sym c.format-in-Cell-node.ensures.text))

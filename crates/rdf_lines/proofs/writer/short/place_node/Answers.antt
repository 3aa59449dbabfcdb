use Rattle.rdf_lines.proofs.Prelude.{ℕ, [], ◌∷◌, refl, ap, sym, ◌∙◌, decimal, Placed-as, Tagged, node_bytes, usual}
use Rattle.rdf_lines.specs.declared.form.Escapes.TheVariants.{Plain}
use Rattle.rdf_lines.proofs.PlacedLines.{placed_anon, placed_cell, placed_label}
use Rattle.rdf_lines.proofs.writer.short.place_node.Goals as goal
use Rattle.rdf_lines.proofs.writer.short.place_node.Goals.{in-Anon, in-Cell}

pub returns-in-Label-clause-placed : goal.returns-in-Label-clause-placed
returns-in-Label-clause-placed c = Placed-as (placed_label Tagged Plain [] [] c.in-Label.label refl
    ∙ sym (ap (node_bytes usual) c.in-Label.is)) c.place_label.ensures.placed

pub returns-clause-placed : goal.returns-clause-placed
returns-clause-placed c =
    elim c.match-node.branch [
      | in-Anon w ↦
          Placed-as
          (ap (λ (p : ℕ × ℕ). 95 ∷ 58 ∷ p.0 ∷ decimal p.1) w.letter-is ∙ placed_anon Tagged Plain [] [] w.in-Anon.offset refl
          ∙ sym (ap (node_bytes usual) w.in-Anon.is))
          c.place_number.ensures.placed
      | in-Cell w ↦
          Placed-as
          (ap (λ (p : ℕ × ℕ). 95 ∷ 58 ∷ p.0 ∷ decimal p.1) w.letter-is ∙ placed_cell Tagged Plain [] [] w.in-Cell.offset refl
          ∙ sym (ap (node_bytes usual) w.in-Cell.is))
          c.place_number.ensures.placed
    ]

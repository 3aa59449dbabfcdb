use Rattle.rdf_terms.proofs.Prelude.{sym, ◌∙◌, is_unescaped}
use Rattle.rdf_terms.proofs.RunsLemmas.{front_fails, front_passes}
use Rattle.rdf_terms.proofs.runs.has_unescaped_ends.Goals as goal

pub returns-then-has_unescaped_lanes : goal.returns-then-has_unescaped_lanes
returns-then-has_unescaped_lanes g c =
    let a = c.has_unescaped_lanes.ensures in
    let b = c.has_unescaped_lanes-then-has_unescaped_lanes.ensures in
    b.2 ∙ front_passes is_unescaped c.args.bytes.now g.row.N a.0 b.0 c.requires.covers.0 c.requires.covers.1 a.1 b.1 (sym a.2 ∙ c.if-has_unescaped_lanes.true)

pub returns-else-has_unescaped_lanes : goal.returns-else-has_unescaped_lanes
returns-else-has_unescaped_lanes g c =
    let a = c.has_unescaped_lanes.ensures in
    c.if-has_unescaped_lanes.false ∙ front_fails is_unescaped c.args.bytes.now g.row.N a.0 c.requires.covers.0 a.1 (sym a.2 ∙ c.if-has_unescaped_lanes.false)

use Rattle.rdf_tokens.proofs.Prelude.{◌≡◌, map, drop, fixed_over, row_of}
use Rattle.rdf_tokens.proofs.states.fixed.is_over_among.Given as goal

abbrev pub invariant-loop-row : goal.invariant-loop-row
invariant-loop-row l = fixed_over (map row_of l.rows) l.limit l.text ≡ fixed_over (map row_of (drop l.row-index l.rows)) l.limit l.text

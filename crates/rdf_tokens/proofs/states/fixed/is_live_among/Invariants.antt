use Rattle.rdf_tokens.proofs.Prelude.{◌≡◌, map, drop, live_by, row_of}
use Rattle.rdf_tokens.proofs.states.fixed.is_live_among.Given as goal

abbrev pub invariant-loop-row : goal.invariant-loop-row
invariant-loop-row l = live_by (map row_of l.rows) l.text ≡ live_by (map row_of (drop l.row-index l.rows)) l.text

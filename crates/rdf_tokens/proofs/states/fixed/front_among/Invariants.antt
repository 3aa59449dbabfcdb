use Rattle.rdf_tokens.proofs.Prelude.{◌≡◌, map, drop, front_by, longer_front, row_of}
use Rattle.rdf_tokens.proofs.states.fixed.front_among.Given as goal

abbrev pub invariant-loop-row : goal.invariant-loop-row
invariant-loop-row l = front_by (map row_of l.rows) l.text ≡ longer_front l.best (front_by (map row_of (drop l.row-index l.rows)) l.text)

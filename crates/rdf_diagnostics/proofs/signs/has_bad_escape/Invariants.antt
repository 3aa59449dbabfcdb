-- What was passed has no such backslash, but for one right in front.
use Rattle.rdf_diagnostics.proofs.Prelude.{◌≡◌, drop, false, has_bad_escape}
use Rattle.rdf_diagnostics.proofs.signs.has_bad_escape.Given as goal

abbrev pub invariant-loop-i : goal.invariant-loop-i
invariant-loop-i l = has_bad_escape l.is_after (drop l.i l.inside) ≡ has_bad_escape false l.inside

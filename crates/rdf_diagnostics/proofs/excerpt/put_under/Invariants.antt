-- The characters that were passed have what stands under them.
use Rattle.rdf_diagnostics.proofs.Prelude.{◌≡◌, ◌++◌, map, take}
use Rattle.rdf_diagnostics.specs.Excerpts.{under}
use Rattle.rdf_diagnostics.proofs.excerpt.put_under.Given as goal

abbrev pub invariant-loop-c : goal.invariant-loop-c
invariant-loop-c g l = l.lines.items ≡ l.initial.lines.items ++ map under (take l.c-index l.front)

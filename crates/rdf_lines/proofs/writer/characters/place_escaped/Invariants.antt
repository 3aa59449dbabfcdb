use Rattle.rdf_lines.proofs.Prelude.{◌+◌, ◌-◌, ◌*◌, ◌≤◌, length, take, flat_map, Placed, escaped}
use Rattle.rdf_lines.specs.declared.form.Escapes.TheVariants.{Plain}
use Rattle.rdf_lines.proofs.writer.characters.place_escaped.Given as goal

abbrev pub invariant-loop-from : goal.invariant-loop-from
invariant-loop-from l = record {
  from : l.from ≤ length l.bytes;
  end : l.end ≤ l.at + 2 * l.from;
  placed : Placed l.fn.slot l.slot l.at (flat_map (escaped Plain) (take l.from l.bytes)) l.end;
}

abbrev pub decreases-loop-from : goal.decreases-loop-from
decreases-loop-from l = length l.bytes - l.from

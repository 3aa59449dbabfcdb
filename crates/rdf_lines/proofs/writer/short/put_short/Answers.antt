use Rattle.rdf_lines.proofs.PlacedLines.{placed_within}
use Rattle.rdf_lines.proofs.writer.short.put_short.Goals as goal

pub returns-clause-written : goal.returns-clause-written
returns-clause-written c = record { bytes = c.place_line.ensures.bytes; within = placed_within c.requires c.place_line.ensures }

use Rattle.rdf_lines.proofs.Prelude.{rules}
use Rattle.rdf_lines.proofs.writer.room.short_room.Goals as goal

pub returns-clause-room : goal.returns-clause-room
returns-clause-room c = search rules

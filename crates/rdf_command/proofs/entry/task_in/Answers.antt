use Rattle.rdf_command.proofs.Prelude.{map}
use Rattle.rdf_command.proofs.BadIriLemmas.{told_of}
use Rattle.rdf_command.proofs.entry.task_in.Goals as goal

pub returns-in-Err-clause-refused : goal.returns-in-Err-clause-refused
returns-in-Err-clause-refused c =
    let told = told_of (λ l. l.items) (map (λ s. s.now) c.args.words.now) c.in-Err.fault c.lines_for-lines.result c.in-Err.ensures.refused
    c.lines_for-lines.ensures.told in
    (told.0, c.in-Err.ensures.refused, told.1, told.2)

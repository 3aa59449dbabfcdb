use Rattle.rdf_diagnostics.proofs.SightLemmas.{sees_part}
use Rattle.rdf_diagnostics.proofs.sight.see_part.Goals as goal

pub returns-in-Ok : goal.returns-in-Ok
returns-in-Ok g c =
    sees_part c.args.scanner.now c.push.new.self c.see_next.new.scanner c.args.piece.now c.in-Ok.taken c.see_next.result c.requires
    c.in-Ok.ensures c.see_next.ensures

use Rattle.rdf_diagnostics.proofs.SightLemmas.{took_space}
use Rattle.rdf_diagnostics.proofs.sight.Front.begin.Goals as goal

pub returns-clause-taken : goal.returns-clause-taken
returns-clause-taken g c = λ bytes.
    took_space c.new-scanner.result c.see_part.new.scanner c.in_ok-see_part.field-0.0 c.in_ok-see_part.field-0.1 bytes
    c.new-scanner.ensures.read c.in_ok-see_part.ensures

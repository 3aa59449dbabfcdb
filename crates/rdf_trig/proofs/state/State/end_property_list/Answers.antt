use Rattle.rdf_trig.proofs.Prelude.{None}
use Rattle.rdf_trig.specs.declared.state.Ready.TheVariants as ready
use Rattle.rdf_trig.proofs.code.HoldingLemmas.{stands_fits}
use Rattle.rdf_trig.proofs.code.TurnsLemmas.{stands_at}
use Rattle.rdf_trig.proofs.state.State.end_property_list.Goals as goal

pub returns-clause-takes : goal.returns-clause-takes
returns-clause-takes g c = λ l form s u.
    let closed = c.brackets_closed-mode in
    stands_at form s u closed.new.self c.stand.new.self closed.result _ _ c.stand.ensures closed.ensures.graph (closed.ensures.mode form)

pub returns-clause-fits : goal.returns-clause-fits
returns-clause-fits g c = λ n h f.
    let closed = c.brackets_closed-mode in
    stands_fits n closed.new.self c.stand.new.self closed.result ready.Nothing None c.stand.ensures
    (closed.ensures.fits n f)

-- A look-up is that of the machine in the mode of the state.
use Rattle.rdf_trig.proofs.Prelude.{leaf}
use Rattle.rdf_trig.proofs.code.AgreeingScopes.{mode_looks, mode_none}
use Rattle.rdf_trig.proofs.state.State.look_up.Goals as goal

pub returns-in-Outer-clause-ok : goal.returns-in-Outer-clause-ok
returns-in-Outer-clause-ok g c = rw c.in-Outer.is c.look_up_outer.ensures.ok

pub returns-in-Outer-clause-err : goal.returns-in-Outer-clause-err
returns-in-Outer-clause-err g c = rw c.in-Outer.is c.look_up_outer.ensures.err

pub returns-in_default : goal.returns-in_default
returns-in_default g c =
    let self = c.args.self.now in
    let t = c.args.scope.now in
    let k = c.args.token.now.kind in
    let l = leaf c.args.token.now in
    record {
      ok = mode_looks self self.mode t k l c.look_up_name.new.self.name c.look_up_name.result c.in_default.not-Outer c.look_up_name.ensures.ok;
      fits = c.look_up_name.ensures.fits;
      same = c.look_up_name.ensures.same;
      err = mode_none self self.mode t k l c.look_up_name.result c.in_default.not-Outer c.look_up_name.ensures.err;
    }

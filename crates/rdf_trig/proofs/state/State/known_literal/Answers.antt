use Rattle.rdf_trig.proofs.Prelude.{◌≤◌, ◌*◌, length, ap, sym, subst, arith, chars, text_bytes}
use Rattle.rdf_trig.proofs.code.HoldingLemmas.{spelled_fits}
use Rattle.rdf_trig.proofs.state.State.known_literal.Goals as goal

pub returns-clause-fits : goal.returns-clause-fits
returns-clause-fits g c =
    let w = chars c.args.lexical.now in
    subst (λ r. text_bytes r ≤ 4 * length w) (sym c.end_object.ensures) (spelled_fits c.put_text.new.out w w (ap chars c.in_ok-put_text.ensures) (omega arith))

use Rattle.rdf_trig.proofs.Prelude.{◌≡◌, rules, chars, string_bytes, before}
use Rattle.rdf_trig.proofs.code.HoldingLemmas.{spelled_fits, before_shorter}
use Rattle.rdf_trig.proofs.outer.set_prefix.Goals as goal

pub returns-clause-fits : goal.returns-clause-fits
returns-clause-fits g c =
    let w = chars c.args.text.now in
    let e : chars (string_bytes c.push_str.new.self) ≡ before 58 w = search rules in
    spelled_fits c.push_str.new.self _ w e (before_shorter 58 w)

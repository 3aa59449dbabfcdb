-- The reason is the one that the host tells.
use Rattle.rdf_command.proofs.Prelude.{◌++◌, codes, option_map, string_bytes, subst, reason_line, ReportsOf}
use Rattle.rdf_command.proofs.reasons.tell_why_of.Goals as goal

pub returns : goal.returns
returns g c =
    let old = g.E.Drain.contents c.args.err.now in
    let new = g.E.Drain.contents c.tell_reason_of.new.err in
    let failed = g.E.Drain.has_failed c.tell_reason_of.new.err in
    let name = c.args.name.now in (
      option_map string_bytes c.reason-why.result,
      c.reason-why.ensures,
      subst (λ why. ReportsOf name (codes "cannot open file\n" ++ reason_line name why) old new failed) c.as_deref.ensures.value c.tell_reason_of.ensures,
    )

-- The reason is the one that the device tells.
use Rattle.rdf_command.proofs.Prelude.{◌⊎◌, ◌++◌, option_map, string_bytes, subst, reason_line, Reports}
use Rattle.rdf_command.proofs.reasons.tell_failed.Goals as goal

pub returns : goal.returns
returns g c =
    let old = g.E.Drain.contents c.args.err.now in
    let new = g.E.Drain.contents c.tell_reason.new.err in
    let failed = g.E.Drain.has_failed c.tell_reason.new.err in
    let line = c.args.line.now in
    let name = c.args.teller.0.now in (
      option_map string_bytes c.reason-why.result,
      c.reason-why.ensures,
      subst (λ why. Reports (line ++ reason_line name why) old new failed ⊎ Reports line old new failed) c.as_deref.ensures.value c.tell_reason.ensures,
    )

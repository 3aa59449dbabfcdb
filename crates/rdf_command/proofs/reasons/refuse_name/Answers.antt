use Rattle.rdf_command.proofs.Prelude.{◌∙◌, subst, sym, true, report_text, Write, Device, ReportsFailed, device}
use Rattle.rdf_command.proofs.reasons.refuse_name.Goals as goal

pub returns-then-explain-clause-reported : goal.returns-then-explain-clause-reported
returns-then-explain-clause-reported g c =
    let old = g.E.Drain.contents c.args.err.now in
    let new = g.E.Drain.contents c.tell_why.new.err in
    let failed = g.E.Drain.has_failed c.tell_why.new.err in
    let file : Device = device c.args.name.now (g.H.Host.has_reason c.args.host.now c.args.name.now) in
    subst (λ asked. ReportsFailed asked (report_text Write) file old new failed) (sym c.if-explain.true)
    (subst (λ line. ReportsFailed true line file old new failed) (c.as_bytes-line.ensures.value ∙ c.write_failed.ensures) c.tell_why.ensures)

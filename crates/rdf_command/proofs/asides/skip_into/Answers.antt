use Rattle.rdf_command.proofs.Prelude.{inl, inr, subst, report_text, written, Write, ReportsFailed, device, ReportsCounts}
use Rattle.rdf_command.proofs.asides.skip_into.Goals as goal

pub returns-in-Ok-keep : goal.returns-in-Ok-keep
returns-in-Ok-keep g c =
    let s = c.in-Ok-put_aside.summary in
    let err = c.tell_counts.new.err in
    let reported = subst (λ e. ReportsCounts s (g.E.Drain.contents e) (g.E.Drain.contents err) (g.E.Drain.has_failed err))
    c.in-Ok-put_aside.ensures.untold c.tell_counts.ensures.reported in
    inl (
      g.H.Output.Drain.contents c.in-Ok.output,
      c.in-Ok.ensures.empty,
      written g.H.Output.Drain c.put_aside.new.drain,
      inl (s, c.in-Ok-put_aside.ensures.put, inl (c.in-Ok-keep.ensures.kept, record { status_is = c.tell_counts.ensures.status; reported = reported })),
    )

pub returns-in-Err-keep : goal.returns-in-Err-keep
returns-in-Err-keep g c =
    let err = c.refuse_name.new.err in
    let reported =
    subst (λ e. ReportsFailed c.args.how.now.explain (report_text Write)
    (device c.args.name.now (g.H.Host.has_reason c.args.host.now c.args.name.now)) (g.E.Drain.contents e) (g.E.Drain.contents err)
    (g.E.Drain.has_failed err)) c.in-Ok-put_aside.ensures.untold c.refuse_name.ensures.reported in
    inl (
      g.H.Output.Drain.contents c.in-Ok.output,
      c.in-Ok.ensures.empty,
      written g.H.Output.Drain c.put_aside.new.drain,
      inl (
        c.in-Ok-put_aside.summary,
        c.in-Ok-put_aside.ensures.put,
        inr (record { status_is = c.refuse_name.ensures.status; is_left = c.in-Err-keep.ensures.unnamed; reported = reported }),
      ),
    )

pub returns-in-Err-put_aside : goal.returns-in-Err-put_aside
returns-in-Err-put_aside g c =
    inl (
      g.H.Output.Drain.contents c.in-Ok.output,
      c.in-Ok.ensures.empty,
      written g.H.Output.Drain c.put_aside.new.drain,
      inr (c.discard.ensures, c.in-Err-put_aside.ensures.none),
    )

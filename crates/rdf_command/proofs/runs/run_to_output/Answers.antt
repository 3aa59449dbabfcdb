use Rattle.rdf_command.proofs.Prelude.{◌≡◌, ◌∙◌, ap, inr, option_map, refl, string_bytes, subst, sym, told, written, ReportsBindings, ReportsStop, OneTells, device, devices_of, drain_tells, source_tells, name_by, name_of}
use Rattle.rdf_command.proofs.OutputLemmas.{some_load_status}
use Rattle.rdf_command.proofs.ReasonLemmas.{bindings_among, one_among, stop_among}
use Rattle.rdf_command.proofs.RunLemmas.{run_done, run_stopped, some_status}
use Rattle.rdf_command.proofs.runs.run_to_output.Goals as goal

pub returns-in-Ok-act-clause-ends : goal.returns-in-Ok-act-clause-ends
returns-in-Ok-act-clause-ends g c =
    let h = c.in-Ok.ensures.job in
    run_done (devices_of g.I.Source g.I.Explains g.O.Drain g.O.Explains) c.args.name.now c.args.task _ _ h.0 h.1 c.in-Ok.job h.2 _
    (told g.I.Source c.act.new.source) _ _ _ _ c.act.ensures.prompt
    c.in-Ok-act.ensures.accepted c.in-Ok-act.ensures.flushed

pub returns-clause-ends : goal.returns-clause-ends
returns-clause-ends g c =
    let h = c.in-Ok.ensures.job in
    let stop = c.in-Err-act.stop in
    let old = g.E.Drain.contents c.args.err.now in
    let new = g.E.Drain.contents c.tell_stopped.new.err in
    let failed = g.E.Drain.has_failed c.tell_stopped.new.err in
    let source = c.act.new.source in
    let out = c.act.new.out in
    let name : c.name_by-in-Err-act.result.now ≡ name_of c.args.task =
    c.name_by-in-Err-act.ensures ∙ ap name_by (c.as_deref-in-Err-act.ensures.value ∙ ap (option_map string_bytes) c.take-file.ensures.value) in
    let told_so =
    stop_among old new failed c.args.task.explain c.name_by-in-Err-act.result.now c.args.name.now _ _ _ _ stop.fault stop.evidence
    (λ why tells. (source, refl, tells)) (λ why tells. (out, refl, tells)) c.tell_stopped.ensures in
    let named =
    subst (λ n. ReportsStop c.args.task.explain (device n (source_tells g.I.Source g.I.Explains (told g.I.Source source)))
    (device c.args.name.now (drain_tells g.O.Drain g.O.Explains (written g.O.Drain out))) stop.fault stop.evidence old new failed) name told_so in
    run_stopped (devices_of g.I.Source g.I.Explains g.O.Drain g.O.Explains) c.args.name.now c.args.task _ _ h.0 h.1 c.in-Ok.job h.2 _
    (told g.I.Source source) _ _ _ _ c.act.ensures.prompt stop.fault _ c.status.ensures
    c.in-Err-act.ensures.stops c.in-Err-act.ensures.sent stop.evidence c.in-Err-act.ensures.expected named

pub returns-clause-untold : goal.returns-clause-untold
returns-clause-untold g c none = absurd (some_status c.in-Err-act.stop.fault (sym c.status.ensures ∙ none))

pub returns-in-Err-clause-ends : goal.returns-in-Err-clause-ends
returns-in-Err-clause-ends g c =
    let old = g.E.Drain.contents c.args.err.now in
    let new = g.E.Drain.contents c.refuse_bindings.new.err in
    let failed = g.E.Drain.has_failed c.refuse_bindings.new.err in
    let file = c.job_of.new.prefixes in
    let name : c.name_by.result.now ≡ name_by (option_map string_bytes c.args.task.prefixes) =
    c.name_by.ensures ∙ ap name_by (c.as_deref.ensures.value ∙ ap (option_map string_bytes) c.take-prefixes.ensures.value) in
    let told_so =
    bindings_among old new failed c.args.task.explain c.name_by.result.now _ _ c.in-Err.fault
    (one_among g.I.Source g.I.Explains file) c.refuse_bindings.ensures.reported in
    inr (record {
      fault = c.in-Err.fault;
      stops = c.in-Err.ensures.stops;
      status_is = c.refuse_bindings.ensures.status;
      unwritten = refl;
      reported = subst (λ n. ReportsBindings c.args.task.explain
          (device n (OneTells (source_tells g.I.Source g.I.Explains) (option_map (told g.I.Source) file))) c.in-Err.fault old new failed)
          name told_so;
    })

pub returns-in-Err-clause-untold : goal.returns-in-Err-clause-untold
returns-in-Err-clause-untold g c none = absurd (some_load_status c.in-Err.fault (sym c.refuse_bindings.ensures.status ∙ none))

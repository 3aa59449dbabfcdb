use Rattle.rdf_command.proofs.Prelude.{◌≡◌, ◌∙◌, ap, inr, option_map, refl, string_bytes, subst, sym, told, written, output_called, output_of, outputs_of, OneTells, ReportsBindings, device, devices_of, drain_tells, source_tells, ending, name_by, name_of}
use Rattle.rdf_stream.specs.Skips.{HasLines}
use Rattle.rdf_command.proofs.AsideLemmas.{aside_ends}
use Rattle.rdf_command.proofs.ReasonLemmas.{bindings_among, one_among}
use Rattle.rdf_command.proofs.asides.skip_over.Goals as goal

pub skip_to-requires-clause-lines : goal.skip_to-requires-clause-lines
skip_to-requires-clause-lines g c = subst (λ j. HasLines j.form) (sym c.in-Ok.ensures.job.2) c.requires.lines

pub returns : goal.returns
returns g c =
    let h = c.in-Ok.ensures.job in
    let document : c.name_by-document.result.now ≡ name_of c.args.task =
    c.name_by-document.ensures ∙ ap name_by (c.as_deref-2.ensures.value ∙ ap (option_map string_bytes) c.take-file.ensures.value) in
    let called : c.output_called.result.now ≡ output_called (output_of c.args.task) =
    c.output_called.ensures ∙ ap output_called (c.as_deref-3.ensures.value ∙ ap (option_map string_bytes) c.take-output.ensures.value) in
    let output : option_map (λ s. s.now) c.as_deref-4.result ≡ output_of c.args.task =
    c.as_deref-4.ensures.value ∙ ap (option_map string_bytes) c.take-output.ensures.value in
    aside_ends (outputs_of g.H.Host c.args.host.now (drain_tells g.H.Output.Drain g.H.Output.Explains))
    (devices_of g.I.Source g.I.Explains g.O.Drain g.O.Explains) c.args.bad.now c.args.task _ _ _ (told g.I.Source c.skip_to.new.source)
    (ending _ _ (written g.O.Drain c.skip_to.new.out) _ (written g.E.Drain c.skip_to.new.err)) h.0 h.1 c.in-Ok.job h.2 _ document _ called _
    output c.skip_to.ensures

pub returns-in-Err : goal.returns-in-Err
returns-in-Err g c =
    let old = g.E.Drain.contents c.args.err.now in
    let new = g.E.Drain.contents c.refuse_bindings.new.err in
    let failed = g.E.Drain.has_failed c.refuse_bindings.new.err in
    let file = c.job_of.new.prefixes in
    let name : c.name_by.result.now ≡ name_by (option_map string_bytes c.args.task.prefixes) =
    c.name_by.ensures ∙ ap name_by (c.as_deref.ensures.value ∙ ap (option_map string_bytes) c.take-prefixes.ensures.value) in
    let told_so =
    bindings_among old new failed c.args.task.explain c.name_by.result.now _ _ c.in-Err.fault
    (one_among g.I.Source g.I.Explains file) c.refuse_bindings.ensures.reported in
    inr (record {
      fault = c.in-Err.fault;
      stops = c.in-Err.ensures.stops;
      status_is = c.refuse_bindings.ensures.status;
      unwritten = refl;
      reported = subst (λ n. ReportsBindings c.args.task.explain
          (device n (OneTells (source_tells g.I.Source g.I.Explains) (option_map (told g.I.Source) file))) c.in-Err.fault old new failed)
          name told_so;
    })

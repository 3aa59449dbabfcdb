use Rattle.rdf_command.proofs.Prelude.{◌≡◌, ◌∙◌, ap, inl, inr, option_map, refl, string_bytes, subst, told, OneTells, ReportsBindings, device, source_tells, name_by}
use Rattle.rdf_command.proofs.ReasonLemmas.{bindings_among, one_among}
use Rattle.rdf_command.proofs.several.check_each.Goals as goal

pub returns-in-Err-given : goal.returns-in-Err-given
returns-in-Err-given g c =
    let old = g.E.Drain.contents c.args.err.now in
    let new = g.E.Drain.contents c.refuse_bindings.new.err in
    let failed = g.E.Drain.has_failed c.refuse_bindings.new.err in
    let explain = c.args.task.now.explain in
    let file = c.given.new.source in
    let fault = c.in-Err-given.fault in
    let source = g.H.Input.Source in
    let asked = g.H.Input.Explains in
    let left = option_map (told source) file in
    let name : c.name_by.result.now ≡ name_by (option_map string_bytes c.args.task.now.prefixes) = c.name_by.ensures ∙ ap name_by c.as_deref.ensures.value in
    let told_so = bindings_among old new failed explain c.name_by.result.now _ _ fault (one_among source asked file) c.refuse_bindings.ensures.reported in
    inr (
    inl (record {
      prefixes = option_map source.remaining c.in-Ok-open_prefixes.source;
      opened = c.in-Ok-open_prefixes.ensures.opened;
      left = left;
      none = record {
        fault = fault;
        stops = c.in-Err-given.ensures.none;
        status_is = c.refuse_bindings.ensures.status;
        unwritten = refl;
        reported = subst (λ n. ReportsBindings explain (device n (OneTells (source_tells source asked) left)) fault old new failed) name told_so;
      };
    })
    )

use Rattle.rdf_command.proofs.Prelude.{◌≡◌, ◌∙◌, ap, sym, subst, None, Some, option_map, string_bytes, written, EndsBySkip, skip_of, output_of, outputs_of, devices_of, drain_tells, ending, files_told}
use Rattle.rdf_command.proofs.AsideLemmas.{aside_of}
use Rattle.rdf_command.proofs.OutputLemmas.{ends_to}
use Rattle.rdf_command.proofs.output.run_over.Goals as goal

pub returns-in-Some : goal.returns-in-Some
returns-in-Some g c =
    let some : skip_of c.args.task ≡ Some c.as_str.result.now =
    ap (option_map string_bytes) (sym c.take.ensures.value ∙ c.in-Some.is) ∙ ap (λ n. Some n) (sym c.as_str.ensures.value) in
    let says = outputs_of g.H.Host c.args.host.now (drain_tells g.H.Output.Drain g.H.Output.Explains) in
    let devices = devices_of g.H.Input.Source g.H.Input.Explains g.O.Drain g.O.Explains in
    let prefixes = option_map g.H.Input.Source.remaining c.args.files.prefixes in
    let known = g.H.Input.Source.remaining c.args.files.document in
    let e =
    ending c.run_skipping.result.status (g.O.Drain.contents c.args.out.now) (written g.O.Drain c.run_skipping.new.out)
    (g.E.Drain.contents c.args.err.now) (written g.E.Drain c.run_skipping.new.err) in
    let h = c.run_skipping.ensures in
    subst (λ o. EndsBySkip o says devices c.args.task prefixes known (option_map (files_told g.H.Input.Source) c.run_skipping.result.files) e) (sym some)
    (h.0, h.1, aside_of c.args.task (record c.args.task { skip = c.take.new.self }) says devices c.as_str.result.now prefixes known h.0 e h.2)

pub returns-in-None : goal.returns-in-None
returns-in-None g c =
    let none : skip_of c.args.task ≡ None = ap (option_map string_bytes) (sym c.take.ensures.value ∙ c.in-None.is) in
    let e =
    ending c.run_to.result.status (g.O.Drain.contents c.args.out.now) (written g.O.Drain c.run_to.new.out)
    (g.E.Drain.contents c.args.err.now) (written g.E.Drain c.run_to.new.err) in
    subst (λ o. EndsBySkip o (outputs_of g.H.Host c.args.host.now (drain_tells g.H.Output.Drain g.H.Output.Explains))
    (devices_of g.H.Input.Source g.H.Input.Explains g.O.Drain g.O.Explains) c.args.task
    (option_map g.H.Input.Source.remaining c.args.files.prefixes) (g.H.Input.Source.remaining c.args.files.document)
    (option_map (files_told g.H.Input.Source) c.run_to.result.files) e) (sym none)
    (ends_to c.args.task (record c.args.task { skip = c.take.new.self }) _ _
    (outputs_of g.H.Host c.args.host.now (drain_tells g.H.Output.Drain g.H.Output.Explains))
    (devices_of g.H.Input.Source g.H.Input.Explains g.O.Drain g.O.Explains) _ e (output_of c.args.task) c.run_to.ensures)

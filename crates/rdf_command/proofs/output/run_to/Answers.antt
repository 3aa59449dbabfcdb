use Rattle.rdf_command.proofs.Prelude.{◌≡◌, ◌∙◌, ap, sym, subst, refl, None, Some, option_map, string_bytes, written, EndsTo, output_of, outputs_of, devices_of, drain_tells, ending, files_told}
use Rattle.rdf_command.proofs.OutputLemmas.{ends_into, ends_to}
use Rattle.rdf_command.proofs.output.run_to.Goals as goal

pub returns-in-Some : goal.returns-in-Some
returns-in-Some g c =
    let some : output_of c.args.task ≡ Some c.as_str.result.now =
    ap (option_map string_bytes) (sym c.take.ensures.value ∙ c.in-Some.is) ∙ ap (λ n. Some n) (sym c.as_str.ensures.value) in
    ends_into c.args.task (record c.args.task { output = c.take.new.self }) _ _ (outputs_of g.H.Host c.args.host.now
    (drain_tells g.H.Output.Drain g.H.Output.Explains)) (devices_of g.H.Input.Source g.H.Input.Explains g.O.Drain g.O.Explains) _
    (ending _ _ (written g.O.Drain c.args.out.now) _ (written g.E.Drain c.run_into.new.err)) c.as_str.result.now some c.run_into.ensures refl

pub returns-in-None : goal.returns-in-None
returns-in-None g c =
    let none : output_of c.args.task ≡ None = ap (option_map string_bytes) (sym c.take.ensures.value ∙ c.in-None.is) in
    let e =
    ending c.run_onto.result.status (g.O.Drain.contents c.args.out.now) (written g.O.Drain c.run_onto.new.out)
    (g.E.Drain.contents c.args.err.now) (written g.E.Drain c.run_onto.new.err) in
    subst (λ o. EndsTo o (outputs_of g.H.Host c.args.host.now (drain_tells g.H.Output.Drain g.H.Output.Explains))
    (devices_of g.H.Input.Source g.H.Input.Explains g.O.Drain g.O.Explains) c.args.task
    (option_map g.H.Input.Source.remaining c.args.files.prefixes) (g.H.Input.Source.remaining c.args.files.document)
    (option_map (files_told g.H.Input.Source) c.run_onto.result.files) e) (sym none)
    (ends_to c.args.task (record c.args.task { output = c.take.new.self }) _ _
    (outputs_of g.H.Host c.args.host.now (drain_tells g.H.Output.Drain g.H.Output.Explains))
    (devices_of g.H.Input.Source g.H.Input.Explains g.O.Drain g.O.Explains) _ e None c.run_onto.ensures)

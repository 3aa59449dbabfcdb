use Rattle.rdf_lines.proofs.Prelude.{◌≡◌, ◌++◌, [], ◌∷◌, append_assoc, ap, sym, ◌∙◌, on_err_weaker, form_of, space, subject_bytes, term_bytes, graph_bytes}
use Rattle.rdf_lines.specs.WrittenBytes.{iri_bytes}
use Rattle.rdf_lines.proofs.EncodedLine.{encoded_line}
use Rattle.rdf_lines.proofs.WrittenBytesLemmas.{on_ok, on_err, parts_appended, begins_with_front}
use Rattle.rdf_lines.proofs.writer.line.put_line.Goals as goal

pub returns-clause-written : goal.returns-clause-written
returns-clause-written g c =
    let out = c.args.out.now.items in
    let quad = c.args.quad.now in
    let form = form_of c.args.form.now in
    let subject = subject_bytes form quad.subject ++ space in
    let predicate = iri_bytes form.escapes quad.predicate ++ space in
    let object = term_bytes form quad.object ++ space in
    let graph = graph_bytes form quad.graph in
    let parts : c.put_object.new.out.items ≡ out ++ (subject ++ predicate ++ object) =
    parts_appended _ _ _ _ _ _ _ c.in_ok-put_subject.ensures.written c.in_ok-put_predicate.ensures.written c.in_ok-put_object.ensures.written in
    let whole : (out ++ (subject ++ predicate ++ object)) ++ (graph ++ 46 ∷ [] ++ 10 ∷ []) ≡ out
    ++ (subject ++ predicate ++ object ++ graph ++ 46 ∷ [] ++ 10 ∷ []) = simp append_assoc in
    on_ok c.put_end.result
    (λ h. h ∙ (ap (λ x. x ++ (graph ++ 46 ∷ [] ++ 10 ∷ [])) parts ∙ (whole ∙ ap (λ x. out ++ x) (sym (encoded_line form quad)))))
    c.put_end.ensures.written

pub returns-in_err-put_subject-clause-grown : goal.returns-in_err-put_subject-clause-grown
returns-in_err-put_subject-clause-grown g c = on_err _ (c.in_err-put_subject.ensures.grown)

pub returns-in_err-put_predicate-clause-grown : goal.returns-in_err-put_predicate-clause-grown
returns-in_err-put_predicate-clause-grown g c = on_err _ (begins_with_front _ _ _ _ c.in_ok-put_subject.ensures.written c.in_err-put_predicate.ensures.grown)

pub returns-in_err-put_object-clause-grown : goal.returns-in_err-put_object-clause-grown
returns-in_err-put_object-clause-grown g c =
    on_err _ (begins_with_front _ _ _ _ c.in_ok-put_subject.ensures.written
    (begins_with_front _ _ _ _ c.in_ok-put_predicate.ensures.written c.in_err-put_object.ensures.grown))

pub returns-clause-grown : goal.returns-clause-grown
returns-clause-grown g c = on_err_weaker c.put_end.result (begins_with_front _ _ _ _ c.in_ok-put_subject.ensures.written)
    (on_err_weaker c.put_end.result (begins_with_front _ _ _ _ c.in_ok-put_predicate.ensures.written)
    (on_err_weaker c.put_end.result (begins_with_front _ _ _ _ c.in_ok-put_object.ensures.written) c.put_end.ensures.grown))

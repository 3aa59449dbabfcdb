use Rattle.rdf_lines.proofs.Prelude.{◌≡◌, ◌∷◌, ◌++◌, append_assoc, ap, sym, ◌∙◌, form_of, node_bytes}
use Rattle.rdf_lines.proofs.EncodedLine.{encoded_prefix, encoded_node}
use Rattle.rdf_lines.proofs.WrittenBytesLemmas.{on_ok, where_ok}
use Rattle.rdf_lines.proofs.writer.term.put_node.Goals as goal

pub returns-in_ok-put_front-in-Some-clause-written : goal.returns-in_ok-put_front-in-Some-clause-written
returns-in_ok-put_front-in-Some-clause-written g c =
    let out = c.args.out.now.items in
    let form = form_of c.args.form in
    let word = c.as_str.result.now in
    let letter = c.in-Some.letter.now in
    let name = c.in-Some.name.now in
    let node : node_bytes form c.args.node ≡ 95 ∷ 58 ∷ (word ++ (letter ++ name)) =
    encoded_node form c.args.node word (letter ++ name) (encoded_prefix c.args.form.prefix ∙ sym c.as_str.ensures) c.in-Some.ensures.named in
    let whole : (95 ∷ 58 ∷ (word ++ letter)) ++ name ≡ node_bytes form c.args.node = ap (λ x. 95 ∷ 58 ∷ x) (append_assoc word letter name) ∙ sym node in
    on_ok c.extend_from_slice.result
    (λ h. h ∙ (ap (λ x. c.put_front.new.out.items ++ x) c.as_bytes.ensures.value ∙ (ap (λ x. x ++ name) c.in_ok-put_front-in-Some.ensures.written
    ∙ (append_assoc out (95 ∷ 58 ∷ (word ++ letter)) name ∙ ap (λ x. out ++ x) whole))))
    (where_ok c.extend_from_slice.result _ _ _ c.extend_from_slice.ensures.items)

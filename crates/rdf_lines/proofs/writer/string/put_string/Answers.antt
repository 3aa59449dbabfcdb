use Rattle.rdf_lines.proofs.Prelude.{◌++◌, [], ◌∷◌, ap, sym, ◌∙◌, arith, chars, flat_map, on_err_weaker, escaped, escaped_bytes}
use Rattle.rdf_lines.proofs.EncodedLine.{between}
use Rattle.rdf_lines.proofs.WrittenBytesLemmas.{on_ok, on_err, parts_appended, where_ok, begins_with_front, begins_with_same, begins_where_err}
use Rattle.rdf_lines.proofs.writer.string.put_string.Goals as goal

pub returns-clause-written : goal.returns-clause-written
returns-clause-written g c =
    let out = c.args.out.now.items in
    let e = c.args.escapes in
    on_ok c.extend_from_slice-2.result
    (λ h. parts_appended out (34 ∷ []) (escaped_bytes e c.args.text.now)
    (34 ∷ []) c.extend_from_slice.new.self.items c.put_escaped.new.out.items c.extend_from_slice-2.new.self.items
    c.in_ok-extend_from_slice.ensures.items c.in_ok-put_escaped.ensures.written h
    ∙ ap (λ x. out ++ x) (sym (between 34 34 (flat_map (escaped e) (chars c.args.text.now)) (omega arith) (omega arith))))
    (where_ok c.extend_from_slice-2.result _ _ _ c.extend_from_slice-2.ensures.items)

pub returns-in_err-extend_from_slice-clause-grown : goal.returns-in_err-extend_from_slice-clause-grown
returns-in_err-extend_from_slice-clause-grown g c = on_err _ (begins_with_same _ _ c.in_err-extend_from_slice.ensures.items)

pub returns-in_err-put_escaped-clause-grown : goal.returns-in_err-put_escaped-clause-grown
returns-in_err-put_escaped-clause-grown g c = on_err _ (begins_with_front _ _ _ _ c.in_ok-extend_from_slice.ensures.items c.in_err-put_escaped.ensures.grown)

pub returns-clause-grown : goal.returns-clause-grown
returns-clause-grown g c = on_err_weaker c.extend_from_slice-2.result (begins_with_front _ _ _ _ c.in_ok-extend_from_slice.ensures.items)
    (on_err_weaker c.extend_from_slice-2.result (begins_with_front _ _ _ _ c.in_ok-put_escaped.ensures.written)
    (begins_where_err c.extend_from_slice-2.result _ _ _ c.extend_from_slice-2.ensures.items))

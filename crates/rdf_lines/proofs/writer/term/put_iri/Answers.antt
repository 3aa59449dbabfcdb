use Rattle.rdf_lines.proofs.Prelude.{◌++◌, [], ◌∷◌, ap, sym, ◌∙◌, arith, encode_utf8_all, flat_map, iri_chars, on_err_weaker, written}
use Rattle.rdf_lines.proofs.EncodedLine.{between}
use Rattle.rdf_lines.proofs.WrittenBytesLemmas.{on_ok, on_err, parts_appended, where_ok, begins_with_front, begins_with_same, begins_where_err}
use Rattle.rdf_lines.proofs.writer.term.put_iri.Goals as goal

pub returns-clause-written : goal.returns-clause-written
returns-clause-written g c =
    let out = c.args.out.now.items in
    let inside = flat_map (written c.args.escapes) (iri_chars c.args.iri) in
    on_ok c.extend_from_slice-2.result
    (λ h. parts_appended out (60 ∷ []) (encode_utf8_all inside)
    (62 ∷ []) c.extend_from_slice.new.self.items c.put_characters.new.out.items c.extend_from_slice-2.new.self.items
    c.in_ok-extend_from_slice.ensures.items c.in_ok-put_characters.ensures.written h
    ∙ ap (λ x. out ++ x) (sym (between 60 62 inside (omega arith) (omega arith))))
    (where_ok c.extend_from_slice-2.result _ _ _ c.extend_from_slice-2.ensures.items)

pub returns-in_err-extend_from_slice-clause-grown : goal.returns-in_err-extend_from_slice-clause-grown
returns-in_err-extend_from_slice-clause-grown g c = on_err _ (begins_with_same _ _ c.in_err-extend_from_slice.ensures.items)

pub returns-in_err-put_characters-clause-grown : goal.returns-in_err-put_characters-clause-grown
returns-in_err-put_characters-clause-grown g c =
    on_err _ (begins_with_front _ _ _ _ c.in_ok-extend_from_slice.ensures.items c.in_err-put_characters.ensures.grown)

pub returns-clause-grown : goal.returns-clause-grown
returns-clause-grown g c = on_err_weaker c.extend_from_slice-2.result (begins_with_front _ _ _ _ c.in_ok-extend_from_slice.ensures.items)
    (on_err_weaker c.extend_from_slice-2.result (begins_with_front _ _ _ _ c.in_ok-put_characters.ensures.written)
    (begins_where_err c.extend_from_slice-2.result _ _ _ c.extend_from_slice-2.ensures.items))

use Rattle.rdf_iri.proofs.Prelude.{◌∙◌, ap, List, ℕ, ◌++◌, scheme_text, slices, text_of}
use Rattle.rdf_iri.proofs.Written.{no_bytes, some_bytes, own_authority, base_path, merged_path}
use Rattle.rdf_iri.proofs.resolution.put_resolved.Goals as goal
use Rattle.rdf_iri.proofs.resolution.put_resolved.Goals.{in-Some+in_ok-put_authority-in-Some+in_ok-put_path-in-Some+in_ok-put_suffix-in-Some, in-None+in_ok-put_authority-in-None+then-is_empty+in_ok-extend_from_slice-in-None+in_ok-put_suffix-in-None, in-None+in_ok-put_authority-in-None+else-is_empty+in_ok-put_path-in-None+in_ok-put_suffix-in-None-2}

pub returns : goal.returns
returns g c =
    let b = slices c.cut_parts-b.result in
    let r = slices c.cut_parts-r.result in
    let first = c.in_ok-put_scheme.ensures ∙ ap (λ (x : List ℕ). x ++ scheme_text b.scheme) c.requires in
    elim c.match-r.branch [
      | in-Some+in_ok-put_authority-in-Some+in_ok-put_path-in-Some+in_ok-put_suffix-in-Some w ↦
          own_authority b r _ _ w.in-Some.field-0.now _ _ _ _ _ _ _ c.cut_parts-b.ensures c.cut_parts-r.ensures (ap text_of w.in-Some.is)
          w.as_bytes.ensures.value first w.in_ok-put_authority-in-Some.ensures w.in_ok-put_path-in-Some.ensures
          w.in_ok-put_suffix-in-Some.ensures (ap (λ v. v.items) w.out-is) c.in_ok-put_suffix.ensures
      | in-None+in_ok-put_authority-in-None+then-is_empty+in_ok-extend_from_slice-in-None+in_ok-put_suffix-in-None w ↦
          base_path b r _ _ _ _ _ _ _ _ _ _ c.cut_parts-b.ensures c.cut_parts-r.ensures (ap text_of w.in-None.is)
          (no_bytes c.cut_parts-r.result.path.now w.is_empty.result w.is_empty.ensures w.if-is_empty.true)
          w.as_bytes-then-is_empty.ensures.value w.first_of.ensures first w.in_ok-put_authority-in-None.ensures w.in_ok-extend_from_slice-in-None.ensures.items
          w.in_ok-put_suffix-in-None.ensures (ap (λ v. v.items) w.out-is) c.in_ok-put_suffix.ensures
      | in-None+in_ok-put_authority-in-None+else-is_empty+in_ok-put_path-in-None+in_ok-put_suffix-in-None-2 w ↦
          merged_path b r _ _ _ _ _ _ _ _ _ _ _ _ c.cut_parts-b.ensures c.cut_parts-r.ensures (ap text_of w.in-None.is)
          (some_bytes c.cut_parts-r.result.path.now w.is_empty.result w.is_empty.ensures w.if-is_empty.false)
          w.as_bytes-else-is_empty-3.ensures.value w.as_bytes-else-is_empty-2.ensures.value w.as_bytes-else-is_empty.ensures.value
          w.merge_front-front.ensures first w.in_ok-put_authority-in-None.ensures w.in_ok-put_path-in-None.ensures
          w.in_ok-put_suffix-in-None-2.ensures (ap (λ v. v.items) w.out-is) c.in_ok-put_suffix.ensures
    ]

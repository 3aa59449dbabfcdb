use Rattle.rdf_iri.proofs.Prelude.{◌<◌, ◌∙◌, ◌%◌, ℕ, [], get_or, ap, sym, length, arith, string_bytes, false≢true, bytes_eq-Decides, keys_of}
use Rattle.rdf_iri.proofs.TableLemmas.{key_read, Names-once}
use Rattle.rdf_iri.proofs.table.place_in_slot.Goals as goal

pub returns-then-is_same : goal.returns-then-is_same
returns-then-is_same g c =
    let r = c.index-row-place.result in
    let l : c.args.slot % 65536 < length c.args.row.now = omega (arith, c.if-place-row.false) in
    let same = (bytes_eq-Decides c.as_str.result.now c.args.prefix.now).0 (sym c.is_same.ensures ∙ c.if-is_same.true) in
    record {
      within = l;
      same = key_read c.args.row.now (c.args.slot % 65536) r l c.index-row-place.is
          ∙ (ap (λ s. string_bytes s.0) c.index-row-place.is ∙ (sym c.as_str.ensures.value ∙ same));
    }

pub returns-else-is_same : goal.returns-else-is_same
returns-else-is_same g c = λ place names key.
    let r = c.index-row-place.result in
    let l : c.args.slot % 65536 < length c.args.row.now = omega (arith, c.if-place-row.false) in
    let here = (Names-once c.args.slot c.args.mark place c.requires names).0 in
    let read = key_read c.args.row.now (c.args.slot % 65536) r l c.index-row-place.is
    ∙ (ap (λ s. string_bytes s.0) c.index-row-place.is ∙ sym c.as_str.ensures.value) in
    let same = sym read ∙ (ap (λ (i : ℕ). get_or (keys_of c.args.row.now) i []) here ∙ key.same) in
    false≢true (sym c.if-is_same.false ∙ (c.is_same.ensures ∙ (bytes_eq-Decides c.as_str.result.now c.args.prefix.now).1 same))

use Rattle.rdf_iri.proofs.Prelude.{◌≡◌, ap, rules, subst, sym, ◌∙◌, not-true, BeginsSegment, has_dots, parts_of}
use Rattle.rdf_iri.proofs.base.has_path.Goals as goal

pub returns-then-begins_segment : goal.returns-then-begins_segment
returns-then-begins_segment c =
    let parts = parts_of c.args.text.now in
    let first : c.as_bytes.result.now ≡ parts.path = c.as_bytes.ensures.value ∙ ap (λ p. p.path) c.cut_parts.ensures in
    let path : c.as_bytes-then-begins_segment.result.now ≡ parts.path = c.as_bytes-then-begins_segment.ensures.value ∙ ap (λ p. p.path) c.cut_parts.ensures in
    λ e. record {
      scheme = search rules;
      authority = search rules;
      path = subst BeginsSegment first (c.begins_segment.ensures c.if-begins_segment.true);
      end = record { dots = ap has_dots (sym path) ∙ (sym c.has_dots.ensures ∙ not-true c.has_dots.result e); query = search rules; fragment = search rules };
    }

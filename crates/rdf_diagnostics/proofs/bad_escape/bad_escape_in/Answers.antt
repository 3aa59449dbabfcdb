use Rattle.rdf_diagnostics.proofs.Prelude.{◌∙◌, ap, drop, get_or, subst, sym, unwrap_or, IsUtf8, chars, chars_rest, outside, inside_of, stop_from}
use Rattle.rdf_terms.proofs.InsideLemmas.{front_off}
use Rattle.rdf_diagnostics.proofs.BadEscapesLemmas.{first_of, walk_found}
use Rattle.rdf_diagnostics.proofs.bad_escape.bad_escape_in.Goals as goal

pub returns : goal.returns
returns c = λ d u.
    let whole = c.chars-rest.result in
    let begun = c.chars-rest.ensures.rest in
    let utf8 : IsUtf8 (chars_rest whole) = subst IsUtf8 (sym begun) c.utf8.text in
    let first = first_of whole c.next.new.self c.next.result utf8 c.next.ensures.steps.0 in
    let rest = (front_off whole c.next.new.self c.next.result utf8 c.next.ensures.steps.0).1 in
    walk_found d (chars c.args.text.now) (chars c.as_str.result.now) (unwrap_or c.next.result 0) c.bytes_before.result u
    (ap (λ b. get_or (chars b) 0 0) (sym begun) ∙ first)
    (ap chars c.as_str.ensures ∙ (rest ∙ ap (λ b. drop 1 (chars b)) begun))
    (c.bytes_before.ensures ∙ ap (λ b. stop_from (inside_of b) outside 0 1 (chars c.as_str.result.now)) c.opens_iri-is_iri.ensures)

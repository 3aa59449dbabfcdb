-- The first escape was put, and then the row after it.
use Rattle.rdf_terms.proofs.Prelude.{subst, string_bytes, IsUtf8-string_bytes, inside_of, IsRead, leads, outside}
use Rattle.rdf_terms.proofs.EscapesLemmas.{put_one, put_more}
use Rattle.rdf_terms.proofs.values.put_escapes.Goals as goal

pub returns-in_ok-put_row-in-Some-clause-put : goal.returns-in_ok-put_row-in-Some-clause-put
returns-in_ok-put_row-in-Some-clause-put g c =
    let i = inside_of c.args.inside in
    let text = c.args.text.now in
    let at = c.args.at in
    let out = c.args.out.now in
    let read = subst (λ w. IsRead i (leads outside) w at c.in-Some.meant c.in-Some.next) c.as_bytes.ensures.value c.in-Some.ensures.read in
    put_more i text (string_bytes out) _ _ at c.in-Some.next _
    (put_one i text (string_bytes out) _ at c.in-Some.meant c.in-Some.next read (IsUtf8-string_bytes out) c.in_ok-push_char-in-Some.ensures)
    c.in_ok-put_row-in-Some.ensures

use Rattle.rdf_terms.proofs.Prelude.{subst, string_bytes, IsUtf8-string_bytes, inside_of, IsRead, leads, outside}
use Rattle.rdf_terms.proofs.EscapesLemmas.{put_one}
use Rattle.rdf_terms.proofs.values.put_escape.Goals as goal

pub returns-in_ok-push-in-Some-clause-put : goal.returns-in_ok-push-in-Some-clause-put
returns-in_ok-push-in-Some-clause-put g c =
    let i = inside_of c.args.inside in
    let read = subst (λ w. IsRead i (leads outside) w c.args.at c.in-Some.meant c.in-Some.next) c.as_bytes.ensures.value c.in-Some.ensures.read in
    put_one i c.args.text.now (string_bytes c.args.out.now) _ c.args.at c.in-Some.meant c.in-Some.next read
    (IsUtf8-string_bytes c.args.out.now) c.in_ok-push-in-Some.ensures.bytes

use Rattle.rdf_lines.proofs.Prelude.{◌++◌, append_assoc, sym, ap, ◌∙◌, refl, encode_utf8, encode_utf8_all, escaped, escaped_bytes}
use Rattle.std.proofs.lemmas.Option.{MatchOption-at_some}
use Rattle.rdf_lines.proofs.EscapedRuns.{char_written}
use Rattle.rdf_lines.proofs.WrittenBytesLemmas.{begins_with_same, begins_with_front}
use Rattle.rdf_lines.proofs.writer.string.put_first.Goals as goal

pub returns-in_ok-put_char-in-Some-clause-written : goal.returns-in_ok-put_char-in-Some-clause-written
returns-in_ok-put_char-in-Some-clause-written g c =
    let e = c.args.escapes in
    let out = c.args.out.now.items in
    let here = c.chars-chars.ensures.rest in
    let step = MatchOption-at_some _ _ c.in-Some.c c.in-Some.is c.next.ensures.steps.0 in
    let first = char_written e c.args.text.now c.as_str.result.now c.in-Some.c c.utf8.text
    (sym here ∙ (step ∙ ap (λ x. encode_utf8 c.in-Some.c ++ x) (sym c.as_str.ensures))) in
    ap (λ x. x ++ escaped_bytes e c.as_str.result.now) c.in_ok-put_char-in-Some.ensures.written
    ∙ (append_assoc out (encode_utf8_all (escaped e c.in-Some.c)) (escaped_bytes e c.as_str.result.now) ∙ ap (λ x. out ++ x) (sym first))

pub returns-in_err-put_char-in-Some-clause-grown : goal.returns-in_err-put_char-in-Some-clause-grown
returns-in_err-put_char-in-Some-clause-grown g c = begins_with_same _ _ c.in_err-put_char-in-Some.ensures.unchanged

pub returns-in_ok-put_char-in-Some-clause-grown : goal.returns-in_ok-put_char-in-Some-clause-grown
returns-in_ok-put_char-in-Some-clause-grown g c = begins_with_front _ _ _ _ c.in_ok-put_char-in-Some.ensures.written (begins_with_same _ _ refl)

use Rattle.rdf_lines.proofs.Prelude.{◌≡◌, ◌<◌, length, get_or, subst, arith, IsCharBoundary-after_ascii}
use Rattle.rdf_lines.proofs.canonical.after_byte_at.Goals as goal

pub range_from-requires : goal.range_from-requires
range_from-requires c =
    let text = c.args.text.now in
    let here : get_or text c.args.at 0 ≡ c.args.byte = subst (λ x. get_or x c.args.at 0 ≡ c.args.byte) c.as_bytes-bytes.ensures.value c.if-bytes-at.true in
    let inside : c.args.at < length text = subst (λ x. c.args.at < length x) c.as_bytes-bytes.ensures.value c.if-at-bytes.true in
    let ascii = c.requires.ascii in
    λ _. IsCharBoundary-after_ascii text c.args.at c.utf8.text inside (omega (arith, here, ascii))

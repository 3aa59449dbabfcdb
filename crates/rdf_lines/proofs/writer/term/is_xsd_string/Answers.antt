-- The three parts are all of it.
use Rattle.rdf_lines.proofs.Prelude.{◌≡◌, ◌&&◌, ◌∙◌, length, take, drop, ap, arith, bytes_eq, xsd_string}
use Rattle.rdf_lines.proofs.PlainTypeLemmas.{string_by}
use Rattle.rdf_lines.proofs.writer.term.is_xsd_string.Goals as goal

pub returns : goal.returns
returns c =
    let bs = c.args.datatype.now in
    let size : length bs ≡ 39 = omega (arith, c.if-datatype-ne-STRING_LEN.false) in
    let second = bytes_eq (take 16 (drop 16 bs)) (take 16 (drop 16 xsd_string)) in
    ap (λ t. t && c.stand_at-second.result && c.stand_at-third.result) c.stand_at-first.ensures
    ∙ (ap (λ t. bytes_eq (take 16 bs) (take 16 xsd_string) && t && c.stand_at-third.result) c.stand_at-second.ensures
    ∙ (ap (λ t. bytes_eq (take 16 bs) (take 16 xsd_string) && second && t) c.stand_at-third.ensures ∙ string_by bs size))

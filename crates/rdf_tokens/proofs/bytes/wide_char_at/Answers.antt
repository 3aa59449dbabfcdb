use Rattle.rdf_tokens.proofs.Prelude.{◌++◌, ◌+◌, drop, encode_utf8, sym, ap, ◌∙◌, arith, IsCharBoundary-from_drop, drop_past_char}
use Rattle.rdf_tokens.proofs.bytes.wide_char_at.Goals as goal

pub range_from-requires : goal.range_from-requires
range_from-requires c = λ l. IsCharBoundary-from_drop c.args.text.now c.args.at (omega arith) c.requires.utf8

pub returns-clause-is : goal.returns-clause-is
returns-clause-is c =
    let bs = c.args.text.now in
    let at = c.args.at in
    let x = c.in-Some.c in
    let e = sym c.range_from.ensures.value ∙ (sym c.chars-chars.ensures.rest ∙ c.in-Some.ensures.steps.0) in
    e ∙ ap (λ t. encode_utf8 x ++ t) (sym (drop_past_char bs _ at x e) ∙ ap (λ k. drop (at + k) bs) (sym c.len_utf8.ensures.value))

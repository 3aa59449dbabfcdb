-- A string between three quotes, by what stands inside.
use Rattle.rdf_tokens.proofs.Prelude.{◌≡◌, ◌+◌, ◌∙◌, true, sym, subst, IsUtf8, Turtle, LongString, opens_with}
use Rattle.rdf_tokens.specs.Quick.{IsToken}
use Rattle.rdf_tokens.proofs.LongQuick.{quick_long}
use Rattle.rdf_tokens.proofs.quick.quick_long.Goals as goal

pub returns-then-stands_thrice-2 : goal.returns-then-stands_thrice-2
returns-then-stands_thrice-2 c =
    let q = c.args.quote in
    let bs = c.as_bytes-bytes.result.now in
    let v = c.as_bytes-bytes.ensures.value in
    let end = c.long_end-end.result in
    subst (λ b. IsToken Turtle b (end + 3) LongString) v
    (quick_long q bs (subst IsUtf8 (sym v) c.utf8.text) (subst (λ b. opens_with Turtle q b ≡ true) (sym v) c.requires)
    (sym c.stands_thrice.ensures ∙ c.if-stands_thrice.true)
    end c.long_end-end.ensures.rests c.long_end-end.ensures.fits (sym c.stands_thrice-then-stands_thrice.ensures ∙ c.if-stands_thrice-2.true))

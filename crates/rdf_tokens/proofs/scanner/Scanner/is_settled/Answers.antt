use Rattle.rdf_tokens.proofs.Prelude.{◌≡◌, ◌||◌, true, false, not, sym, ap, ◌∙◌, is_empty}
use Rattle.rdf_tokens.proofs.CutLemmas.{chars-empty}
use Rattle.rdf_tokens.proofs.scanner.Scanner.is_settled.Goals as goal

pub returns-else-self : goal.returns-else-self
returns-else-self g c =
    let v = c.args.self.now in
    let empty : is_empty v.text ≡ true =
    ap is_empty (sym c.rest.ensures) ∙ (chars-empty c.rest.result.now c.rest.utf8 ∙ (sym c.is_empty.ensures ∙ c.if-is_empty.true)) in
    let broken : v.broken ≡ false = ap (λ v. v.broken) (sym c.self.view_is) ∙ c.if-self.false in
    ap (λ v. v.ended) c.self.view_is ∙ sym (ap (λ b. not b || (v.broken || v.ended)) empty ∙ ap (λ b. b || v.ended) broken)

pub returns : goal.returns
returns g c =
    let v = c.args.self.now in
    let empty : is_empty v.text ≡ false =
    ap is_empty (sym c.rest.ensures) ∙ (chars-empty c.rest.result.now c.rest.utf8 ∙ (sym c.is_empty.ensures ∙ c.if-is_empty.false)) in
    sym (ap (λ b. not b || (v.broken || v.ended)) empty)

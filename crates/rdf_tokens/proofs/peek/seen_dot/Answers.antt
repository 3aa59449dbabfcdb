-- The dot is the token, by the byte after it.
use Rattle.rdf_tokens.proofs.Prelude.{refl, sym, subst, ◌∙◌, IsUtf8, Turtle}
use Rattle.rdf_terms.specs.declared.kind.Kind.TheVariants.{Dot}
use Rattle.rdf_tokens.specs.Quick.{IsToken}
use Rattle.rdf_tokens.proofs.QuickLemmas.{quick_dot}
use Rattle.rdf_tokens.proofs.peek.seen_dot.Goals as goal

pub returns-then-is_dot : goal.returns-then-is_dot
returns-then-is_dot c =
    let v = c.as_bytes.ensures.value in (
      refl,
      subst (λ b. IsToken Turtle b 1 Dot) v
          (quick_dot Turtle c.as_bytes.result.now (subst IsUtf8 (sym v) c.utf8.text) (sym c.is_dot.ensures ∙ c.if-is_dot.true)),
      tt,
    )

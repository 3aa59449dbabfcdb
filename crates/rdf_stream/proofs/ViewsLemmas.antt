-- What the types of borrowed terms say of the terms that they mean.
use Rattle.rdf_stream.proofs.Prelude.{◌≡◌, ℕ, List, [], ◌∷◌, true, refl, IsUtf8-had, scalars-chars, arith, chars, Literal, Quad, IsSubject, IsTail, IsTerm, IsGraph, IsIri, IsQuad, all_have}
use Rattle.std.proofs.Math.Logic.{∥∥₁_elim, ∥∥₁_map}
use Rattle.std.proofs.lemmas.Bool.Decides.{nat_tests}
use lib.Utf8 as U
use Rattle.rdf_terms.specs.Classes.{scalar}
use Rattle.rdf_terms.specs.Views.{tail_by}
use Rattle.rdf_terms.specs.declared.views.LiteralRef.{LiteralRef}
use Rattle.rdf_terms.specs.declared.views.TailRef.{TailRef}
use Rattle.rdf_terms.specs.declared.views.TailRef.TheVariants as tail

-- what std calls a character is one here
scalar_is : (c : ℕ) → U.scalar c ≡ true → scalar c ≡ true
scalar_is c h = grind (arith, nat_tests)

-- what std calls characters of a text are characters here
all_scalar : (w : List ℕ) → U.scalars w ≡ true → all_have scalar w ≡ true
all_scalar [] h = refl
all_scalar (c ∷ w) h = grind (arith, nat_tests, scalar_is c, all_scalar w)

-- the tag or datatype that is borrowed is well formed
tail_is : (t : TailRef) → ∥ IsTail (tail_by chars t) ∥₁
tail_is (tail.Lang v) = v.is_tag
tail_is (tail.Typed v) = v.is_iri

-- a borrowed literal is well formed, since its text is a str
pub literal_is : (l : LiteralRef) → ∥ IsTerm (Literal (chars l.lexical.now) (tail_by chars l.tail)) ∥₁
literal_is l = ∥∥₁_map (tail_is l.tail) (λ t. (all_scalar (chars l.lexical.now) (scalars-chars _ (IsUtf8-had _ l.utf8)), t))

-- a borrowed quad is well formed if its terms are
pub quad_is : (q : Quad) → ∥ IsSubject q.subject ∥₁ → ∥ IsIri q.predicate ∥₁ → ∥ IsTerm q.object ∥₁ → ∥ IsGraph q.graph ∥₁ → ∥ IsQuad q ∥₁
quad_is q s p o g =
    ∥∥₁_elim s squash₁ (λ s'. ∥∥₁_elim p squash₁ (λ p'. ∥∥₁_elim o squash₁ (λ o'. ∥∥₁_map g (λ g'.
    record { subject = s'; predicate = p'; object = o'; graph = g' }))))

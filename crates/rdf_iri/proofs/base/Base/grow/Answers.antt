-- What was appended is what the reference stands for, and its size was tested before.
use Rattle.rdf_iri.proofs.Prelude.{◌≡◌, ◌+◌, ◌++◌, ◌∙◌, length, Some, ap, sym, subst, arith, chars, encode_utf8_all, err_from_is_err_and, byte_len, parts_of, Resolves, EndsInSlash, HasDirectory, GrowsBy}
use Rattle.rdf_iri.proofs.ScopeLemmas.{IsIri-append, byte_len-joined}
use Rattle.rdf_iri.proofs.BaseLemmas.{Resolves-grown, HasDirectory-grown}
use Rattle.rdf_iri.proofs.base.Base.grow.Goals as goal
use Rattle.rdf_iri.proofs.base.Base.grow.Goals.{After-as_str, After-ends_in_slash-self-inside}
use Rattle.rdf_iri.proofs.base.Base.grow.Given.{Over}

-- what the reference stands for
resolves : (g : Over) (c : After-as_str g) → Resolves (Some c.args.self.now) (chars c.args.reference.now) (c.args.self.now ++ chars c.args.reference.now)
resolves g c = Resolves-grown _ _ c.args.reference.now c.as_str.utf8 (c.as_str.ensures.value ∙ c.self.view_is) c.utf8.reference c.requires.grows

-- its bytes are those of both
size : (g : Over) (c : After-as_str g) → byte_len (c.args.self.now ++ chars c.args.reference.now) ≡ length c.as_str.result.now + length c.args.reference.now
size g c = byte_len-joined _ _ c.args.self.now c.as_str.utf8 c.utf8.reference (c.as_str.ensures.value ∙ c.self.view_is)

-- and it is the base now
grown : (g : Over) (c : After-ends_in_slash-self-inside g) → c.push_str.new.self ≡ c.args.self.now ++ chars c.args.reference.now
grown g c = c.in_ok-push_str.ensures.appended ∙ ap (λ x. x ++ chars c.args.reference.now) c.self.view_is

pub returns-then-len-limit-clause-refused : goal.returns-then-len-limit-clause-refused
returns-then-len-limit-clause-refused g c =
    let a = (goal.at.returns-then-len-limit-clause-refused g c).After-as_str in
    (_, resolves g a, omega (arith, size g a, c.if-len-limit.true))

pub push_str-requires : goal.push_str-requires
push_str-requires g c = IsIri-append _ _ c.as_str.ensures.is_iri c.requires.text

pub returns-in_err-push_str-clause-refused : goal.returns-in_err-push_str-clause-refused
returns-in_err-push_str-clause-refused g c =
    let p = err_from_is_err_and c.from_residual.result c.from_residual.ensures.1 in
    rw (p.1, p.2) (_, resolves g (goal.at.returns-in_err-push_str-clause-refused g c).After-as_str)

pub invariant_of-self-2 : goal.invariant_of-self-2
invariant_of-self-2 g c = (
  λ t.
      subst (λ x. HasDirectory (parts_of (encode_utf8_all x))) (sym c.in_ok-push_str.ensures.appended)
      (HasDirectory-grown c.self.inside.iri c.args.reference.now c.utf8.reference
      (subst (λ x. GrowsBy (encode_utf8_all x) c.args.reference.now) (sym c.self.view_is) c.requires.grows)
      (subst EndsInSlash c.as_bytes.ensures.value (c.ends_in_slash-self-inside.ensures t))),
  tt,
)

pub returns-clause-resolved : goal.returns-clause-resolved
returns-clause-resolved g c =
    subst (Resolves (Some c.args.self.now) (chars c.args.reference.now)) (sym (grown g (goal.at.returns-clause-resolved g c).After-ends_in_slash-self-inside))
    (resolves g (goal.at.returns-clause-resolved g c).After-as_str)

pub returns-clause-within : goal.returns-clause-within
returns-clause-within g c =
    omega (
      arith,
      ap byte_len (grown g (goal.at.returns-clause-within g c).After-ends_in_slash-self-inside),
      size g (goal.at.returns-clause-within g c).After-as_str,
      c.if-len-limit.false,
    )

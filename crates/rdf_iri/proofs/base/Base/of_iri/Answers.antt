-- The bytes that were looked at are those of the IRI.
use Rattle.rdf_iri.proofs.Prelude.{◌∙◌, ap, sym, subst, MatchOption, ⊤, encode_utf8_all, HasRoot, encodes-chars, parts_of, HasDirectory}
use Rattle.rdf_iri.proofs.base.Base.of_iri.Goals as goal

pub invariant_of-result : goal.invariant_of-result
invariant_of-result g c = (
  λ t.
      subst (λ x. HasDirectory (parts_of x)) (sym (encodes-chars _ c.as_str.utf8) ∙ ap encode_utf8_all c.as_str.ensures.value)
      (c.has_directory-directory.ensures t),
  subst (λ x. MatchOption c.root_of-root.result ⊤ (HasRoot x))
      (sym (encodes-chars _ c.as_str-2.utf8) ∙ ap encode_utf8_all c.as_str-2.ensures.value) c.root_of-root.ensures,
)

use Rattle.rdf_iri.proofs.Prelude.{◌∙◌, ap, sym, subst, IsUtf8, chars}
use Rattle.rdf_iri.proofs.ResolvedText.{IsUtf8-target, chars-target}
use Rattle.rdf_iri.proofs.resolution.resolved.Goals as goal

pub unwrap-requires : goal.unwrap-requires
unwrap-requires g c = c.from_utf8.ensures.succeeds (subst IsUtf8 (sym c.in_ok-bytes.ensures) (IsUtf8-target _ _ c.utf8.base c.utf8.reference))

pub returns : goal.returns
returns g c =
    let e = rw c.unwrap.ensures at c.from_utf8.ensures.ok in
    ap (λ v. chars v.items) e ∙ (ap chars c.in_ok-bytes.ensures ∙ chars-target _ _ c.utf8.base c.utf8.reference)

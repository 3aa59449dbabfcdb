use Rattle.rdf_iri.proofs.Prelude.{◌≡◌, ◌∙◌, ap, sym, subst, List, ℕ, [], ◌∷◌, ◌≤◌, length, drop, begins, from}
use Rattle.rdf_iri.proofs.CutPlaces.{boundary_there, boundary_after_slashes}
use Rattle.rdf_iri.proofs.parts.cut_authority.Goals as goal

pub range_from-rest-requires : goal.range_from-rest-requires
range_from-rest-requires c = λ _. boundary_after_slashes c.args.text.now c.utf8.text
    (sym (c.begins_with.ensures ∙ ap (begins (47 ∷ 47 ∷ [])) c.as_bytes.ensures.value) ∙ c.if-not-begins_with.false)

pub split_at-requires : goal.split_at-requires
split_at-requires c = boundary_there c.range_from-rest.result.now c.bytes_before.result
    (subst (λ (w : List ℕ). c.bytes_before.result ≤ length w) c.as_bytes-2.ensures.value c.bytes_before.ensures.within)
    (subst (λ (w : List ℕ). drop c.bytes_before.result w ≡ from 47 w) c.as_bytes-2.ensures.value c.bytes_before.ensures.rest)

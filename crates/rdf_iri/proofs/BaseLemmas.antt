-- A base that has grown, by its characters.
use Rattle.rdf_iri.proofs.Prelude.{◌≡◌, ℕ, true, false, List, ◌++◌, Some, sym, ap, ◌∙◌, subst, MatchOption, IsUtf8, chars, encode_utf8_all, encodes-chars, encodes-append, chars-append, has_scheme, Lacks, parts_of, Resolves, EndsInSlash, HasDirectory, HasPath, GrowsBy}
use Rattle.rdf_iri.proofs.PartsLemmas.{parts_split}
use Rattle.rdf_iri.proofs.Slices.{has_scheme-chars}
use Rattle.rdf_iri.proofs.ResolvedText.{chars-target, Resolves-target, target_text}
use Rattle.rdf_iri.proofs.DirectoryLemmas.{target-appended, HasDirectory-appended}

-- a reference that is a path has no scheme
no_scheme : (reference : List ℕ) → HasPath (parts_of reference) → has_scheme reference ≡ false
no_scheme reference h =
    subst (λ o. MatchOption o (has_scheme reference ≡ false) (λ s. (has_scheme reference ≡ true) × Lacks 58 s)) h.scheme (parts_split reference).scheme

-- the reference stands for the base with the reference after it
pub Resolves-grown : (iri bytes reference : List ℕ) → IsUtf8 bytes → chars bytes ≡ iri → IsUtf8 reference → GrowsBy (encode_utf8_all iri) reference →
    Resolves (Some iri) (chars reference) (iri ++ chars reference)
Resolves-grown iri bytes reference u e v g =
    let same : encode_utf8_all iri ≡ bytes = ap encode_utf8_all (sym e) ∙ encodes-chars bytes u in
    let here : GrowsBy bytes reference = subst (λ x. GrowsBy x reference) same g in
    let text : target_text (chars bytes) (chars reference) ≡ chars bytes ++ chars reference =
    sym (chars-target bytes reference u v) ∙ (ap chars (target-appended bytes reference here) ∙ chars-append bytes reference u) in
    let none : has_scheme (chars reference) ≡ false = sym (has_scheme-chars reference v) ∙ no_scheme reference g.1 in
    subst (λ x. Resolves (Some x) (chars reference) (x ++ chars reference)) e
    (subst (Resolves (Some (chars bytes)) (chars reference)) text (Resolves-target (chars bytes) (chars reference) none))

-- and by a path to a directory it comes to end in one
pub HasDirectory-grown : (iri reference : List ℕ) → IsUtf8 reference → GrowsBy (encode_utf8_all iri) reference → EndsInSlash reference →
    HasDirectory (parts_of (encode_utf8_all (iri ++ chars reference)))
HasDirectory-grown iri reference v g e =
    subst (λ x. HasDirectory (parts_of x)) (sym (encodes-append iri (chars reference) ∙ ap (λ x. encode_utf8_all iri ++ x) (encodes-chars reference v)))
    (HasDirectory-appended (encode_utf8_all iri) reference g e)

-- What is resolved over the bytes of texts is a text, and its characters are what is resolved over theirs.
use Rattle.rdf_iri.proofs.Prelude.{◌≡◌, ℕ, true, false, List, Some, refl, sym, ap, ◌∙◌, length, IsUtf8, chars, encode_utf8_all, encodes-chars, chars-encodes, scalars-chars, scalars, has, iri_char, IsIri, has_scheme, IsIriText, byte_len, parts_of, recompose, Resolves, target}
use lib.Utf8.{scalar}
use Rattle.rdf_iri.proofs.Slices.{scalars-all, scalar_marks}
use Rattle.rdf_iri.proofs.IriKept.{Delimits, target-good, target-has_scheme}
use Rattle.rdf_iri.proofs.ResolveLemmas.{based-holds}
use Rattle.rdf_iri.proofs.Encoded.{target-bytes}

-- the bytes of a text's characters
pub byte_len-chars : (w : List ℕ) → IsUtf8 w → byte_len (chars w) ≡ length w
byte_len-chars w u = ap length (encodes-chars w u)

-- the text of a reference without a scheme
abbrev pub target_text : List ℕ → List ℕ → List ℕ
target_text base reference = recompose (target (parts_of base) (parts_of reference))

-- a reference that is resolved over bytes gives the bytes of its result
over_bytes : (base reference : List ℕ) → IsUtf8 base → IsUtf8 reference →
    target_text base reference ≡ encode_utf8_all (target_text (chars base) (chars reference))
over_bytes base reference u v =
    ap (λ x. target_text x reference) (sym (encodes-chars base u))
    ∙ (ap (λ x. target_text (encode_utf8_all (chars base)) x) (sym (encodes-chars reference v)) ∙ target-bytes (chars base) (chars reference))

-- the result of a reference consists of characters
are_scalars : (base reference : List ℕ) → IsUtf8 base → IsUtf8 reference → scalars (target_text (chars base) (chars reference)) ≡ true
are_scalars base reference u v =
    scalars-all (target_text (chars base) (chars reference))
    ∙ target-good scalar scalar_marks (chars base) (chars reference)
    (sym (scalars-all (chars base)) ∙ scalars-chars base u) (sym (scalars-all (chars reference)) ∙ scalars-chars reference v)

-- the bytes that are resolved from two texts are UTF-8, so the code may take them as a str
pub IsUtf8-target : (base reference : List ℕ) → IsUtf8 base → IsUtf8 reference → IsUtf8 (target_text base reference)
IsUtf8-target base reference u v = (target_text (chars base) (chars reference), (are_scalars base reference u v, sym (over_bytes base reference u v)))

-- the characters of what is resolved over bytes are what is resolved over the characters
pub chars-target : (base reference : List ℕ) → IsUtf8 base → IsUtf8 reference → chars (target_text base reference) ≡ target_text (chars base) (chars reference)
chars-target base reference u v = ap chars (over_bytes base reference u v) ∙ chars-encodes _ (are_scalars base reference u v)

-- what is resolved against an IRI is one
iri_marks : Delimits (has iri_char)
unfolding has
iri_marks = record { slash = refl; colon = refl; question = refl; hash = refl }

-- an IRIREF resolved against an absolute IRI is an absolute IRI
pub IsIri-target : (base reference : List ℕ) → IsIri base → IsIriText reference → IsIri (target_text base reference)
IsIri-target base reference i t = record {
  characters = target-good (has iri_char) iri_marks base reference i.characters t;
  scheme = target-has_scheme base reference i.scheme;
}

-- a reference without a scheme resolves to what the code computes, by the relation
pub Resolves-target : (base reference : List ℕ) → has_scheme reference ≡ false → Resolves (Some base) reference (target_text base reference)
Resolves-target base reference n = based-holds (Some base) reference n

-- The characters of slices of a text, and of the parts that they are.
use Rattle.rdf_iri.proofs.Prelude.{◌≡◌, ℕ, true, List, [], ◌∷◌, ◌&&◌, Option, Some, None, refl, sym, ap, ◌∙◌, MatchOption, ⊤, is_some, IsUtf8, chars, encode_utf8_all, false≢true, encodes-chars, chars-encodes, scalars-chars, scalars, has_scheme, all_have, after, Parts, parts_of, part_chars, parts_chars}
use lib.Utf8.{scalar}
use Rattle.rdf_iri.proofs.TextsLemmas.{has_scheme-after}
use Rattle.rdf_iri.proofs.PartsLemmas.{parts_split}
use Rattle.rdf_iri.proofs.IriKept.{Delimits, GoodParts, parts-good}
use Rattle.rdf_iri.proofs.Encoded.{has_scheme-bytes, part_bytes, parts_bytes, parts_of-bytes}

-- a scheme is looked for in bytes as in characters
pub has_scheme-chars : (w : List ℕ) → IsUtf8 w → has_scheme w ≡ has_scheme (chars w)
has_scheme-chars w u = ap has_scheme (sym (encodes-chars w u)) ∙ has_scheme-bytes (chars w)

-- a text with a scheme has a ":"
pub no_rest : (w : List ℕ) → None ≡ after 58 w → has_scheme w ≡ true → ⊥
no_rest w e h = false≢true (ap is_some e ∙ has_scheme-after w h)

-- two ways to say that all are characters
pub scalars-all : (w : List ℕ) → scalars w ≡ all_have scalar w
scalars-all [] = refl
scalars-all (c ∷ w) = ap (λ b. scalar c && b) (scalars-all w)

-- the delimiters of a reference are characters
pub scalar_marks : Delimits scalar
scalar_marks = record { slash = refl; colon = refl; question = refl; hash = refl }

-- a text that is encoded has its characters
text-chars : (w : List ℕ) → all_have scalar w ≡ true → chars (encode_utf8_all w) ≡ w
text-chars w g = chars-encodes w (scalars-all w ∙ g)

-- a part that may be missing and is encoded has its characters
part-chars : (o : Option (List ℕ)) → MatchOption o ⊤ (λ w. all_have scalar w ≡ true) → part_chars (part_bytes o) ≡ o
part-chars None g = refl
part-chars (Some w) g = ap (λ x. Some x) (text-chars w g)

-- the characters of the bytes of parts
same_parts : (p : Parts) → GoodParts scalar scalar_marks p → parts_chars (parts_bytes p) ≡ p
same_parts p g =
    ap (λ x. record {
      scheme = x;
      authority = part_chars (part_bytes p.authority);
      path = chars (encode_utf8_all p.path);
      query = part_chars (part_bytes p.query);
      fragment = part_chars (part_bytes p.fragment);
    }) (part-chars p.scheme g.scheme)
    ∙ (ap (λ x. record {
      scheme = p.scheme;
      authority = x;
      path = chars (encode_utf8_all p.path);
      query = part_chars (part_bytes p.query);
      fragment = part_chars (part_bytes p.fragment);
    }) (part-chars p.authority g.authority)
    ∙ (ap (λ x. record {
      scheme = p.scheme;
      authority = p.authority;
      path = x;
      query = part_chars (part_bytes p.query);
      fragment = part_chars (part_bytes p.fragment);
    }) (text-chars p.path g.path)
    ∙ (ap (λ x. record {
      scheme = p.scheme;
      authority = p.authority;
      path = p.path;
      query = x;
      fragment = part_chars (part_bytes p.fragment);
    }) (part-chars p.query g.query)
    ∙ ap (λ x. record { scheme = p.scheme; authority = p.authority; path = p.path; query = p.query; fragment = x }) (part-chars p.fragment g.fragment))))

-- the parts cut from bytes are, as characters, the parts of the text
pub parts-chars : (w : List ℕ) → IsUtf8 w → parts_chars (parts_of w) ≡ parts_of (chars w)
parts-chars w u =
    let g = parts-good scalar scalar_marks (chars w) (parts_of (chars w)) (parts_split (chars w)).whole (sym (scalars-all (chars w)) ∙ scalars-chars w u) in
    ap (λ x. parts_chars (parts_of x)) (sym (encodes-chars w u)) ∙ (ap parts_chars (parts_of-bytes (chars w)) ∙ same_parts (parts_of (chars w)) g)

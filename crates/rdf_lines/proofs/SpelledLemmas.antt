-- What an IRIREF spells, and whether it is taken.
use Rattle.rdf_lines.proofs.Prelude.{◌≡◌, ℕ, ◌<◌, ◌≤◌, not, nat_lt, true, false, List, length, IsUtf8, arith, Some, ap, and_from, and_right, le-ltb, lt-ltb, cond-true, chars, RelativeIri, IriTooLong, has_scheme, IsIri, iri_value, byte_len, is_taken, iri_refused}
use Rattle.rdf_terms.proofs.ValuesLemmas.{iri_value_characters}
use Rattle.rdf_iri.proofs.ResolvedText.{byte_len-chars}

-- an IRIREF whose value has a scheme means an absolute IRI
pub is_iri : (w v : List ℕ) → iri_value w ≡ Some v → has_scheme v ≡ true → IsIri v
is_iri w v e s = record { characters = iri_value_characters w v e; scheme = s }

-- The bytes of a text are those of its characters, so its length decides whether an IRI is taken.
module _ (n : ℕ) (bytes : List ℕ) (utf8 : IsUtf8 bytes) (scheme : has_scheme (chars bytes) ≡ true) where
  -- the code compares bytes, the definition the bytes of characters: they are as many
  size : byte_len (chars bytes) ≡ length bytes
  size = byte_len-chars bytes utf8

  -- an IRI with a scheme within the limit is taken
  pub short_taken : length bytes ≤ n → is_taken n (chars bytes) ≡ true
  short_taken l = and_from (has_scheme (chars bytes)) (not (nat_lt n (byte_len (chars bytes)))) scheme
      (ap not (le-ltb n (byte_len (chars bytes)) (omega (arith, size))))

  -- one over it is refused, and for its length
  pub long_refused : n < length bytes → (is_taken n (chars bytes) ≡ false) × (iri_refused (chars bytes) ≡ IriTooLong)
  long_refused l = (
    and_right (has_scheme (chars bytes)) (not (nat_lt n (byte_len (chars bytes)))) (ap not (lt-ltb n (byte_len (chars bytes)) (omega (arith, size)))),
    cond-true (has_scheme (chars bytes)) IriTooLong RelativeIri scheme,
  )

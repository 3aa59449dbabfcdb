-- The known IRIs are IRIs.
use Rattle.rdf_terms.proofs.Prelude.{refl, has, IsIri}
use Rattle.rdf_terms.specs.Known.{known_chars}
use Rattle.rdf_terms.specs.declared.constants.Known.{Known}
use Rattle.rdf_terms.specs.declared.constants.Known.TheVariants.{RdfType, RdfFirst, RdfRest, RdfNil, XsdString, XsdInteger, XsdDecimal, XsdDouble, XsdBoolean}

-- each of them is an absolute IRI, so it may stand in a quad
pub IsIri-known_chars : (k : Known) → IsIri (known_chars k)
unfolding known_chars has
IsIri-known_chars RdfType = record { characters = refl; scheme = refl }
IsIri-known_chars RdfFirst = record { characters = refl; scheme = refl }
IsIri-known_chars RdfRest = record { characters = refl; scheme = refl }
IsIri-known_chars RdfNil = record { characters = refl; scheme = refl }
IsIri-known_chars XsdString = record { characters = refl; scheme = refl }
IsIri-known_chars XsdInteger = record { characters = refl; scheme = refl }
IsIri-known_chars XsdDecimal = record { characters = refl; scheme = refl }
IsIri-known_chars XsdDouble = record { characters = refl; scheme = refl }
IsIri-known_chars XsdBoolean = record { characters = refl; scheme = refl }

-- The IRIs that a document may mean without spelling them.
use Rattle.std.specs.Prelude.{ℕ, List, codes}
use Rattle.rdf_terms.specs.declared.constants.Known.{Known}
use Rattle.rdf_terms.specs.declared.constants.Known.TheVariants.{RdfType, RdfFirst, RdfRest, RdfNil, XsdString, XsdInteger, XsdDecimal, XsdDouble, XsdBoolean}

-- rdf:type for `a`; rdf:first, rdf:rest and rdf:nil for collections; datatypes of plain strings, numbers and booleans (Turtle 2.4, 2.5, 2.8)
unfoldable pub known_chars : Known → List ℕ
known_chars RdfType = codes "http://www.w3.org/1999/02/22-rdf-syntax-ns#type"
known_chars RdfFirst = codes "http://www.w3.org/1999/02/22-rdf-syntax-ns#first"
known_chars RdfRest = codes "http://www.w3.org/1999/02/22-rdf-syntax-ns#rest"
known_chars RdfNil = codes "http://www.w3.org/1999/02/22-rdf-syntax-ns#nil"
known_chars XsdString = codes "http://www.w3.org/2001/XMLSchema#string"
known_chars XsdInteger = codes "http://www.w3.org/2001/XMLSchema#integer"
known_chars XsdDecimal = codes "http://www.w3.org/2001/XMLSchema#decimal"
known_chars XsdDouble = codes "http://www.w3.org/2001/XMLSchema#double"
known_chars XsdBoolean = codes "http://www.w3.org/2001/XMLSchema#boolean"

-- Each constant is spelled as the definition spells it.
use Rattle.rdf_terms.proofs.Prelude.{refl, chars}
use Rattle.rdf_terms.specs.Known.{known_chars}
use Rattle.rdf_terms.proofs.spelled.text.Goals as goal

pub returns-in-RdfType : goal.returns-in-RdfType
unfolding chars known_chars
returns-in-RdfType c = rw c.in-RdfType.is refl

pub returns-in-RdfFirst : goal.returns-in-RdfFirst
unfolding chars known_chars
returns-in-RdfFirst c = rw c.in-RdfFirst.is refl

pub returns-in-RdfRest : goal.returns-in-RdfRest
unfolding chars known_chars
returns-in-RdfRest c = rw c.in-RdfRest.is refl

pub returns-in-RdfNil : goal.returns-in-RdfNil
unfolding chars known_chars
returns-in-RdfNil c = rw c.in-RdfNil.is refl

pub returns-in-XsdString : goal.returns-in-XsdString
unfolding chars known_chars
returns-in-XsdString c = rw c.in-XsdString.is refl

pub returns-in-XsdInteger : goal.returns-in-XsdInteger
unfolding chars known_chars
returns-in-XsdInteger c = rw c.in-XsdInteger.is refl

pub returns-in-XsdDecimal : goal.returns-in-XsdDecimal
unfolding chars known_chars
returns-in-XsdDecimal c = rw c.in-XsdDecimal.is refl

pub returns-in-XsdDouble : goal.returns-in-XsdDouble
unfolding chars known_chars
returns-in-XsdDouble c = rw c.in-XsdDouble.is refl

pub returns-in-XsdBoolean : goal.returns-in-XsdBoolean
unfolding chars known_chars
returns-in-XsdBoolean c = rw c.in-XsdBoolean.is refl

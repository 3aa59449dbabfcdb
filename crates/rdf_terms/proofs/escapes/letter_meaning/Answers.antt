use Rattle.rdf_terms.proofs.CodeTables.{letter_told}
use Rattle.rdf_terms.proofs.escapes.letter_meaning.Goals as goal

pub returns-else-meaning-eq0-clause-is : goal.returns-else-meaning-eq0-clause-is
returns-else-meaning-eq0-clause-is c = letter_told c.args.letter c.ranges.letter.fits c.if-meaning-eq0.false

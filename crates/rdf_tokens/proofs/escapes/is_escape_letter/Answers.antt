use Rattle.rdf_tokens.proofs.Prelude.{◌∙◌}
use Rattle.rdf_tokens.proofs.FitEscapes.{letter_tells}
use Rattle.rdf_tokens.proofs.escapes.is_escape_letter.Goals as goal

pub returns : goal.returns
returns c = c.is_some.ensures ∙ letter_tells c.args.byte c.letter_meaning.result c.ranges.byte.fits c.letter_meaning.ensures.is

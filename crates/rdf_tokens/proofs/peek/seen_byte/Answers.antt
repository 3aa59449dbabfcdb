-- The byte is the token.
use Rattle.rdf_tokens.proofs.Prelude.{refl, Turtle}
use Rattle.rdf_tokens.proofs.QuickLemmas.{quick_single}
use Rattle.rdf_tokens.proofs.peek.seen_byte.Goals as goal

pub returns : goal.returns
returns c = (refl, quick_single Turtle c.args.text.now c.args.kind c.utf8.text c.requires.some c.requires.single, tt)

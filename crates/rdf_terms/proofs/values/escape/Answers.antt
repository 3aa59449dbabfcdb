-- Another end of a run than a backslash may not stand there.
use Rattle.rdf_terms.proofs.Prelude.{inside_of}
use Rattle.rdf_terms.proofs.EscapesLemmas.{stop_fails}
use Rattle.rdf_terms.proofs.values.escape.Goals as goal

pub returns-then-text-at-ne92-clause-read : goal.returns-then-text-at-ne92-clause-read
returns-then-text-at-ne92-clause-read c =
    stop_fails (inside_of c.args.inside) c.args.text.now c.args.at c.requires.within c.requires.utf8 c.requires.stopped c.if-text-at-ne92.true

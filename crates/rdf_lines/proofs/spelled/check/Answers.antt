use Rattle.rdf_lines.proofs.Prelude.{sym, ◌∙◌, arith}
use Rattle.rdf_iri.proofs.ResolvedText.{byte_len-chars}
use Rattle.rdf_lines.proofs.SpelledLemmas.{short_taken, long_refused}
use Rattle.rdf_lines.proofs.spelled.check.Goals as goal

pub returns-then-iri-limit-clause-err : goal.returns-then-iri-limit-clause-err
returns-then-iri-limit-clause-err c =
    long_refused c.args.limit c.args.iri.now c.utf8.iri (sym c.has_scheme.ensures ∙ c.if-not-has_scheme.false) (omega (arith, c.if-iri-limit.true))

pub returns-else-iri-limit-clause-taken : goal.returns-else-iri-limit-clause-taken
returns-else-iri-limit-clause-taken c =
    short_taken c.args.limit c.args.iri.now c.utf8.iri (sym c.has_scheme.ensures ∙ c.if-not-has_scheme.false) (omega (arith, c.if-iri-limit.false))

pub returns-else-iri-limit-clause-short : goal.returns-else-iri-limit-clause-short
returns-else-iri-limit-clause-short c = let size = byte_len-chars c.args.iri.now c.utf8.iri in omega (arith, size, c.if-iri-limit.false)

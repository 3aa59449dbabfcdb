use Rattle.rdf_terms.proofs.Prelude.{sym, subst, IsIri}
use Rattle.rdf_terms.proofs.KnownLemmas.{IsIri-known_chars}
use Rattle.rdf_terms.proofs.spelled.known.Goals as goal

pub new-requires : goal.new-requires
new-requires c = subst IsIri (sym c.text.ensures) (IsIri-known_chars c.args.known)

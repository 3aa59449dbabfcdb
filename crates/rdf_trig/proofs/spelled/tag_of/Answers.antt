use Rattle.rdf_trig.proofs.Prelude.{subst, sym, IsTag}
use Rattle.rdf_trig.proofs.code.SpelledLemmas.{token_tag}
use Rattle.rdf_trig.proofs.spelled.tag_of.Goals as goal

pub returns-clause-is_tag : goal.returns-clause-is_tag
returns-clause-is_tag c = subst IsTag (sym c.without_first.ensures) (token_tag c.args.token.now c.requires.tag c.requires.token)

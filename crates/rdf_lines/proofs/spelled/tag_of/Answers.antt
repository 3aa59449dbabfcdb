use Rattle.rdf_lines.proofs.Prelude.{subst, sym, chars, IsTag, Lines, tag_in}
use Rattle.rdf_lines.proofs.HeldLemmas.{rest_bytes}
use Rattle.rdf_lines.proofs.spelled.tag_of.Goals as goal

pub returns-clause-is_tag : goal.returns-clause-is_tag
returns-clause-is_tag c = subst IsTag (sym c.without_first.ensures) (tag_in Lines _ c.requires)

pub returns-clause-short : goal.returns-clause-short
returns-clause-short c = rest_bytes 1 (chars c.args.text.now) _ c.without_first.ensures

use Rattle.rdf_lines.proofs.Prelude.{◌≡◌, ◌+◌, ◌≤◌, subst, unread_bytes, all_bytes, line_words}
use Rattle.rdf_driver.specs.Readers as R
use Rattle.rdf_lines.proofs.reader.LineReader.held.Goals as goal

pub returns-clause-sum : goal.returns-clause-sum
returns-clause-sum g c = subst (λ r. c.held.result ≡ unread_bytes r.scanner + r.grammar.held) c.self.view_is c.held.ensures.sum

pub returns-clause-all : goal.returns-clause-all
returns-clause-all g c = subst (λ r. all_bytes r ≤ R.most_held line_words r) c.self.view_is c.held.ensures.all

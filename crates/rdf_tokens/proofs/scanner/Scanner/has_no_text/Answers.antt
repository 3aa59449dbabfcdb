use Rattle.rdf_tokens.proofs.Prelude.{sym, ap, ◌∙◌, is_empty}
use Rattle.rdf_tokens.proofs.CutLemmas.{chars-empty}
use Rattle.rdf_tokens.proofs.scanner.Scanner.has_no_text.Goals as goal

pub returns : goal.returns
returns g c = c.is_empty.ensures ∙ (sym (chars-empty c.rest.result.now c.rest.utf8) ∙ ap is_empty c.rest.ensures)

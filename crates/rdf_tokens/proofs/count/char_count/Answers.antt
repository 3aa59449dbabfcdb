use Rattle.rdf_tokens.proofs.Prelude.{◌∙◌, ap, count_by, is_start}
use Rattle.rdf_tokens.proofs.CountLemmas.{starts-chars}
use Rattle.rdf_tokens.proofs.count.char_count.Goals as goal

pub returns : goal.returns
returns c = c.start_count.ensures ∙ (ap (count_by is_start) c.as_bytes.ensures.value ∙ starts-chars c.args.text.now c.utf8.text)

use Rattle.rdf_tokens.proofs.BlankRuns.{no_line_end}
use Rattle.rdf_tokens.proofs.blank.has_no_line_end.Goals as goal

pub returns : goal.returns
returns c = no_line_end c.args.bytes.now c.memchr2.result c.is_none.result c.memchr2.ensures c.is_none.ensures

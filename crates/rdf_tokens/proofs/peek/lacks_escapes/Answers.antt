-- No backslash stands between the colon and the end.
use Rattle.rdf_tokens.proofs.Prelude.{◌∙◌, sym}
use Rattle.rdf_tokens.proofs.PeekLemmas.{known_past}
use Rattle.rdf_tokens.proofs.peek.lacks_escapes.Goals as goal

pub returns-then-len-bytes : goal.returns-then-len-bytes
returns-then-len-bytes c = λ h.
    known_past c.args.bytes.now c.args.colon c.args.len c.if-colon-len.true c.if-len-bytes.true c.requires.colon c.requires.before (sym c.is_run.ensures ∙ h)

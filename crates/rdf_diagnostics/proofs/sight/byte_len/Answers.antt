use Rattle.rdf_diagnostics.proofs.Prelude.{ap, sym, encodes-chars, length}
use Rattle.rdf_diagnostics.proofs.sight.byte_len.Goals as goal

pub returns : goal.returns
returns c = sym (ap length (encodes-chars c.args.text.now c.utf8.text))

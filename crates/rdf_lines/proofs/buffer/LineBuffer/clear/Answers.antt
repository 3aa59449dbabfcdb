-- No byte is left, whether memory is given back or not.
use Rattle.rdf_lines.proofs.Prelude.{refl}
use Rattle.rdf_lines.proofs.buffer.LineBuffer.clear.Goals as goal

pub returns-then-len-gt-LONG_LEN : goal.returns-then-len-gt-LONG_LEN
returns-then-len-gt-LONG_LEN g c = refl

pub returns-else-len-gt-LONG_LEN : goal.returns-else-len-gt-LONG_LEN
returns-else-len-gt-LONG_LEN g c = refl

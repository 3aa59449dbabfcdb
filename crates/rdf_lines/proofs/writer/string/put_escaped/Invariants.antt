use Rattle.rdf_lines.proofs.Prelude.{◌≡◌, ◌++◌, length, BeginsWith, escaped_bytes}
use denote.Text.{Utf8}
use denote.Shadow.{shadow}
use Rattle.rdf_lines.proofs.writer.string.put_escaped.Given as goal

abbrev pub invariant-loop-rest : goal.invariant-loop-rest
invariant-loop-rest g l =
    shadow (Utf8 l.rest)
    × (l.out.items ++ escaped_bytes l.escapes l.rest ≡ l.initial.out.items ++ escaped_bytes l.escapes l.text)
    × BeginsWith l.initial.out.items l.out.items

abbrev pub decreases-loop-rest : goal.decreases-loop-rest
decreases-loop-rest g l = length l.rest

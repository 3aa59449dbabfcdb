-- The bytes of all texts that a reader of Turtle or TriG holds.
use Rattle.std.specs.Prelude.{ℕ, ◌+◌}
use Rattle.rdf_trig.specs.Accepting.{TrigRead}

-- those of its scanner, with what was read and is still held, and of its grammar
abbrev pub all_bytes : TrigRead → ℕ
all_bytes r = r.scanner.held + r.grammar.held

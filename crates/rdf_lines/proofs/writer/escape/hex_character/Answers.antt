use Rattle.rdf_lines.proofs.Prelude.{◌≡◌, ℕ, ◌+◌, ◌-◌, ◌≤◌, ◌/◌, ◌%◌, arith, nat_tests, hex_character}
use Rattle.rdf_lines.proofs.writer.escape.hex_character.Goals as goal

-- a digit from 10 on is a letter
letter : (d : ℕ) → 10 ≤ d → 65 + (d - 10) ≡ hex_character d
letter d l = grind (arith, nat_tests)

pub returns-else-digit-lt10 : goal.returns-else-digit-lt10
returns-else-digit-lt10 c = letter (c.args.n / c.args.place % 16) c.if-digit-lt10.false

-- The tokens so far are noted.
use Rattle.rdf_stream.proofs.Prelude.{◌≡◌, ℕ, List, Dialect, left, HasNoted}
use Rattle.rdf_stream.proofs.brackets.Brackets.pass_tokens.Given as goal

abbrev pub invariant-tokens : goal.invariant-tokens
invariant-tokens g l = record {
  noted : (d : Dialect) (limit : ℕ) (bytes : List ℕ) → HasNoted l.initial.self d limit bytes → HasNoted l.self d limit bytes;
  ended : l.self.scanner.ended ≡ l.initial.self.scanner.ended;
}

abbrev pub decreases-tokens : goal.decreases-tokens
decreases-tokens g l = left l.self.scanner

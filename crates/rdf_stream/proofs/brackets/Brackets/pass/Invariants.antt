-- What was taken of the piece is noted, and its tokens were given.
use Rattle.rdf_stream.proofs.Prelude.{◌≡◌, ◌++◌, ℕ, List, length, Dialect, IsWaiting, HasNoted}
use Rattle.rdf_stream.proofs.brackets.Brackets.pass.Given as goal

abbrev pub invariant-parts : goal.invariant-parts
invariant-parts g l = record {
  noted : (front : List ℕ) × (l.fn.piece ≡ front ++ l.rest)
      × ((d : Dialect) (limit : ℕ) (bytes : List ℕ) → HasNoted l.initial.self d limit bytes → HasNoted l.self d limit (bytes ++ front));
  waiting : IsWaiting l.self.scanner;
}

abbrev pub decreases-parts : goal.decreases-parts
decreases-parts g l = length l.rest

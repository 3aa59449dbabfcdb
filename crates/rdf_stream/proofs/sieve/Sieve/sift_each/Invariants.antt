use Rattle.rdf_stream.proofs.Prelude.{◌≡◌, ◌++◌, List, ℕ, length, split_lines, HasRoom, HasSifted, place_past, start_of}
use Rattle.rdf_stream.proofs.sieve.Sieve.sift_each.Given as goal

abbrev pub invariant-loop-rest : goal.invariant-loop-rest
invariant-loop-rest g l =
    (done : List (List ℕ)) × (split_lines l.block ≡ done ++ split_lines l.rest) × (start_of l.at ≡ place_past (start_of l.fn.start) done) × HasRoom l.at l.rest
    × HasSifted g.D.Drain g.B.Drain (start_of l.fn.start) l.initial.self l.initial.drain l.initial.bad done l.self l.drain l.bad

abbrev pub decreases-loop-rest : goal.decreases-loop-rest
decreases-loop-rest g l = length l.rest

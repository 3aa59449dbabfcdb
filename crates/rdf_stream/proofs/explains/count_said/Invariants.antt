use Rattle.rdf_stream.proofs.Prelude.{◌≡◌, ◌≤◌, ◌+◌, drop, length, only_said, texts_of}
use Rattle.rdf_stream.proofs.explains.count_said.Given as goal

abbrev pub invariant-loop-word : goal.invariant-loop-word
invariant-loop-word l =
    (l.count + length (only_said (texts_of (drop l.word-index l.words))) ≡ length (only_said (texts_of l.words))) × (l.count ≤ l.word-index)

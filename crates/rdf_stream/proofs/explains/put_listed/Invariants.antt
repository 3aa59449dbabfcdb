-- With the words that are left the line has all.
use Rattle.rdf_stream.proofs.Prelude.{◌≡◌, ◌++◌, drop, length, listed, only_said, texts_of}
use Rattle.rdf_stream.proofs.explains.put_listed.Given as goal

abbrev pub invariant-loop-word : goal.invariant-loop-word
invariant-loop-word g l =
    (l.line.items ++ listed (only_said (texts_of (drop l.word-index l.words))) ≡ l.initial.line.items ++ listed (only_said (texts_of l.words)))
    × (l.left ≡ length (only_said (texts_of (drop l.word-index l.words))))

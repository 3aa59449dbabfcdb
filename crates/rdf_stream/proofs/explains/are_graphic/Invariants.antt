-- Those that are left pass exactly where all do.
use Rattle.rdf_stream.proofs.Prelude.{◌≡◌, drop, list_all, is_graphic}
use Rattle.rdf_stream.proofs.explains.are_graphic.Given as goal

abbrev pub invariant-loop-byte : goal.invariant-loop-byte
invariant-loop-byte l = list_all is_graphic (drop l.byte-index l.bytes) ≡ list_all is_graphic l.bytes

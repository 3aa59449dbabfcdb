-- The bytes so far stand behind the text.
use Rattle.rdf_command.proofs.Prelude.{◌≡◌, ◌++◌, string_bytes, take}
use Rattle.std.specs.Prelude.{flat_map}
use Rattle.rdf_command.specs.Addresses.{in_address}
use Rattle.rdf_command.proofs.addresses.put_path.Given as goal

abbrev pub invariant-loop-byte : goal.invariant-loop-byte
invariant-loop-byte l = string_bytes l.text ≡ string_bytes l.fn.text ++ flat_map in_address (take l.byte-index l.bytes)

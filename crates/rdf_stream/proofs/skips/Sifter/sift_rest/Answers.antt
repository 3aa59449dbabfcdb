use Rattle.rdf_stream.proofs.Prelude.{subst, sym, HasRoom}
use Rattle.rdf_stream.proofs.skips.Sifter.sift_rest.Goals as goal

pub sift-requires-clause-room : goal.sift-requires-clause-room
sift-requires-clause-room g c = subst (HasRoom c.args.start) (sym c.as_slice.ensures.value) c.requires.room

use Rattle.rdf_trig.proofs.Prelude.{subst, IsUtf8, IsCharBoundary-start}
use Rattle.rdf_trig.proofs.emptied.clear_text.Goals as goal

pub truncate-requires : goal.truncate-requires
truncate-requires g c = IsCharBoundary-start _ (subst IsUtf8 c.as_bytes.ensures.bytes c.as_bytes.ensures.utf8)

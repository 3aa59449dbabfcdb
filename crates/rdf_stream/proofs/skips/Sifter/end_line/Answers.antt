use Rattle.rdf_stream.proofs.Prelude.{[], refl, subst, sym, ◌∙◌, HasRoom}
use Rattle.rdf_stream.proofs.SieveLemmas.{sifted_none}
use Rattle.rdf_stream.proofs.skips.Sifter.end_line.Goals as goal

pub returns-in-Err-clause-fails : goal.returns-in-Err-clause-fails
returns-in-Err-clause-fails g c = ([], _, refl, sifted_none g.D.Drain g.B.Drain _ _ _ _ c.requires.live c.requires.bad_live)

pub sift-requires-clause-room : goal.sift-requires-clause-room
sift-requires-clause-room g c = subst (HasRoom c.args.start) (sym (c.as_slice-line.ensures.value ∙ c.in-Ok.ensures.items)) c.requires.room

pub past-next-requires : goal.past-next-requires
past-next-requires g c = record { room = subst (HasRoom c.args.start) (sym (c.as_slice-line.ensures.value ∙ c.in-Ok.ensures.items)) c.requires.room }

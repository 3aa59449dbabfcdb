use Rattle.rdf_stream.proofs.SieveLemmas.{block_fails, block_good}
use Rattle.rdf_stream.proofs.sieve.Sieve.sift_group.Goals as goal

pub returns-in-Ok-None-clause-sifted : goal.returns-in-Ok-None-clause-sifted
returns-in-Ok-None-clause-sifted g c =
    block_good g.D.Drain g.B.Drain _ _ _ _ _ _ _ c.requires.some c.requires.bad_live (c.in-Ok-None.ensures.good c.in-Ok-None.field-0-is)

pub returns-in-Err-clause-fails : goal.returns-in-Err-clause-fails
returns-in-Err-clause-fails g c = block_fails g.D.Drain g.B.Drain _ c.in-Err.fault _ _ _ _ _ _ c.requires.live c.requires.bad_live c.in-Err.ensures.fails

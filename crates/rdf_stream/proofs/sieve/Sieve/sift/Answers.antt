use Rattle.rdf_stream.proofs.Prelude.{length, sym, ◌∙◌, eqb-true}
use Rattle.rdf_stream.proofs.SieveLemmas.{block_fails, block_good, empty_sifted, some_bytes}
use Rattle.rdf_stream.proofs.sieve.Sieve.sift.Goals as goal

pub returns-then-is_empty-clause-sifted : goal.returns-then-is_empty-clause-sifted
returns-then-is_empty-clause-sifted g c =
    empty_sifted g.D.Drain g.B.Drain _ _ _ _ c.args.block.now
    (eqb-true (length c.args.block.now) 0 (sym c.is_empty.ensures ∙ c.if-is_empty.true)) c.requires.live c.requires.bad_live

pub returns-in-Ok-None-clause-sifted : goal.returns-in-Ok-None-clause-sifted
returns-in-Ok-None-clause-sifted g c =
    block_good g.D.Drain g.B.Drain _ _ _ _ _ _ _ (some_bytes c.args.block.now (sym c.is_empty.ensures ∙ c.if-is_empty.false))
    c.requires.bad_live (c.in-Ok-None.ensures.good c.in-Ok-None.field-0-is)

pub returns-in-Err-clause-fails : goal.returns-in-Err-clause-fails
returns-in-Err-clause-fails g c = block_fails g.D.Drain g.B.Drain _ c.in-Err.fault _ _ _ _ _ _ c.requires.live c.requires.bad_live c.in-Err.ensures.fails

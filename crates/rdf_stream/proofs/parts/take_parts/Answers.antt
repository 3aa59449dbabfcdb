use Rattle.rdf_stream.proofs.Prelude.{refl}
use Rattle.rdf_stream.proofs.PartsLemmas.{begun_on, halts_in}
use Rattle.rdf_stream.proofs.parts.take_parts.Goals as goal

pub take_rest-requires-clause-begun : goal.take_rest-requires-clause-begun
take_rest-requires-clause-begun g c = begun_on g.R.Parts.taken _ _ _ c.requires.begun c.in-Ok.ensures.takes

pub returns-in-Err-clause-halts : goal.returns-in-Err-clause-halts
returns-in-Err-clause-halts g c = halts_in g.R.Parts.taken g.R.Parts.halts _ _ _ _ c.args.piece.now _ refl c.in-Err.ensures.halts

pub returns-in-Ok-clause-stays : goal.returns-in-Ok-clause-stays
returns-in-Ok-clause-stays g c = λ first s. c.take_rest.ensures.stays first (c.in-Ok.ensures.stays first s)

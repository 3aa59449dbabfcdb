use Rattle.rdf_stream.proofs.Prelude.{[], false, true}
use Rattle.rdf_stream.proofs.PiecesLemmas.{if_err, whole_stops}
use Rattle.rdf_stream.proofs.pieces.read_bytes.Goals as goal

pub end-requires : goal.end-requires
end-requires g c = record { begun = ((c.args.run.now, c.args.out.now), c.args.bytes.now, c.in-Ok.ensures.takes _ [] c.requires.begun) }

pub returns-in-Ok-clause-stops : goal.returns-in-Ok-clause-stops
returns-in-Ok-clause-stops g c =
    if_err c.end.result _ _
    (λ f h. (
      true,
      whole_stops g.R.Run.taken g.R.Run.halts f c.args.bytes.now true (c.args.run.now, c.args.out.now) _
          (h (c.args.run.now, c.args.out.now) c.args.bytes.now (c.in-Ok.ensures.takes _ [] c.requires.begun)),
    ))
    c.end.ensures.halts

pub returns-in-Err-clause-stops : goal.returns-in-Err-clause-stops
returns-in-Err-clause-stops g c = (
  false,
  whole_stops g.R.Run.taken g.R.Run.halts c.in-Err.fault c.args.bytes.now false (c.args.run.now, c.args.out.now) _
      (c.in-Err.ensures.halts (c.args.run.now, c.args.out.now) [] c.requires.begun),
)

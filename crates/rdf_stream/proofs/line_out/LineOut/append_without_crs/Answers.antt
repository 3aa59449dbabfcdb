use Rattle.rdf_stream.proofs.Prelude.{without_crs}
use Rattle.rdf_stream.proofs.LineOutLemmas.{put_left, waits_same}
use Rattle.rdf_stream.proofs.line_out.LineOut.append_without_crs.Goals as goal

pub returns-in-Err-clause-halts : goal.returns-in-Err-clause-halts
returns-in-Err-clause-halts g c =
    put_left g.D.Drain.contents g.D.Drain.has_failed c.args.self.now _ c.handed_over.new.lines (without_crs c.args.lines.now)
    (waits_same _ _ _ c.in-Err.ensures.unchanged) c.handed_over.result c.handed_over.ensures.halts

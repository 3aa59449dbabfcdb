use Rattle.rdf_stream.proofs.Prelude.{rules}
use Rattle.rdf_stream.proofs.LineOutLemmas.{all_taken, front_before, front_taken}
use Rattle.rdf_stream.proofs.line_out.LineOut.append_as_is.Goals as goal

pub returns-in-Err-clause-halts : goal.returns-in-Err-clause-halts
returns-in-Err-clause-halts g c = let r = front_before _ _ _ c.args.lines.now c.in-Err.ensures.err in (search rules, r.0, r.1)

pub returns-in-Ok-put_all-clause-writes : goal.returns-in-Ok-put_all-clause-writes
returns-in-Ok-put_all-clause-writes g c = all_taken _ _ _ _ _ _ c.in-Ok.ensures.ok c.in-Ok-put_all.ensures.ok c.in-Ok.ensures.empty

pub returns-in-Err-put_all-clause-halts : goal.returns-in-Err-put_all-clause-halts
returns-in-Err-put_all-clause-halts g c = let r = front_taken _ _ _ _ c.args.lines.now c.in-Ok.ensures.ok c.in-Err-put_all.ensures.err in
    (search rules, r.0, r.1)

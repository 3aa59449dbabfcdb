-- In each turn lines that stand as they are written are passed, and then lines with any escapes.
use Rattle.rdf_stream.proofs.Prelude.{◌+◌}
use Rattle.rdf_stream.proofs.PartsLemmas.{begun_on, halts_at, passes_on}
use Rattle.rdf_stream.proofs.parts.pass_some.Goals as goal

pub pass_front-requires-clause-begun : goal.pass_front-requires-clause-begun
pass_front-requires-clause-begun g c = begun_on g.R.Parts.taken _ _ _ c.requires.begun c.turns.invariant.takes

pub returns-in-Err-clause-halts : goal.returns-in-Err-clause-halts
returns-in-Err-clause-halts g c =
    halts_at g.R.Parts.taken g.R.Parts.halts _ _ _ _ c.args.text.now _ c.turns.at c.turns.invariant.takes c.text_from.ensures c.in-Err.ensures.halts

pub returns-then-tries-eq0-clause-takes : goal.returns-then-tries-eq0-clause-takes
returns-then-tries-eq0-clause-takes g c =
    (passes_on g.R.Parts.taken g.R.Parts.stays _ _ _ c.args.text.now _ c.turns.at c.in-Ok.passed c.turns.invariant
    c.text_from.ensures c.in-Ok.ensures.within c.in-Ok.ensures.takes c.in-Ok.ensures.stays).takes

pub pass_escaped-requires : goal.pass_escaped-requires
pass_escaped-requires g c =
    record { begun = begun_on g.R.Parts.taken _ _ _ (begun_on g.R.Parts.taken _ _ _ c.requires.begun c.turns.invariant.takes) c.in-Ok.ensures.takes }

pub returns-in-Err-pass_escaped-clause-halts : goal.returns-in-Err-pass_escaped-clause-halts
returns-in-Err-pass_escaped-clause-halts g c =
    let i = passes_on g.R.Parts.taken g.R.Parts.stays _ _ _ c.args.text.now _ c.turns.at c.in-Ok.passed c.turns.invariant
    c.text_from.ensures c.in-Ok.ensures.within c.in-Ok.ensures.takes c.in-Ok.ensures.stays in
    halts_at g.R.Parts.taken g.R.Parts.halts _ _ _ _ c.args.text.now _
    (c.turns.at + c.in-Ok.passed) i.takes c.text_from-in-turns.ensures c.in-Err-pass_escaped.ensures.halts

pub returns-then-more-eq0-clause-takes : goal.returns-then-more-eq0-clause-takes
returns-then-more-eq0-clause-takes g c =
    let i = passes_on g.R.Parts.taken g.R.Parts.stays _ _ _ c.args.text.now _ c.turns.at c.in-Ok.passed c.turns.invariant
    c.text_from.ensures c.in-Ok.ensures.within c.in-Ok.ensures.takes c.in-Ok.ensures.stays in
    (passes_on g.R.Parts.taken g.R.Parts.stays _ _ _ c.args.text.now _ (c.turns.at + c.in-Ok.passed) c.in-Ok-pass_escaped.more i
    c.text_from-in-turns.ensures c.in-Ok-pass_escaped.ensures.within c.in-Ok-pass_escaped.ensures.takes c.in-Ok-pass_escaped.ensures.stays).takes

pub turns-preserved : goal.turns-preserved
turns-preserved g c =
    let i = passes_on g.R.Parts.taken g.R.Parts.stays _ _ _ c.args.text.now _ c.turns.at c.in-Ok.passed c.turns.invariant
    c.text_from.ensures c.in-Ok.ensures.within c.in-Ok.ensures.takes c.in-Ok.ensures.stays in
    passes_on g.R.Parts.taken g.R.Parts.stays _ _ _ c.args.text.now _ (c.turns.at + c.in-Ok.passed) c.in-Ok-pass_escaped.more i
    c.text_from-in-turns.ensures c.in-Ok-pass_escaped.ensures.within c.in-Ok-pass_escaped.ensures.takes c.in-Ok-pass_escaped.ensures.stays

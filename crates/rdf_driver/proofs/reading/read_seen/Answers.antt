-- The loop over the tokens that can be seen: each was accepted.
use Rattle.rdf_driver.proofs.Prelude.{moment_of}
use Rattle.rdf_driver.proofs.ReadingLemmas.{fails_both, runs_after, runs_none}
use Rattle.rdf_driver.proofs.reading.read_seen.Goals as goal

pub seen-init : goal.seen-init
seen-init g c =
    runs_none g.G.Grammar.words g.G.Accepts.takes g.G.Accepts.has_failed (moment_of c.args.progress.now c.args.sink.now) c.requires.ready c.requires.live

-- a frequent token was not accepted
pub returns-in-Err-clause-reads : goal.returns-in-Err-clause-reads
returns-in-Err-clause-reads g c =
    let first = moment_of c.args.progress.now c.args.sink.now in
    let now = moment_of c.seen.progress c.seen.sink in
    let new = c.read_near.new in
    fails_both g.G.Grammar.words g.G.Accepts.takes g.G.Accepts.leaves g.G.Accepts.has_failed c.in-Err.reason _ _ first now
    new.progress.scanner new.progress.grammar
    new.sink c.seen.invariant c.in-Err.ensures.reads

pub returns-in-Ok-false-clause-reads : goal.returns-in-Ok-false-clause-reads
returns-in-Ok-false-clause-reads g c =
    let first = moment_of c.args.progress.now c.args.sink.now in
    let now = moment_of c.seen.progress c.seen.sink in
    let near = moment_of c.read_near.new.progress c.read_near.new.sink in
    let e = c.in-Ok-false.ensures in
    (runs_after g.G.Grammar.words g.G.Accepts.takes g.G.Accepts.has_failed first now near c.seen.invariant e.reads e.limits e.live).reads

-- a token that takes the longer look was not accepted
pub returns-in-Err-read_far-clause-reads : goal.returns-in-Err-read_far-clause-reads
returns-in-Err-read_far-clause-reads g c =
    let words = g.G.Grammar.words in
    let takes = g.G.Accepts.takes in
    let failed = g.G.Accepts.has_failed in
    let first = moment_of c.args.progress.now c.args.sink.now in
    let now = moment_of c.seen.progress c.seen.sink in
    let near = moment_of c.read_near.new.progress c.read_near.new.sink in
    let new = c.read_far.new in
    let e = c.in-Ok-true.ensures in
    fails_both words takes g.G.Accepts.leaves failed c.in-Err-read_far.reason _ _ first near new.progress.scanner new.progress.grammar new.sink
    (runs_after words takes failed first now near c.seen.invariant e.reads e.limits e.live) c.in-Err-read_far.ensures.reads

-- it was, or was not seen
pub seen-preserved : goal.seen-preserved
seen-preserved g c =
    let words = g.G.Grammar.words in
    let takes = g.G.Accepts.takes in
    let failed = g.G.Accepts.has_failed in
    let first = moment_of c.args.progress.now c.args.sink.now in
    let now = moment_of c.seen.progress c.seen.sink in
    let near = moment_of c.read_near.new.progress c.read_near.new.sink in
    let next = moment_of c.read_far.new.progress c.read_far.new.sink in
    let e = c.in-Ok-true.ensures in
    let f = c.in-Ok-true-read_far.ensures in
    runs_after words takes failed first near next (runs_after words takes failed first now near c.seen.invariant e.reads e.limits e.live)
    f.reads f.limits f.live

pub returns-in-Ok-false-read_far-clause-reads : goal.returns-in-Ok-false-read_far-clause-reads
returns-in-Ok-false-read_far-clause-reads g c =
    let words = g.G.Grammar.words in
    let takes = g.G.Accepts.takes in
    let failed = g.G.Accepts.has_failed in
    let first = moment_of c.args.progress.now c.args.sink.now in
    let now = moment_of c.seen.progress c.seen.sink in
    let near = moment_of c.read_near.new.progress c.read_near.new.sink in
    let next = moment_of c.read_far.new.progress c.read_far.new.sink in
    let e = c.in-Ok-true.ensures in
    let f = c.in-Ok-false-read_far.ensures in
    (runs_after words takes failed first near next (runs_after words takes failed first now near c.seen.invariant e.reads e.limits e.live)
    f.reads f.limits f.live).reads

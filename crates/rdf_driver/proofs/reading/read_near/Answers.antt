-- The loop over the frequent tokens: each was accepted.
use Rattle.rdf_driver.proofs.Prelude.{rules, moment_of}
use Rattle.rdf_driver.proofs.ReadingLemmas.{runs_both, runs_none, runs_past, runs_token}
use Rattle.rdf_driver.proofs.reading.read_near.Goals as goal

pub near-init : goal.near-init
near-init g c = (
  runs_none g.G.Grammar.words g.G.Accepts.takes g.G.Accepts.has_failed (moment_of c.args.progress.now c.args.sink.now) c.requires.ready c.requires.live,
  c.requires.may,
)

-- a token was accepted
pub near-preserved-in-Ok : goal.near-preserved-in-Ok
near-preserved-in-Ok g c =
    let words = g.G.Grammar.words in
    let takes = g.G.Accepts.takes in
    let failed = g.G.Accepts.has_failed in
    let first = moment_of c.args.progress.now c.args.sink.now in
    let now = moment_of c.near.progress c.near.sink in
    let next = moment_of c.read_peeked.new.progress c.read_peeked.new.sink in
    let runs = c.near.invariant.0 in
    let k = c.in-Ok.ensures.reads in (
      runs_both words takes failed first now next runs
          (runs_token words takes failed now next k.0 runs.reads.ready k.1 k.2 c.in-Ok.ensures.limits c.in-Ok.ensures.live),
      c.in-Ok.ensures.again,
    )

-- white space was passed
pub near-preserved : goal.near-preserved
near-preserved g c = (
  runs_past g.G.Grammar.words g.G.Accepts.takes g.G.Accepts.has_failed (moment_of c.args.progress.now c.args.sink.now) (moment_of c.near.progress c.near.sink)
      c.pass_blanks.new.self c.near.invariant.0 c.pass_blanks.ensures.passes,
  c.in-Passed.ensures.again (search rules),
)

-- nothing is seen
pub returns-in-Nothing-clause-reads : goal.returns-in-Nothing-clause-reads
returns-in-Nothing-clause-reads g c =
    (runs_past g.G.Grammar.words g.G.Accepts.takes g.G.Accepts.has_failed (moment_of c.args.progress.now c.args.sink.now)
    (moment_of c.near.progress c.near.sink)
    c.pass_blanks.new.self c.near.invariant.0 c.pass_blanks.ensures.passes).reads

-- a comment is open
pub returns-in-InComment-clause-reads : goal.returns-in-InComment-clause-reads
returns-in-InComment-clause-reads g c =
    (runs_past g.G.Grammar.words g.G.Accepts.takes g.G.Accepts.has_failed (moment_of c.args.progress.now c.args.sink.now)
    (moment_of c.near.progress c.near.sink)
    c.pass_blanks.new.self c.near.invariant.0 c.pass_blanks.ensures.passes).reads

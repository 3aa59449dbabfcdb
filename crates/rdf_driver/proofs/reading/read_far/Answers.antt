-- One token was accepted, or none is seen.
use Rattle.rdf_driver.proofs.Prelude.{moment_of}
use Rattle.rdf_driver.proofs.ReadingLemmas.{fails_next, runs_none, runs_token}
use Rattle.rdf_driver.proofs.reading.read_far.Goals as goal

pub returns-in-None-clause-reads : goal.returns-in-None-clause-reads
returns-in-None-clause-reads g c =
    (runs_none g.G.Grammar.words g.G.Accepts.takes g.G.Accepts.has_failed
    (moment_of c.args.progress.now c.args.sink.now) c.requires.ready c.requires.live).reads

pub returns-in-Ok-clause-reads : goal.returns-in-Ok-clause-reads
returns-in-Ok-clause-reads g c =
    let old = moment_of c.args.progress.now c.args.sink.now in
    let new = moment_of c.accept_far.new.progress c.accept_far.new.sink in
    let k = c.in-Ok.ensures.reads in
    (runs_token g.G.Grammar.words g.G.Accepts.takes g.G.Accepts.has_failed old new k.0 c.requires.ready k.1 k.2 c.in-Ok.ensures.limits
    c.in-Ok.ensures.live).reads

pub returns-in-Ok-clause-less : goal.returns-in-Ok-clause-less
returns-in-Ok-clause-less g c = λ _. c.in-Ok.ensures.reads.1.given.less

pub returns-in-Err-clause-reads : goal.returns-in-Err-clause-reads
returns-in-Err-clause-reads g c =
    let words = g.G.Grammar.words in
    let takes = g.G.Accepts.takes in
    let failed = g.G.Accepts.has_failed in
    let old = moment_of c.args.progress.now c.args.sink.now in
    let new = c.accept_far.new in
    fails_next words takes g.G.Accepts.leaves failed c.in-Err.reason _ _ old old new.progress.scanner new.progress.grammar new.sink
    (runs_none words takes failed old c.requires.ready c.requires.live) c.in-Err.ensures.reads

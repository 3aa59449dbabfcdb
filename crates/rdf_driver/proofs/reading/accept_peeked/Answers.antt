-- A token that was seen is given, accepted and counted.
use Rattle.rdf_driver.proofs.Prelude.{◌∙◌, rules, sym, subst, GivesToken, token_of, moment_of}
use Rattle.rdf_driver.proofs.ReadingLemmas.{has_room, is_short, quads_room}
use Rattle.rdf_driver.proofs.reading.accept_peeked.Goals as goal

pub accept-requires-clause-short : goal.accept-requires-clause-short
accept-requires-clause-short g c =
    let p = c.args.progress.now in
    is_short g.G.Grammar.words p.scanner c.take-seen.follows.lender-at-none p.grammar p.so_far
    (token_of c.take-seen.result) c.requires.ready c.take-seen.follows.holds-at-none.given

pub count_token-requires-clause-room : goal.count_token-requires-clause-room
count_token-requires-clause-room g c =
    let p = c.args.progress.now in
    has_room g.G.Grammar.words p.scanner p.grammar p.so_far c.requires.ready

pub count_token-requires-clause-quads : goal.count_token-requires-clause-quads
count_token-requires-clause-quads g c =
    let v = c.args.progress.now.scanner in
    let last = c.take-seen.follows.lender-at-none in
    let s = c.take-seen.follows.holds-at-none in
    let t = token_of c.take-seen.result in
    let given = subst (λ k. GivesToken v (record { kind = k; text = t.text; at = t.at }) last) (s.kind ∙ sym c.kind.ensures) s.given in
    quads_room g.G.Grammar.words g.G.Accepts.takes c.requires.lawful (moment_of c.args.progress.now c.args.sink.now) last c.accept.new.self
    c.accept.new.sink (record { kind = c.kind.result; text = t.text; at = t.at }) c.in-Ok.given c.requires.ready given c.in-Ok.ensures.ok

pub returns-then-matches-clause-reads : goal.returns-then-matches-clause-reads
returns-then-matches-clause-reads g c = search rules

pub returns-else-matches-clause-reads : goal.returns-else-matches-clause-reads
returns-else-matches-clause-reads g c = search rules

use Rattle.rdf_stream.proofs.Prelude.{sym, subst, true, CheckHalts, StandsFor}
use Rattle.rdf_stream.proofs.ChecksLemmas.{end_halts, end_read}
use Rattle.rdf_stream.proofs.ExpectedLemmas.{stands_at_end}
use Rattle.rdf_stream.proofs.checks.ReaderRunNoQuads.end.Goals as goal

pub returns-in-Ok-clause-ends : goal.returns-in-Ok-clause-ends
returns-in-Ok-clause-ends g c = λ first bytes i. end_read g.G.Grammar.words first.0 c.args.self.now bytes i.0 i.1 _ _ _ c.in-Ok.ensures.ok

pub returns-in-Err-clause-halts : goal.returns-in-Err-clause-halts
returns-in-Err-clause-halts g c = λ first bytes i. (
  subst (λ reported. CheckHalts g.G.Grammar.words reported first.0 bytes true) (sym c.from.ensures)
      (end_halts g.G.Grammar.words first.0 c.args.self.now bytes i.0 _ _ _ c.in-Err.fault.reason c.in-Err.fault.offset c.in-Err.fault.line
      c.in-Err.ensures.err),
  λ x b.
      let (quads, read) = i.0.read x b in
      subst (λ reported. StandsFor g.G.Grammar.words x first.0.scanner.limit reported bytes true c.finish.new.self) (sym c.from.ensures)
      (stands_at_end g.G.Grammar.words x c.args.self.now bytes quads read first.0.scanner.limit i.0.limit _ _ _ _ _ _ c.in-Err.fault.offset
      c.in-Err.fault.line c.in-Err.fault.reason c.in-Err.ensures.err),
)

-- The end: what waits is sent, and an error there or of the drain stops the run.
use Rattle.rdf_stream.proofs.Prelude.{rules, true, of_quads}
use Rattle.rdf_stream.proofs.LineOutLemmas.{puts_live}
use Rattle.rdf_stream.proofs.GrowthLemmas.{finish_grows, grows_both, grows_by, grows_front, puts_grow, stop_grows}
use Rattle.rdf_stream.proofs.ConvertingLemmas.{end_run_broke, end_run_halts, live_now, putting, quad_lines, run_ends}
use Rattle.rdf_stream.proofs.ExpectedLemmas.{stands_at_end, stands_told}
use Rattle.rdf_stream.proofs.conversions.ReaderRunLineOut.end.Goals as goal

pub send-requires : goal.send-requires
send-requires g c =
    let (first, bytes, i) = c.requires.begun in
    record {
      live = puts_live of_quads quad_lines _ _ _ _ _ c.in-Ok.ensures.ok.puts
          (live_now of_quads quad_lines g.D.Drain.contents g.D.Drain.has_failed g.G.Grammar.words
          g.G.Passes.style first.0 first.1 bytes c.args.self.now c.args.lines.now (putting of_quads g.D.Drain.contents g.D.Drain.has_failed
          g.G.Grammar.words g.G.Passes.style first.0 first.1 bytes c.args.self.now c.args.lines.now i));
    }

pub returns-in-Ok-send-clause-ends : goal.returns-in-Ok-send-clause-ends
returns-in-Ok-send-clause-ends g c = λ first bytes i.
    run_ends of_quads quad_lines g.D.Drain.contents g.D.Drain.has_failed g.G.Grammar.words g.G.Passes.style first.0 first.1 bytes c.args.self.now
    c.args.lines.now (putting of_quads g.D.Drain.contents g.D.Drain.has_failed g.G.Grammar.words g.G.Passes.style first.0 first.1 bytes
    c.args.self.now c.args.lines.now i) _ _ c.in-Ok.ensures.ok i.few g.D.Drain.is_flushed _ (search rules) (search rules) (search rules)

pub returns-in-Ok-send-clause-stays : goal.returns-in-Ok-send-clause-stays
returns-in-Ok-send-clause-stays g c = λ first s.
    grows_both g.D.Drain.contents _ _ _ s (grows_both g.D.Drain.contents _ _ _ (puts_grow of_quads g.D.Drain.contents g.D.Drain.has_failed _ _ _
    c.in-Ok.ensures.ok.puts) (grows_by g.D.Drain.contents _ _ c.finish.new.sink.buffer.now (search rules) (search rules)))

pub returns-in-Err-send-clause-stays : goal.returns-in-Err-send-clause-stays
returns-in-Err-send-clause-stays g c = λ first s.
    grows_both g.D.Drain.contents _ _ _ s (grows_both g.D.Drain.contents _ _ _ (puts_grow of_quads g.D.Drain.contents g.D.Drain.has_failed _ _ _
    c.in-Ok.ensures.ok.puts) (grows_front g.D.Drain.contents _ _ c.finish.new.sink.buffer.now (search rules) (search rules)))

pub returns-in-Err-send-clause-halts : goal.returns-in-Err-send-clause-halts
returns-in-Err-send-clause-halts g c = λ first bytes i. (
  end_run_broke of_quads quad_lines g.D.Drain.contents g.D.Drain.has_failed g.G.Grammar.words g.G.Passes.style first.0 first.1 bytes c.args.self.now
      c.args.lines.now (putting of_quads g.D.Drain.contents g.D.Drain.has_failed g.G.Grammar.words g.G.Passes.style first.0 first.1 bytes
      c.args.self.now c.args.lines.now i) _ _ c.in-Ok.ensures.ok _ (search rules) (search rules) (search rules),
  tt,
  λ x b. tt,
)

pub returns-in-Err-clause-stays : goal.returns-in-Err-clause-stays
returns-in-Err-clause-stays g c = λ first s.
    grows_both g.D.Drain.contents _ _ _ s
    (grows_both g.D.Drain.contents _ _ _ (finish_grows of_quads g.D.Drain.contents g.D.Drain.has_failed g.G.Grammar.words _ _ _ _ _ _ c.in-Err.ensures.err)
    (stop_grows g.D.Drain.contents g.D.Drain.has_failed _ _ _ _ c.stop.ensures.same c.stop.ensures.reports))

pub returns-in-Err-clause-halts : goal.returns-in-Err-clause-halts
returns-in-Err-clause-halts g c = λ first bytes i. (
  end_run_halts of_quads quad_lines g.D.Drain.contents g.D.Drain.has_failed g.G.Grammar.words g.G.Passes.style first.0 first.1 bytes c.args.self.now
      c.args.lines.now (putting of_quads g.D.Drain.contents g.D.Drain.has_failed g.G.Grammar.words g.G.Passes.style first.0 first.1 bytes
      c.args.self.now c.args.lines.now i) _ _ _ _ _ _ _ c.in-Err.ensures.err c.stop.ensures.same c.stop.ensures.reports,
  c.stop.ensures.sent,
  λ x b.
      let put = (putting of_quads g.D.Drain.contents g.D.Drain.has_failed g.G.Grammar.words g.G.Passes.style first.0 first.1 bytes c.args.self.now
      c.args.lines.now i).put x b in
      stands_told g.D.Drain.contents g.D.Drain.has_failed g.G.Grammar.words x first.0.scanner.limit c.in-Err.fault _ _ _ bytes true
      c.finish.new.self c.stop.ensures.reports
      (stands_at_end g.G.Grammar.words x c.args.self.now bytes put.items put.read first.0.scanner.limit i.limit _ _ _ _ _ c.finish.new.self
      c.in-Err.fault.offset c.in-Err.fault.line c.in-Err.fault.reason c.in-Err.ensures.err),
)

-- A part: its lines are put, and an error within it stops the run, whatever comes after it.
use Rattle.rdf_stream.proofs.Prelude.{◌++◌, false, append_assoc, subst, RunHalts, StandsFor, of_quads}
use Rattle.rdf_stream.proofs.ConvertingLemmas.{few_now, live_now, quad_lines, run_halts, run_reads}
use Rattle.rdf_stream.proofs.ConvertsLemmas.{halts_more}
use Rattle.rdf_stream.proofs.ExpectedLemmas.{stands_in_piece, stands_more, stands_told}
use Rattle.rdf_stream.proofs.GrowthLemmas.{feed_grows, grows_both, puts_grow, stop_grows}
use Rattle.rdf_stream.proofs.conversions.ReaderPartsLineOut.read_part.Goals as goal

pub feed-requires : goal.feed-requires
feed-requires g c =
    let (first, bytes, i) = c.requires.begun in
    λ running. live_now of_quads quad_lines g.D.Drain.contents g.D.Drain.has_failed g.G.Grammar.words g.G.Passes.style first.0 first.1 bytes c.args.self.now
    c.args.lines.now i

pub returns-in-Ok-clause-takes : goal.returns-in-Ok-clause-takes
returns-in-Ok-clause-takes g c = λ first bytes i.
    run_reads of_quads quad_lines g.D.Drain.contents g.D.Drain.has_failed g.G.Grammar.words g.G.Passes.style first.0 first.1 bytes c.args.self.now
    c.args.lines.now i c.args.part.now _ _ c.in-Ok.ensures.ok

pub returns-in-Ok-clause-few : goal.returns-in-Ok-clause-few
returns-in-Ok-clause-few g c =
    let (first, bytes, i) = c.requires.begun in
    let put = run_reads of_quads quad_lines g.D.Drain.contents g.D.Drain.has_failed g.G.Grammar.words g.G.Passes.style first.0 first.1 bytes c.args.self.now
    c.args.lines.now i c.args.part.now _ _ c.in-Ok.ensures.ok in
    few_now of_quads quad_lines g.D.Drain.contents g.D.Drain.has_failed g.G.Grammar.words g.G.Passes.style first.0 first.1 _ _ _ put _ c.in-Ok.ensures.few

pub returns-in-Err-clause-halts : goal.returns-in-Err-clause-halts
returns-in-Err-clause-halts g c = λ more first bytes i.
    let part = c.args.part.now in
    let halts = run_halts of_quads quad_lines g.D.Drain.contents g.D.Drain.has_failed g.G.Grammar.words g.G.Passes.style first.0 first.1 bytes c.args.self.now
    c.args.lines.now i part _ _ _ _ _ _ _ c.in-Err.ensures.err c.stop.ensures.same c.stop.ensures.reports in (
      subst (λ b. RunHalts of_quads g.D.Drain.contents g.D.Drain.has_failed g.G.Grammar.words c.stop.result first.0 first.1 b false c.stop.new.lines)
          (append_assoc bytes part more)
          (halts_more of_quads g.D.Drain.contents g.D.Drain.has_failed g.G.Grammar.words c.stop.result first.0 first.1 (bytes ++ part) more c.stop.new.lines
          halts),
      c.stop.ensures.sent,
      λ x b.
          let put = i.put x b in
          let w = g.G.Grammar.words in
          let limit = first.0.scanner.limit in
          let now = c.feed.new.self in
          subst (λ all. StandsFor w x limit c.stop.result all false now) (append_assoc bytes part more)
          (stands_more w x limit (b.starts.convertible.lawful.ends x) now c.stop.result (bytes ++ part) more
          (stands_told g.D.Drain.contents g.D.Drain.has_failed w x limit c.in-Err.fault _ _ _ (bytes ++ part) false now c.stop.ensures.reports
          (stands_in_piece w x c.args.self.now bytes put.items put.read limit i.limit _ _ _ _ _ now c.in-Err.fault.offset
          c.in-Err.fault.line part c.in-Err.fault.reason c.in-Err.ensures.err))),
    )

pub returns-in-Ok-clause-stays : goal.returns-in-Ok-clause-stays
returns-in-Ok-clause-stays g c =
    λ first s. grows_both g.D.Drain.contents _ _ _ s (puts_grow of_quads g.D.Drain.contents g.D.Drain.has_failed _ _ _ c.in-Ok.ensures.ok.puts)

pub returns-in-Err-clause-stays : goal.returns-in-Err-clause-stays
returns-in-Err-clause-stays g c = λ first s.
    grows_both g.D.Drain.contents _ _ _ s
    (grows_both g.D.Drain.contents _ _ _ (feed_grows of_quads g.D.Drain.contents g.D.Drain.has_failed g.G.Grammar.words _ _ _ _ _ _ _ c.in-Err.ensures.err)
    (stop_grows g.D.Drain.contents g.D.Drain.has_failed _ _ _ _ c.stop.ensures.same c.stop.ensures.reports))

-- The end: what waits is sent, and an error there or of the drain stops the run.
use Rattle.rdf_stream.proofs.Prelude.{rules, refl, subst, sym, ShowEnds, of_tokens, token_words}
use Rattle.rdf_lines.specs.declared.form.Style.TheVariants.{Kept}
use Rattle.rdf_stream.proofs.ConvertingLemmas.{end_run_broke, end_run_halts, live_now, putting, run_ends}
use Rattle.rdf_stream.proofs.GrowthLemmas.{finish_grows, grows_both, grows_by, grows_front, puts_grow, stop_grows}
use Rattle.rdf_stream.proofs.LineOutLemmas.{puts_live}
use Rattle.rdf_stream.proofs.ShowsLemmas.{token_writer}
use Rattle.rdf_stream.proofs.shows.ReaderTokenGrammarRunLineOut.end.Goals as goal

pub finish-requires : goal.finish-requires
finish-requires g c =
    let (first, bytes, i) = c.requires.begun in
    λ running. live_now of_tokens token_writer g.D.Drain.contents g.D.Drain.has_failed (token_words g.T.Spoken.spoken) Kept first.0 first.1 bytes
    c.args.self.now c.args.lines.now
    (putting of_tokens g.D.Drain.contents g.D.Drain.has_failed (token_words g.T.Spoken.spoken) Kept first.0 first.1 bytes c.args.self.now c.args.lines.now i)

pub send-requires : goal.send-requires
send-requires g c =
    let (first, bytes, i) = c.requires.begun in
    record {
      live = puts_live of_tokens token_writer _ _ _ _ _ c.in-Ok.ensures.ok.puts
          (live_now of_tokens token_writer g.D.Drain.contents g.D.Drain.has_failed (token_words g.T.Spoken.spoken) Kept first.0 first.1 bytes
          c.args.self.now c.args.lines.now
          (putting of_tokens g.D.Drain.contents g.D.Drain.has_failed (token_words g.T.Spoken.spoken) Kept first.0 first.1 bytes c.args.self.now
          c.args.lines.now i));
    }

pub returns-in-Ok-send-clause-ends : goal.returns-in-Ok-send-clause-ends
returns-in-Ok-send-clause-ends g c = λ first bytes i.
    subst (λ s. ShowEnds g.D.Drain.contents g.D.Drain.has_failed g.D.Drain.is_flushed g.T.Spoken.spoken s first.0 first.1 bytes c.send.new.self)
    (sym c.of_tokens.ensures) (
      refl,
      c.in-Ok.summary.quads,
      run_ends of_tokens token_writer g.D.Drain.contents g.D.Drain.has_failed (token_words g.T.Spoken.spoken) Kept first.0 first.1 bytes c.args.self.now
          c.args.lines.now
          (putting of_tokens g.D.Drain.contents g.D.Drain.has_failed (token_words g.T.Spoken.spoken) Kept first.0 first.1 bytes c.args.self.now
          c.args.lines.now i)
          _ _ c.in-Ok.ensures.ok i.few g.D.Drain.is_flushed _ (search rules) (search rules) (search rules),
    )

pub returns-in-Ok-send-clause-stays : goal.returns-in-Ok-send-clause-stays
returns-in-Ok-send-clause-stays g c = λ first s.
    grows_both g.D.Drain.contents _ _ _ s (grows_both g.D.Drain.contents _ _ _ (puts_grow of_tokens g.D.Drain.contents g.D.Drain.has_failed _ _ _
    c.in-Ok.ensures.ok.puts) (grows_by g.D.Drain.contents _ _ c.finish.new.sink.buffer.now (search rules) (search rules)))

pub returns-in-Err-send-clause-stays : goal.returns-in-Err-send-clause-stays
returns-in-Err-send-clause-stays g c = λ first s.
    grows_both g.D.Drain.contents _ _ _ s (grows_both g.D.Drain.contents _ _ _ (puts_grow of_tokens g.D.Drain.contents g.D.Drain.has_failed _ _ _
    c.in-Ok.ensures.ok.puts) (grows_front g.D.Drain.contents _ _ c.finish.new.sink.buffer.now (search rules) (search rules)))

pub returns-in-Err-send-clause-halts : goal.returns-in-Err-send-clause-halts
returns-in-Err-send-clause-halts g c = λ first bytes i. (
  end_run_broke of_tokens token_writer g.D.Drain.contents g.D.Drain.has_failed (token_words g.T.Spoken.spoken) Kept first.0 first.1 bytes c.args.self.now
      c.args.lines.now
      (putting of_tokens g.D.Drain.contents g.D.Drain.has_failed (token_words g.T.Spoken.spoken) Kept first.0 first.1 bytes c.args.self.now c.args.lines.now i)
      _ _ c.in-Ok.ensures.ok _ (search rules) (search rules) (search rules),
  tt,
  tt,
)

pub returns-in-Err-clause-stays : goal.returns-in-Err-clause-stays
returns-in-Err-clause-stays g c = λ first s.
    grows_both g.D.Drain.contents _ _ _ s
    (grows_both g.D.Drain.contents _ _ _ (finish_grows of_tokens g.D.Drain.contents g.D.Drain.has_failed (token_words g.T.Spoken.spoken) _ _ _ _ _ _
    c.in-Err.ensures.err)
    (stop_grows g.D.Drain.contents g.D.Drain.has_failed _ _ _ _ c.stop.ensures.same c.stop.ensures.reports))

pub returns-in-Err-clause-halts : goal.returns-in-Err-clause-halts
returns-in-Err-clause-halts g c = λ first bytes i. (
  end_run_halts of_tokens token_writer g.D.Drain.contents g.D.Drain.has_failed (token_words g.T.Spoken.spoken) Kept first.0 first.1 bytes c.args.self.now
      c.args.lines.now
      (putting of_tokens g.D.Drain.contents g.D.Drain.has_failed (token_words g.T.Spoken.spoken) Kept first.0 first.1 bytes c.args.self.now c.args.lines.now i)
      _ _ _ _ _ _ _ c.in-Err.ensures.err c.stop.ensures.same c.stop.ensures.reports,
  c.stop.ensures.sent,
  tt,
)

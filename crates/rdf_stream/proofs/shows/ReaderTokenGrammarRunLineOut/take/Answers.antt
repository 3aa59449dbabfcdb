-- A piece: its lines are handed over, and an error within it or of the drain stops the run.
use Rattle.rdf_stream.proofs.Prelude.{rules, ap, subst, sym, ◌+◌, ◌≤◌, ◌∙◌, length, length-append, most_bytes, of_tokens, token_words}
use Rattle.rdf_lines.specs.declared.form.Style.TheVariants.{Kept}
use Rattle.rdf_stream.proofs.ConvertingLemmas.{count_now, few_now, live_now, putting, run_broke, run_halts, run_handed, run_reads}
use Rattle.rdf_stream.proofs.GrowthLemmas.{feed_grows, grows_both, grows_by, grows_front, puts_grow, stop_grows}
use Rattle.rdf_stream.proofs.ShowsLemmas.{token_writer}
use Rattle.rdf_stream.proofs.shows.ReaderTokenGrammarRunLineOut.take.Goals as goal

pub feed-requires : goal.feed-requires
feed-requires g c =
    let (first, bytes, i) = c.requires.begun in
    λ running. live_now of_tokens token_writer g.D.Drain.contents g.D.Drain.has_failed (token_words g.T.Spoken.spoken) Kept first.0 first.1 bytes
    c.args.self.now c.args.lines.now
    (putting of_tokens g.D.Drain.contents g.D.Drain.has_failed (token_words g.T.Spoken.spoken) Kept first.0 first.1 bytes c.args.self.now c.args.lines.now i)

pub hand_over-requires : goal.hand_over-requires
hand_over-requires g c =
    let (first, bytes, i) = c.requires.begun in
    record {
      live = live_now of_tokens token_writer g.D.Drain.contents g.D.Drain.has_failed (token_words g.T.Spoken.spoken) Kept first.0 first.1 _ _ _
          (run_reads of_tokens token_writer g.D.Drain.contents g.D.Drain.has_failed (token_words g.T.Spoken.spoken) Kept first.0 first.1 bytes
          c.args.self.now c.args.lines.now
          (putting of_tokens g.D.Drain.contents g.D.Drain.has_failed (token_words g.T.Spoken.spoken) Kept first.0 first.1 bytes c.args.self.now
          c.args.lines.now i)
          c.args.piece.now _ _ c.in-Ok.ensures.ok);
    }

pub returns-in-Ok-hand_over-clause-takes : goal.returns-in-Ok-hand_over-clause-takes
returns-in-Ok-hand_over-clause-takes g c = λ first bytes i.
    let put = run_reads of_tokens token_writer g.D.Drain.contents g.D.Drain.has_failed (token_words g.T.Spoken.spoken) Kept first.0 first.1 bytes
    c.args.self.now c.args.lines.now
    (putting of_tokens g.D.Drain.contents g.D.Drain.has_failed (token_words g.T.Spoken.spoken) Kept first.0 first.1 bytes c.args.self.now c.args.lines.now i)
    c.args.piece.now _ _ c.in-Ok.ensures.ok in
    run_handed of_tokens token_writer g.D.Drain.contents g.D.Drain.has_failed (token_words g.T.Spoken.spoken) Kept first.0 first.1 _ _ _ put _
    (search rules) (search rules) (search rules) (search rules)
    (subst (λ n. n ≤ most_bytes) (count_now of_tokens token_writer g.D.Drain.contents g.D.Drain.has_failed (token_words g.T.Spoken.spoken) Kept first.0
    first.1 _ _ _ put)
    (few_now of_tokens token_writer g.D.Drain.contents g.D.Drain.has_failed (token_words g.T.Spoken.spoken) Kept first.0 first.1 _ _ _ put _
    c.in-Ok.ensures.few))

pub returns-in-Ok-hand_over-clause-count : goal.returns-in-Ok-hand_over-clause-count
returns-in-Ok-hand_over-clause-count g c =
    let (first, bytes, i) = c.requires.begun in
    let old = putting of_tokens g.D.Drain.contents g.D.Drain.has_failed (token_words g.T.Spoken.spoken) Kept first.0 first.1 bytes c.args.self.now
    c.args.lines.now i in
    let put = run_reads of_tokens token_writer g.D.Drain.contents g.D.Drain.has_failed (token_words g.T.Spoken.spoken) Kept first.0 first.1 bytes
    c.args.self.now c.args.lines.now old
    c.args.piece.now _ _ c.in-Ok.ensures.ok in
    count_now of_tokens token_writer g.D.Drain.contents g.D.Drain.has_failed (token_words g.T.Spoken.spoken) Kept first.0 first.1 _ _ _ put
    ∙ (length-append bytes c.args.piece.now
    ∙ ap (λ n. n + length c.args.piece.now) (sym (count_now of_tokens token_writer g.D.Drain.contents g.D.Drain.has_failed (token_words g.T.Spoken.spoken)
    Kept first.0 first.1 bytes c.args.self.now c.args.lines.now old)))

pub returns-in-Ok-hand_over-clause-few : goal.returns-in-Ok-hand_over-clause-few
returns-in-Ok-hand_over-clause-few g c =
    let (first, bytes, i) = c.requires.begun in
    let put = run_reads of_tokens token_writer g.D.Drain.contents g.D.Drain.has_failed (token_words g.T.Spoken.spoken) Kept first.0 first.1 bytes
    c.args.self.now c.args.lines.now
    (putting of_tokens g.D.Drain.contents g.D.Drain.has_failed (token_words g.T.Spoken.spoken) Kept first.0 first.1 bytes c.args.self.now c.args.lines.now i)
    c.args.piece.now _ _ c.in-Ok.ensures.ok in
    few_now of_tokens token_writer g.D.Drain.contents g.D.Drain.has_failed (token_words g.T.Spoken.spoken) Kept first.0 first.1 _ _ _ put _ c.in-Ok.ensures.few

pub returns-in-Ok-hand_over-clause-stays : goal.returns-in-Ok-hand_over-clause-stays
returns-in-Ok-hand_over-clause-stays g c = λ first s.
    grows_both g.D.Drain.contents _ _ _ s (grows_both g.D.Drain.contents _ _ _ (puts_grow of_tokens g.D.Drain.contents g.D.Drain.has_failed _ _ _
    c.in-Ok.ensures.ok.puts) (grows_by g.D.Drain.contents _ _ c.feed.new.sink.buffer.now (search rules) (search rules)))

pub returns-in-Err-hand_over-clause-stays : goal.returns-in-Err-hand_over-clause-stays
returns-in-Err-hand_over-clause-stays g c = λ first s.
    grows_both g.D.Drain.contents _ _ _ s (grows_both g.D.Drain.contents _ _ _ (puts_grow of_tokens g.D.Drain.contents g.D.Drain.has_failed _ _ _
    c.in-Ok.ensures.ok.puts) (grows_front g.D.Drain.contents _ _ c.feed.new.sink.buffer.now (search rules) (search rules)))

pub returns-in-Err-hand_over-clause-halts : goal.returns-in-Err-hand_over-clause-halts
returns-in-Err-hand_over-clause-halts g c = λ first bytes i.
    let put = run_reads of_tokens token_writer g.D.Drain.contents g.D.Drain.has_failed (token_words g.T.Spoken.spoken) Kept first.0 first.1 bytes
    c.args.self.now c.args.lines.now
    (putting of_tokens g.D.Drain.contents g.D.Drain.has_failed (token_words g.T.Spoken.spoken) Kept first.0 first.1 bytes c.args.self.now c.args.lines.now i)
    c.args.piece.now _ _ c.in-Ok.ensures.ok in (
      run_broke of_tokens token_writer g.D.Drain.contents g.D.Drain.has_failed (token_words g.T.Spoken.spoken) Kept first.0 first.1 _ _ _ put _
          (search rules) (search rules) (search rules),
      tt,
      tt,
    )

pub returns-in-Err-clause-stays : goal.returns-in-Err-clause-stays
returns-in-Err-clause-stays g c = λ first s.
    grows_both g.D.Drain.contents _ _ _ s
    (grows_both g.D.Drain.contents _ _ _ (feed_grows of_tokens g.D.Drain.contents g.D.Drain.has_failed (token_words g.T.Spoken.spoken) _ _ _ _ _ _ _
    c.in-Err.ensures.err)
    (stop_grows g.D.Drain.contents g.D.Drain.has_failed _ _ _ _ c.stop.ensures.same c.stop.ensures.reports))

pub returns-in-Err-clause-halts : goal.returns-in-Err-clause-halts
returns-in-Err-clause-halts g c = λ first bytes i. (
  run_halts of_tokens token_writer g.D.Drain.contents g.D.Drain.has_failed (token_words g.T.Spoken.spoken) Kept first.0 first.1 bytes c.args.self.now
      c.args.lines.now
      (putting of_tokens g.D.Drain.contents g.D.Drain.has_failed (token_words g.T.Spoken.spoken) Kept first.0 first.1 bytes c.args.self.now c.args.lines.now i)
      c.args.piece.now _ _ _ _ _ _ _ c.in-Err.ensures.err c.stop.ensures.same c.stop.ensures.reports,
  c.stop.ensures.sent,
  tt,
)

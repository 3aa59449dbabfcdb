-- A run over the pieces of a source: it begins with nothing read, and each outcome is that of the pieces.
use Rattle.rdf_stream.proofs.Prelude.{rules, ◌≡◌, ◌∙◌, true, refl, ap, [], IsRefusal, output_of, dialect_of, showing_of, of_tokens, token_words, told}
use Rattle.rdf_lines.specs.declared.form.Style.TheVariants.{Kept}
use Rattle.rdf_stream.proofs.ConvertsLemmas.{begins, begun_fresh, by_drains, none_prompt, none_stops, over_empty, prompt, refused_document, sent_on, stopped}
use Rattle.rdf_stream.proofs.GrowthLemmas.{grows_none}
use Rattle.rdf_stream.proofs.ShowsLemmas.{shown, shows_prompt, shows_stops, starts_tokens, token_writer}
use Rattle.rdf_stream.proofs.TokenWordsLemmas.{tokens_due}
use Rattle.rdf_stream.proofs.PiecesLemmas.{if_err, if_ok, on_ok, reported_stops}
use Rattle.rdf_stream.proofs.WatchLemmas.{hands_near}
use Rattle.rdf_stream.proofs.shows.show_in.Goals as goal

pub returns-in_err-piece-clause-stops : goal.returns-in_err-piece-clause-stops
returns-in_err-piece-clause-stops g c =
    reported_stops _ _ _ c.from_residual.ensures.1 (none_stops (showing_of c.args.job.now) refl tt (tokens_due (dialect_of c.args.job.now.form) [] [] refl)
    (told g.S.Source c.args.source.now) _ _ c.requires.more c.requires.source c.requires.drain)

pub returns-in_err-piece-clause-prompt : goal.returns-in_err-piece-clause-prompt
returns-in_err-piece-clause-prompt g c =
    none_prompt (showing_of c.args.job.now) refl tt (tokens_due (dialect_of c.args.job.now.form) [] [] refl) (told g.S.Source c.args.source.now) _

pub read_pieces-result-requires-clause-begun : goal.read_pieces-result-requires-clause-begun
read_pieces-result-requires-clause-begun g c =
    begins _ of_tokens token_writer g.D.Drain.contents g.D.Drain.has_failed g.D.Drain.is_flushed (token_words g.T.Spoken.spoken) Kept tt
    (c.new-reader.result, c.new-lines.result)
    (begun_fresh _ of_tokens token_writer g.D.Drain.contents g.D.Drain.has_failed g.D.Drain.is_flushed (token_words g.T.Spoken.spoken) Kept tt
    (output_of c.output.result) (c.new-reader.result, c.new-lines.result) _
    (over_empty _ _ _ _ _ c.new-lines.ensures.form c.new-lines.ensures.buffer c.new-buffer.ensures c.new-lines.ensures.drain c.requires.drain)
    (starts_tokens _ _ _ (c.new-reader.ensures.read tt refl)))
    (ap (λ o. o.form.style) (ap output_of c.new-lines.ensures.form ∙ c.output.ensures))

pub read_pieces-result-requires-clause-stays : goal.read_pieces-result-requires-clause-stays
read_pieces-result-requires-clause-stays g c = grows_none g.D.Drain.contents c.new-lines.result

pub returns-clause-accepted : goal.returns-clause-accepted
returns-clause-accepted g c =
    if_ok c.read_pieces-result.result _ _
    (λ s a.
    shown _ g.D.Drain.contents g.D.Drain.has_failed g.D.Drain.is_flushed g.T.Spoken.spoken (output_of c.output.result)
    (c.new-reader.result, c.new-lines.result) (c.read_pieces-result.new.run, c.read_pieces-result.new.out) _ _
    (over_empty _ _ _ _ _ c.new-lines.ensures.form c.new-lines.ensures.buffer c.new-buffer.ensures c.new-lines.ensures.drain c.requires.drain)
    (search rules) (starts_tokens _ _ _ (c.new-reader.ensures.read tt refl)) _ _ s a
    c.args.job.now c.requires.dialect (search rules))
    c.read_pieces-result.ensures.read

pub returns-clause-stops : goal.returns-clause-stops
returns-clause-stops g c =
    if_err c.read_pieces-result.result _ _
    (λ reported a.
    shows_stops c.args.job.now _ c.requires.dialect c.new-reader.result.scanner.limit (search rules) (output_of c.output.result) reported
    _ _ _ _ _
    (stopped _ of_tokens token_writer g.D.Drain.contents g.D.Drain.has_failed g.D.Drain.is_flushed (token_words g.T.Spoken.spoken) Kept tt
    (output_of c.output.result) (c.new-reader.result, c.new-lines.result) (c.read_pieces-result.new.run, c.read_pieces-result.new.out) _ _
    (over_empty _ _ _ _ _ c.new-lines.ensures.form c.new-lines.ensures.buffer c.new-buffer.ensures c.new-lines.ensures.drain c.requires.drain)
    (search rules) (starts_tokens _ _ _ (c.new-reader.ensures.read tt refl)) _ _
    (λ reported first bytes e now. Unit) reported a))
    c.read_pieces-result.ensures.stops

pub returns-clause-prompt : goal.returns-clause-prompt
returns-clause-prompt g c =
    shows_prompt c.args.job.now _ c.requires.dialect c.new-reader.result.scanner.limit (search rules) (output_of c.output.result) _ _ _ _
    (prompt _ of_tokens token_writer g.D.Drain.contents g.D.Drain.has_failed g.D.Drain.is_flushed (token_words g.T.Spoken.spoken) Kept tt
    (output_of c.output.result) (c.new-reader.result, c.new-lines.result) (c.read_pieces-result.new.run, c.read_pieces-result.new.out) _ _
    (over_empty _ _ _ _ _ c.new-lines.ensures.form c.new-lines.ensures.buffer c.new-buffer.ensures c.new-lines.ensures.drain c.requires.drain)
    (search rules) (starts_tokens _ _ _ (c.new-reader.ensures.read tt refl)) _ _ c.read_pieces-result.ensures.before)

pub returns-clause-ended : goal.returns-clause-ended
returns-clause-ended g c = on_ok c.read_pieces-result.result _ (g.S.Source.has_ended c.read_pieces-result.new.source ≡ true)
    (λ s a. a.reported) c.read_pieces-result.ensures.read

pub returns-clause-flushed : goal.returns-clause-flushed
returns-clause-flushed g c =
    on_ok c.read_pieces-result.result _ _ (λ s a. by_drains (λ old new. g.D.Drain.is_flushed new ≡ true) c.new-lines.result.drain.now
    c.read_pieces-result.new.out.drain.now c.args.drain.now _ c.new-lines.ensures.drain (search rules) a.is_end.2.sent) c.read_pieces-result.ensures.read

pub returns-clause-refused : goal.returns-clause-refused
returns-clause-refused g c =
    if_err c.read_pieces-result.result _ IsRefusal
    (refused_document _ of_tokens token_writer g.D.Drain.contents g.D.Drain.has_failed g.D.Drain.is_flushed (token_words g.T.Spoken.spoken) Kept tt
    (output_of c.output.result) (c.new-reader.result, c.new-lines.result) (c.read_pieces-result.new.run, c.read_pieces-result.new.out) _ _
    (over_empty _ _ _ _ _ c.new-lines.ensures.form c.new-lines.ensures.buffer c.new-buffer.ensures c.new-lines.ensures.drain c.requires.drain)
    refl (starts_tokens _ _ _ (c.new-reader.ensures.read tt refl)) _ _ (λ reported first bytes e now. Unit))
    c.read_pieces-result.ensures.stops

pub returns-clause-sent : goal.returns-clause-sent
returns-clause-sent g c =
    if_err c.read_pieces-result.result _ _
    (sent_on _ of_tokens token_writer g.D.Drain.contents g.D.Drain.has_failed g.D.Drain.is_flushed (token_words g.T.Spoken.spoken) Kept tt
    (output_of c.output.result) (c.new-reader.result, c.new-lines.result) (c.read_pieces-result.new.run, c.read_pieces-result.new.out) _ _
    (over_empty _ _ _ _ _ c.new-lines.ensures.form c.new-lines.ensures.buffer c.new-buffer.ensures c.new-lines.ensures.drain c.requires.drain)
    (search rules) (starts_tokens _ _ _ (c.new-reader.ensures.read tt refl)) _ _ (λ reported first bytes e now. Unit))
    c.read_pieces-result.ensures.stops

pub returns-clause-near : goal.returns-clause-near
returns-clause-near g c =
    hands_near c.args.near.now c.ask_again-asked.new.self c.hand_out.new.near c.read_pieces-result.new.watching.near c.new-watching.result.words _ _
    (search rules) (search rules) _ _ _ c.ask_again-asked.ensures.untold c.hand_out.ensures c.read_pieces-result.ensures.near

-- A run over the pieces of a source: it begins with nothing read, and each outcome is that of the pieces.
use Rattle.rdf_stream.proofs.Prelude.{rules, ◌≡◌, ◌∙◌, [], true, refl, ap, Starts, IsRefusal, conversion, of_quads, output_of, told}
use Rattle.rdf_stream.proofs.ConvertsLemmas.{Halted, Stood, Taken, begins, begun_fresh, by_drains, converted, none_due, none_prompt, none_stops, over_empty, prompt, refused_document, sent_on, stopped}
use Rattle.rdf_stream.proofs.ExpectedLemmas.{none_expected, run_expects}
use Rattle.rdf_stream.proofs.GrowthLemmas.{grows_none}
use Rattle.rdf_stream.proofs.PiecesLemmas.{if_err, if_ok, on_ok, reported_stops}
use Rattle.rdf_stream.proofs.WatchLemmas.{hands_near}
use Rattle.rdf_stream.proofs.ConvertingLemmas.{quad_lines}
use Rattle.rdf_stream.proofs.conversions.convert_with.Goals as goal

pub returns-in_err-piece-clause-stops : goal.returns-in_err-piece-clause-stops
returns-in_err-piece-clause-stops g c =
    reported_stops _ _ _ c.from_residual.ensures.1 (λ x b. none_stops
    (conversion of_quads g.G.Grammar.words x c.args.reader.scanner.limit (output_of c.args.output))
    refl (quad_lines.told c.args.output [] tt) (none_due of_quads g.G.Grammar.words x c.args.reader _ b) (told g.S.Source c.args.source.now) _ _
    c.requires.more c.requires.source c.requires.drain)

pub returns-in_err-piece-clause-prompt : goal.returns-in_err-piece-clause-prompt
returns-in_err-piece-clause-prompt g c = λ x b. none_prompt (conversion of_quads g.G.Grammar.words x c.args.reader.scanner.limit (output_of c.args.output))
    refl (quad_lines.told c.args.output [] tt) (none_due of_quads g.G.Grammar.words x c.args.reader _ b) (told g.S.Source c.args.source.now) _

pub read_pieces-result-requires-clause-begun : goal.read_pieces-result-requires-clause-begun
read_pieces-result-requires-clause-begun g c =
    begins _ of_quads quad_lines g.D.Drain.contents g.D.Drain.has_failed g.D.Drain.is_flushed g.G.Grammar.words g.G.Passes.style c.requires.starts.0
    (c.args.reader, c.new-lines.result)
    (begun_fresh _ of_quads quad_lines g.D.Drain.contents g.D.Drain.has_failed g.D.Drain.is_flushed g.G.Grammar.words g.G.Passes.style _
    (output_of c.args.output) (c.args.reader, c.new-lines.result) _
    (over_empty _ _ _ _ _ c.new-lines.ensures.form c.new-lines.ensures.buffer c.new-buffer.ensures c.new-lines.ensures.drain
    c.requires.drain) c.requires.starts.1)
    (ap (λ o. o.form.style) (ap output_of c.new-lines.ensures.form) ∙ c.requires.styled)

pub read_pieces-result-requires-clause-stays : goal.read_pieces-result-requires-clause-stays
read_pieces-result-requires-clause-stays g c = grows_none g.D.Drain.contents c.new-lines.result

pub returns-clause-ended : goal.returns-clause-ended
returns-clause-ended g c = on_ok c.read_pieces-result.result _ (g.S.Source.has_ended c.read_pieces-result.new.source ≡ true)
    (λ s a. a.reported) c.read_pieces-result.ensures.read

pub returns-clause-flushed : goal.returns-clause-flushed
returns-clause-flushed g c =
    on_ok c.read_pieces-result.result _ _ (λ s a. by_drains (λ old new. g.D.Drain.is_flushed new ≡ true) c.new-lines.result.drain.now
    c.read_pieces-result.new.out.drain.now c.args.drain.now _ c.new-lines.ensures.drain (search rules) a.is_end.sent) c.read_pieces-result.ensures.read

pub returns-clause-refused : goal.returns-clause-refused
returns-clause-refused g c =
    if_err c.read_pieces-result.result _ IsRefusal
    (refused_document _ of_quads quad_lines g.D.Drain.contents g.D.Drain.has_failed g.D.Drain.is_flushed g.G.Grammar.words g.G.Passes.style c.requires.starts.0
    (output_of c.args.output) (c.args.reader, c.new-lines.result)
    (c.read_pieces-result.new.run, c.read_pieces-result.new.out) _ _
    (over_empty _ _ _ _ _ c.new-lines.ensures.form c.new-lines.ensures.buffer c.new-buffer.ensures c.new-lines.ensures.drain
    c.requires.drain) refl c.requires.starts.1 _ _ (Stood g.D.Drain.has_failed g.G.Grammar.words))
    c.read_pieces-result.ensures.stops

pub returns-clause-sent : goal.returns-clause-sent
returns-clause-sent g c =
    if_err c.read_pieces-result.result _ _
    (sent_on _ of_quads quad_lines g.D.Drain.contents g.D.Drain.has_failed g.D.Drain.is_flushed g.G.Grammar.words g.G.Passes.style c.requires.starts.0
    (output_of c.args.output) (c.args.reader, c.new-lines.result)
    (c.read_pieces-result.new.run, c.read_pieces-result.new.out) _ _
    (over_empty _ _ _ _ _ c.new-lines.ensures.form c.new-lines.ensures.buffer c.new-buffer.ensures c.new-lines.ensures.drain
    c.requires.drain) (search rules) c.requires.starts.1 _ _ (Stood g.D.Drain.has_failed g.G.Grammar.words))
    c.read_pieces-result.ensures.stops

pub returns-clause-accepted : goal.returns-clause-accepted
returns-clause-accepted g c =
    if_ok c.read_pieces-result.result _ _
    (λ s a x b.
    converted _ of_quads quad_lines g.D.Drain.contents g.D.Drain.has_failed g.D.Drain.is_flushed g.G.Grammar.words g.G.Passes.style x (output_of c.args.output)
    (c.args.reader, c.new-lines.result)
    (c.read_pieces-result.new.run, c.read_pieces-result.new.out) _ _
    (over_empty _ _ _ _ _ c.new-lines.ensures.form c.new-lines.ensures.buffer c.new-buffer.ensures c.new-lines.ensures.drain
    c.requires.drain) (search rules) b _ _ s a)
    c.read_pieces-result.ensures.read

pub returns-clause-stops : goal.returns-clause-stops
returns-clause-stops g c =
    if_err c.read_pieces-result.result _ _
    (λ reported a x b.
    stopped _ of_quads quad_lines g.D.Drain.contents g.D.Drain.has_failed g.D.Drain.is_flushed g.G.Grammar.words g.G.Passes.style x (output_of c.args.output)
    (c.args.reader, c.new-lines.result)
    (c.read_pieces-result.new.run, c.read_pieces-result.new.out) _ _
    (over_empty _ _ _ _ _ c.new-lines.ensures.form c.new-lines.ensures.buffer c.new-buffer.ensures c.new-lines.ensures.drain
    c.requires.drain) (search rules) b _ _ (Stood g.D.Drain.has_failed g.G.Grammar.words) reported a)
    c.read_pieces-result.ensures.stops

pub returns-clause-prompt : goal.returns-clause-prompt
returns-clause-prompt g c = λ x b.
    prompt _ of_quads quad_lines g.D.Drain.contents g.D.Drain.has_failed g.D.Drain.is_flushed g.G.Grammar.words g.G.Passes.style x (output_of c.args.output)
    (c.args.reader, c.new-lines.result)
    (c.read_pieces-result.new.run, c.read_pieces-result.new.out) _ _
    (over_empty _ _ _ _ _ c.new-lines.ensures.form c.new-lines.ensures.buffer c.new-buffer.ensures c.new-lines.ensures.drain
    c.requires.drain) (search rules) b _ _ c.read_pieces-result.ensures.before

pub returns-in_err-piece-clause-expected : goal.returns-in_err-piece-clause-expected
returns-in_err-piece-clause-expected g c = none_expected g.G.Grammar.words g.G.Foresees.trees _ _ _ _ _ _ c.from_residual.ensures.1 c.none.ensures

pub returns-clause-expected : goal.returns-clause-expected
returns-clause-expected g c =
    let w = g.G.Grammar.words in
    let fresh = over_empty g.D.Drain.has_failed c.args.output c.new-lines.result _ _ c.new-lines.ensures.form c.new-lines.ensures.buffer
    c.new-buffer.ensures c.new-lines.ensures.drain c.requires.drain in
    run_expects w g.G.Foresees.trees (λ x. Starts of_quads w x c.args.reader c.args.output.lines.style) c.args.reader.scanner.limit
    (λ x b. b.convertible.lawful.ends x)
    (Taken _ of_quads quad_lines g.D.Drain.contents g.D.Drain.has_failed g.D.Drain.is_flushed w g.G.Passes.style)
    (Halted _ of_quads quad_lines g.D.Drain.contents g.D.Drain.has_failed g.D.Drain.is_flushed w g.G.Passes.style (Stood g.D.Drain.has_failed w))
    (c.args.reader, c.new-lines.result) (c.read_pieces-result.new.run, c.read_pieces-result.new.out) c.read_pieces-result.new.run
    (λ f bytes e h x b.
    h.2 x
    (begun_fresh _ of_quads quad_lines g.D.Drain.contents g.D.Drain.has_failed g.D.Drain.is_flushed w g.G.Passes.style x (output_of c.args.output)
    (c.args.reader, c.new-lines.result) _ fresh b))
    _ _ _ _ c.read_pieces-result.ensures.stops c.details_beside.ensures

pub returns-clause-near : goal.returns-clause-near
returns-clause-near g c =
    let words = c.new-watching.ensures.words in
    hands_near c.args.near.now c.ask_again-asked.new.self c.hand_out.new.near c.read_pieces-result.new.watching.near c.new-watching.result.words _ _
    (ap (λ w. w.dialect) words ∙ (c.new.ensures.dialect ∙ c.dialect.ensures.dialect)) (ap (λ w. w.limit) words ∙ (c.new.ensures.limit ∙ c.requires.limit))
    _ _ _ c.ask_again-asked.ensures.untold c.hand_out.ensures c.read_pieces-result.ensures.near

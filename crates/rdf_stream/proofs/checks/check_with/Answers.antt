-- A check over the pieces of a source: it begins with nothing read, and each outcome is that of the pieces.
use Rattle.rdf_stream.proofs.Prelude.{◌≡◌, ◌∙◌, true, refl, ap, BeginsToRead, reading, IsRefusal}
use Rattle.rdf_stream.proofs.ChecksLemmas.{Halted, Taken, begins, checked, refused_document, stopped}
use Rattle.rdf_stream.proofs.ExpectedLemmas.{none_expected, run_expects}
use Rattle.rdf_stream.proofs.PiecesLemmas.{if_err, if_ok, none_given, on_ok, reported_stops}
use Rattle.rdf_stream.proofs.WatchLemmas.{hands_near}
use Rattle.rdf_stream.proofs.checks.check_with.Goals as goal

pub returns-in_err-piece-clause-stops : goal.returns-in_err-piece-clause-stops
returns-in_err-piece-clause-stops g c =
    reported_stops _ _ _ c.from_residual.ensures.1
    (λ x b. none_given (reading g.S.Source.remaining g.S.Source.last g.S.Source.has_ended g.S.Source.has_failed c.args.source.now)
    c.requires.more c.requires.source)

pub read_pieces-result-requires-clause-begun : goal.read_pieces-result-requires-clause-begun
read_pieces-result-requires-clause-begun g c = begins g.G.Grammar.words c.requires.begun.0 (c.args.reader, _) c.requires.begun.1

pub returns-clause-accepted : goal.returns-clause-accepted
returns-clause-accepted g c =
    if_ok c.read_pieces-result.result _ _ (λ s a x b. checked g.G.Grammar.words x _ (c.args.reader, _)
    (c.read_pieces-result.new.run, _) refl b _ _ s a) c.read_pieces-result.ensures.read

pub returns-clause-ended : goal.returns-clause-ended
returns-clause-ended g c = on_ok c.read_pieces-result.result _ (g.S.Source.has_ended c.read_pieces-result.new.source ≡ true)
    (λ s a. a.reported) c.read_pieces-result.ensures.read

pub returns-clause-stops : goal.returns-clause-stops
returns-clause-stops g c =
    if_err c.read_pieces-result.result _ _ (λ reported a x b. stopped g.G.Grammar.words x _ (c.args.reader, _)
    (c.read_pieces-result.new.run, _) refl b _ _ reported a) c.read_pieces-result.ensures.stops

pub returns-clause-refused : goal.returns-clause-refused
returns-clause-refused g c =
    if_err c.read_pieces-result.result _ IsRefusal
    (λ reported a. refused_document g.G.Grammar.words c.requires.begun.0 _ (c.args.reader, _)
    (c.read_pieces-result.new.run, _) refl c.requires.begun.1 _ _ reported a) c.read_pieces-result.ensures.stops

pub returns-in_err-piece-clause-expected : goal.returns-in_err-piece-clause-expected
returns-in_err-piece-clause-expected g c = none_expected g.G.Grammar.words g.G.Foresees.trees _ _ _ _ _ _ c.from_residual.ensures.1 c.none.ensures

pub returns-clause-expected : goal.returns-clause-expected
returns-clause-expected g c =
    let w = g.G.Grammar.words in
    run_expects w g.G.Foresees.trees (λ x. BeginsToRead w x c.args.reader) c.args.reader.scanner.limit (λ x b. b.lawful.ends x) (Taken w) (Halted w)
    (c.args.reader, _) (c.read_pieces-result.new.run, _) c.read_pieces-result.new.run
    (λ f bytes e h. h.1) _ _ _ _ c.read_pieces-result.ensures.stops c.details_beside.ensures

pub returns-clause-near : goal.returns-clause-near
returns-clause-near g c =
    let words = c.new-watching.ensures.words in
    hands_near c.args.near.now c.ask_again-asked.new.self c.hand_out.new.near c.read_pieces-result.new.watching.near c.new-watching.result.words _ _
    (ap (λ w. w.dialect) words ∙ (c.new.ensures.dialect ∙ c.dialect.ensures.dialect)) (ap (λ w. w.limit) words ∙ (c.new.ensures.limit ∙ c.requires.limit))
    _ _ _ c.ask_again-asked.ensures.untold c.hand_out.ensures c.read_pieces-result.ensures.near

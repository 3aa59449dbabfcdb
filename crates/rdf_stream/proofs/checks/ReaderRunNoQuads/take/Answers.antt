use Rattle.rdf_stream.proofs.Prelude.{◌≡◌, ◌+◌, ◌++◌, length}
use Rattle.rdf_stream.proofs.ChecksLemmas.{counted, few_read}
use Rattle.rdf_stream.proofs.PiecesLemmas.{if_err, on_both, on_ok}
use Rattle.rdf_stream.proofs.checks.ReaderRunNoQuads.take.Goals as goal

pub take_parts-requires : goal.take_parts-requires
take_parts-requires g c = let (first, bytes, i) = c.requires.begun in record { begun = (first, bytes, i.0) }

pub returns-clause-takes : goal.returns-clause-takes
returns-clause-takes g c =
    on_both c.take_parts.result _ _ _
    (λ t few first bytes i. few_read g.G.Grammar.words first.0 c.take_parts.new.run (bytes ++ c.args.piece.now) (t first bytes i.0) few)
    c.take_parts.ensures.takes c.take_parts.ensures.few

pub returns-clause-count : goal.returns-clause-count
returns-clause-count g c =
    let (first, bytes, i) = c.requires.begun in
    on_ok c.take_parts.result _ (c.take_parts.new.run.so_far.bytes ≡ c.args.self.now.so_far.bytes + length c.args.piece.now)
    (λ _ t. counted g.G.Grammar.words first.0 c.args.self.now c.take_parts.new.run bytes c.args.piece.now i.0 (t first bytes i.0)) c.take_parts.ensures.takes

pub returns-clause-halts : goal.returns-clause-halts
returns-clause-halts g c = if_err c.take_parts.result _ _ (λ f h first bytes i. h first bytes i.0) c.take_parts.ensures.halts

-- A run over the pieces of a source, and what it means for the job.
use Rattle.rdf_stream.proofs.Prelude.{rules, ◌∙◌, ap, output_of, SkipStops, SkipsAll, told}
use Rattle.rdf_stream.proofs.PiecesLemmas.{if_err, if_ok, reported_stops}
use Rattle.rdf_stream.proofs.SkipLemmas.{by_job, none_skips, skip_stopped, skipped_all, skipping_start}
use Rattle.rdf_stream.proofs.skips.convert_skipping.Goals as goal

pub returns-in_err-piece-in-Line-clause-stops : goal.returns-in_err-piece-in-Line-clause-stops
returns-in_err-piece-in-Line-clause-stops g c =
    reported_stops _ _ _ c.from_residual.ensures.1 (none_skips c.args.job
    (told g.S.Source c.args.source.now) _ _ _ _ c.requires.more c.requires.source c.requires.drain c.requires.bad)

pub skip_pieces-requires-clause-begun : goal.skip_pieces-requires-clause-begun
skip_pieces-requires-clause-begun g c =
    skipping_start g.D.Drain g.B.Drain _
    (record {
      fresh = ap (λ s. s.is_first) c.new-sifter.ensures.sieve ∙ c.new-sieve.ensures.fresh;
      no_quads = ap (λ s. s.quads) c.new-sifter.ensures.sieve ∙ c.new-sieve.ensures.no_quads;
      no_bad_lines = ap (λ s. s.bad_lines) c.new-sifter.ensures.sieve ∙ c.new-sieve.ensures.no_bad_lines;
    })
    c.new-sifter.ensures.part c.new-sifter.ensures.bytes c.new-sifter.ensures.line c.requires.drain c.requires.bad

pub returns-clause-skipped : goal.returns-clause-skipped
returns-clause-skipped g c =
    if_ok c.skip_pieces.result _ _
    (λ s a.
    by_job (λ j. SkipsAll j (g.S.Source.remaining c.args.source.now) (g.D.Drain.contents c.args.drain.now)
    (g.D.Drain.contents c.skip_pieces.new.drain) (g.B.Drain.contents c.args.bad.now) (g.B.Drain.contents c.skip_pieces.new.bad) s)
    c.args.job c.in-Line.form (search rules)
    c.new-sifter.result.sieve (ap (λ s. s.form) c.new-sifter.ensures.sieve ∙ c.new-sieve.ensures.form)
    (ap (λ s. s.limits) c.new-sifter.ensures.sieve ∙ (c.new-sieve.ensures.limits ∙ c.limits.ensures))
    (ap (λ s. output_of s.output) c.new-sifter.ensures.sieve ∙ (ap output_of c.new-sieve.ensures.output ∙ c.output.ensures))
    (skipped_all g.D.Drain g.B.Drain _ _ _ _ s a))
    c.skip_pieces.ensures.read

pub returns-clause-stops : goal.returns-clause-stops
returns-clause-stops g c =
    if_err c.skip_pieces.result _ _
    (λ f a.
    by_job (λ j. SkipStops f j (g.S.Source.remaining c.args.source.now) (told g.S.Source c.skip_pieces.new.source)
    (g.D.Drain.contents c.args.drain.now) (g.D.Drain.contents c.skip_pieces.new.drain) (g.B.Drain.contents c.args.bad.now)
    (g.B.Drain.contents c.skip_pieces.new.bad) (g.D.Drain.has_failed c.skip_pieces.new.drain)
    (g.B.Drain.has_failed c.skip_pieces.new.bad)) c.args.job c.in-Line.form (search rules)
    c.new-sifter.result.sieve (ap (λ s. s.form) c.new-sifter.ensures.sieve ∙ c.new-sieve.ensures.form)
    (ap (λ s. s.limits) c.new-sifter.ensures.sieve ∙ (c.new-sieve.ensures.limits ∙ c.limits.ensures))
    (ap (λ s. output_of s.output) c.new-sifter.ensures.sieve ∙ (ap output_of c.new-sieve.ensures.output ∙ c.output.ensures))
    (skip_stopped g.D.Drain g.B.Drain f _ _ _ _ a))
    c.skip_pieces.ensures.stops

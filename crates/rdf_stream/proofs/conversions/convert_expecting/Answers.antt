-- A conversion of either kind of format, from what its run has done to what the caller is reported.
use Rattle.rdf_stream.proofs.Prelude.{rules, ap, ◌∙◌, IfSome, Tagged, line_words, tree_words, Starts, Accepts, IsPrompt, StopsFor, of_quads, output, HandsOut, TellsNear, told}
use Rattle.rdf_stream.proofs.ConvertsLemmas.{lines_job, trees_job}
use Rattle.rdf_stream.proofs.DocumentLemmas.{lines_convertible, trees_convertible}
use Rattle.rdf_stream.proofs.ExpectedLemmas.{expects_err, expects_none, lines_expect, trees_expect}
use Rattle.rdf_stream.proofs.PiecesLemmas.{if_err, if_ok}
use Rattle.rdf_stream.proofs.conversions.convert_expecting.Goals as goal

pub convert_with-result-requires-clause-starts : goal.convert_with-result-requires-clause-starts
convert_with-result-requires-clause-starts g c =
    (_, record { convertible = lines_convertible _ _ (ap (λ o. o.form.style) c.output.ensures); read = c.line_reader-reader.ensures.read })

pub returns-in-Line-clause-accepted : goal.returns-in-Line-clause-accepted
returns-in-Line-clause-accepted g c =
    if_ok c.convert_with-result.result _ _
    (λ s h.
    lines_job (λ j. IfSome (g.S.Source.remaining c.args.source.now) (λ bytes. Accepts j bytes (g.D.Drain.contents c.args.drain.now)
    (g.D.Drain.contents c.convert_with-result.new.drain) s)) c.args.job c.in-Line.form (search rules)
    c.limits-limits.result.iri (search rules) c.line_reader-reader.result.scanner.limit (search rules) _ c.output.ensures
    (h _ (record { convertible = lines_convertible _ _ (ap (λ o. o.form.style) c.output.ensures); read = c.line_reader-reader.ensures.read })))
    c.convert_with-result.ensures.accepted

pub returns-in-Line-clause-stops : goal.returns-in-Line-clause-stops
returns-in-Line-clause-stops g c =
    if_err c.convert_with-result.result _ _
    (λ reported h.
    lines_job (λ j. StopsFor reported j (g.S.Source.remaining c.args.source.now) (told g.S.Source c.convert_with-result.new.source)
    (g.D.Drain.contents c.args.drain.now) (g.D.Drain.contents c.convert_with-result.new.drain)
    (g.D.Drain.has_failed c.convert_with-result.new.drain)) c.args.job c.in-Line.form (search rules)
    c.limits-limits.result.iri (search rules) c.line_reader-reader.result.scanner.limit (search rules) _ c.output.ensures
    (h _ (record { convertible = lines_convertible _ _ (ap (λ o. o.form.style) c.output.ensures); read = c.line_reader-reader.ensures.read })))
    c.convert_with-result.ensures.stops

pub returns-in-Line-clause-prompt : goal.returns-in-Line-clause-prompt
returns-in-Line-clause-prompt g c =
    lines_job (λ j. IsPrompt j (g.S.Source.remaining c.args.source.now) (told g.S.Source c.convert_with-result.new.source)
    (g.D.Drain.contents c.args.drain.now) (g.D.Drain.contents c.convert_with-result.new.drain)) c.args.job c.in-Line.form (search rules)
    c.limits-limits.result.iri (search rules) c.line_reader-reader.result.scanner.limit (search rules) _ c.output.ensures
    (c.convert_with-result.ensures.prompt _ (record {
      convertible = lines_convertible _ _ (ap (λ o. o.form.style) c.output.ensures);
      read = c.line_reader-reader.ensures.read;
    }))

pub convert_with-result-requires-in-Tree-clause-starts : goal.convert_with-result-requires-in-Tree-clause-starts
convert_with-result-requires-in-Tree-clause-starts g c =
    (_, record { convertible = trees_convertible _ _ (ap (λ o. o.form.style) c.output-in-Tree.ensures); read = c.tree_reader-reader.ensures.read })

pub returns-in-Tree-clause-accepted : goal.returns-in-Tree-clause-accepted
returns-in-Tree-clause-accepted g c =
    if_ok c.convert_with-result-in-Tree.result _ _
    (λ s h.
    trees_job (λ j. IfSome (g.S.Source.remaining c.args.source.now) (λ bytes. Accepts j bytes (g.D.Drain.contents c.args.drain.now)
    (g.D.Drain.contents c.convert_with-result-in-Tree.new.drain) s)) c.args.job c.in-Tree.form (search rules)
    c.options.result (search rules) c.tree_reader-reader.result.scanner.limit (search rules) _
    (c.output-in-Tree.ensures ∙ ap (output Tagged) c.options.ensures.left)
    (h _ (record { convertible = trees_convertible _ _ (ap (λ o. o.form.style) c.output-in-Tree.ensures); read = c.tree_reader-reader.ensures.read })))
    c.convert_with-result-in-Tree.ensures.accepted

pub returns-in-Tree-clause-stops : goal.returns-in-Tree-clause-stops
returns-in-Tree-clause-stops g c =
    if_err c.convert_with-result-in-Tree.result _ _
    (λ reported h.
    trees_job (λ j. StopsFor reported j (g.S.Source.remaining c.args.source.now) (told g.S.Source c.convert_with-result-in-Tree.new.source)
    (g.D.Drain.contents c.args.drain.now) (g.D.Drain.contents c.convert_with-result-in-Tree.new.drain)
    (g.D.Drain.has_failed c.convert_with-result-in-Tree.new.drain)) c.args.job c.in-Tree.form (search rules)
    c.options.result (search rules) c.tree_reader-reader.result.scanner.limit (search rules) _
    (c.output-in-Tree.ensures ∙ ap (output Tagged) c.options.ensures.left)
    (h _ (record { convertible = trees_convertible _ _ (ap (λ o. o.form.style) c.output-in-Tree.ensures); read = c.tree_reader-reader.ensures.read })))
    c.convert_with-result-in-Tree.ensures.stops

pub returns-in-Tree-clause-prompt : goal.returns-in-Tree-clause-prompt
returns-in-Tree-clause-prompt g c =
    trees_job (λ j. IsPrompt j (g.S.Source.remaining c.args.source.now) (told g.S.Source c.convert_with-result-in-Tree.new.source)
    (g.D.Drain.contents c.args.drain.now) (g.D.Drain.contents c.convert_with-result-in-Tree.new.drain)) c.args.job c.in-Tree.form (search rules)
    c.options.result (search rules) c.tree_reader-reader.result.scanner.limit (search rules) _
    (c.output-in-Tree.ensures ∙ ap (output Tagged) c.options.ensures.left)
    (c.convert_with-result-in-Tree.ensures.prompt _
    (record { convertible = trees_convertible _ _ (ap (λ o. o.form.style) c.output-in-Tree.ensures); read = c.tree_reader-reader.ensures.read }))

pub returns-in-Line-clause-expected : goal.returns-in-Line-clause-expected
returns-in-Line-clause-expected g c =
    expects_err _ _ _ _ _
    (lines_expect c.args.job c.in-Line.form (search rules) c.limits-limits.result.iri
    (search rules) c.line_reader-reader.result.scanner.limit (search rules)
    (λ x. Starts of_quads line_words x c.line_reader-reader.result c.output.result.lines.style)
    (record { convertible = lines_convertible _ _ (ap (λ o. o.form.style) c.output.ensures); read = c.line_reader-reader.ensures.read }) _ _
    _ _ c.convert_with-result.ensures.expected)

pub returns-in-Line-clause-none : goal.returns-in-Line-clause-none
returns-in-Line-clause-none g c =
    expects_none _ _ _ _ _
    (lines_expect c.args.job c.in-Line.form (search rules) c.limits-limits.result.iri
    (search rules) c.line_reader-reader.result.scanner.limit (search rules)
    (λ x. Starts of_quads line_words x c.line_reader-reader.result c.output.result.lines.style)
    (record { convertible = lines_convertible _ _ (ap (λ o. o.form.style) c.output.ensures); read = c.line_reader-reader.ensures.read }) _ _
    _ _ c.convert_with-result.ensures.expected)

pub returns-in-Tree-clause-expected : goal.returns-in-Tree-clause-expected
returns-in-Tree-clause-expected g c =
    expects_err _ _ _ _ _
    (trees_expect c.args.job c.in-Tree.form (search rules) c.options.result (search rules) c.tree_reader-reader.result.scanner.limit
    (search rules) (λ x. Starts of_quads tree_words x c.tree_reader-reader.result c.output-in-Tree.result.lines.style)
    (record {
      convertible = trees_convertible _ _ (ap (λ o. o.form.style) c.output-in-Tree.ensures);
      read = c.tree_reader-reader.ensures.read;
    }) _ _ _ _ c.convert_with-result-in-Tree.ensures.expected)

pub returns-in-Tree-clause-none : goal.returns-in-Tree-clause-none
returns-in-Tree-clause-none g c =
    expects_none _ _ _ _ _
    (trees_expect c.args.job c.in-Tree.form (search rules) c.options.result (search rules) c.tree_reader-reader.result.scanner.limit
    (search rules) (λ x. Starts of_quads tree_words x c.tree_reader-reader.result c.output-in-Tree.result.lines.style)
    (record {
      convertible = trees_convertible _ _ (ap (λ o. o.form.style) c.output-in-Tree.ensures);
      read = c.tree_reader-reader.ensures.read;
    }) _ _ _ _ c.convert_with-result-in-Tree.ensures.expected)

pub returns-in-Line-clause-near : goal.returns-in-Line-clause-near
returns-in-Line-clause-near g c =
    lines_job (λ j. HandsOut c.args.near.now (TellsNear j.language.dialect j.language.limit c.convert_with-result.result
    (g.S.Source.remaining c.args.source.now) (told g.S.Source c.convert_with-result.new.source)) c.convert_with-result.new.near)
    c.args.job c.in-Line.form (search rules)
    c.limits-limits.result.iri (search rules) c.line_reader-reader.result.scanner.limit (search rules) _ c.output.ensures c.convert_with-result.ensures.near

pub returns-in-Tree-clause-near : goal.returns-in-Tree-clause-near
returns-in-Tree-clause-near g c =
    trees_job (λ j. HandsOut c.args.near.now (TellsNear j.language.dialect j.language.limit c.convert_with-result-in-Tree.result
    (g.S.Source.remaining c.args.source.now) (told g.S.Source c.convert_with-result-in-Tree.new.source))
    c.convert_with-result-in-Tree.new.near) c.args.job c.in-Tree.form (search rules)
    c.options.result (search rules) c.tree_reader-reader.result.scanner.limit (search rules) _
    (c.output-in-Tree.ensures ∙ ap (output Tagged) c.options.ensures.left) c.convert_with-result-in-Tree.ensures.near

-- A check of either kind of format, from what its run has done to what the caller is reported.
use Rattle.rdf_stream.proofs.Prelude.{rules, refl, IfSome, line_words, tree_words, CheckStops, IsAccepted, BeginsToRead, reading, HandsOut, TellsNear, told}
use Rattle.rdf_lines.proofs.AcceptingLemmas.{lawful as lines_lawful}
use Rattle.rdf_trig.proofs.code.LawfulGrammar.{lawful as trees_lawful}
use Rattle.rdf_stream.proofs.ConvertsLemmas.{lines_job, trees_job}
use Rattle.rdf_stream.proofs.ExpectedLemmas.{expects_err, expects_none, lines_expect, trees_expect}
use Rattle.rdf_stream.proofs.PiecesLemmas.{if_err, if_ok}
use Rattle.rdf_stream.proofs.checks.check_expecting.Goals as goal

pub returns-in-Line-clause-stops : goal.returns-in-Line-clause-stops
returns-in-Line-clause-stops g c =
    if_err c.check_with.result _ _
    (λ reported h.
    lines_job (λ j. CheckStops reported j.language (g.S.Source.remaining c.args.source.now) (reading g.S.Source.remaining g.S.Source.last
    g.S.Source.has_ended g.S.Source.has_failed c.check_with.new.source)) c.args.job c.in-Line.form (search rules)
    c.limits-limits.result.iri (search rules) c.line_reader.result.scanner.limit (search rules) _ refl
    (h _ (record { lawful = lines_lawful; read = c.line_reader.ensures.read })))
    c.check_with.ensures.stops

pub returns-in-Tree-clause-accepted : goal.returns-in-Tree-clause-accepted
returns-in-Tree-clause-accepted g c =
    if_ok c.check_with-in-Tree.result _ _
    (λ s h.
    trees_job (λ j. IfSome (g.S.Source.remaining c.args.source.now) (λ bytes. IsAccepted j.language bytes s)) c.args.job c.in-Tree.form (search rules)
    c.options-options.result (search rules) c.tree_reader.result.scanner.limit (search rules) _ refl
    (h _ (record { lawful = trees_lawful; read = c.tree_reader.ensures.read })))
    c.check_with-in-Tree.ensures.accepted

pub returns-in-Tree-clause-stops : goal.returns-in-Tree-clause-stops
returns-in-Tree-clause-stops g c =
    if_err c.check_with-in-Tree.result _ _
    (λ reported h.
    trees_job (λ j. CheckStops reported j.language (g.S.Source.remaining c.args.source.now) (reading g.S.Source.remaining g.S.Source.last
    g.S.Source.has_ended g.S.Source.has_failed c.check_with-in-Tree.new.source)) c.args.job c.in-Tree.form
    (search rules) c.options-options.result (search rules) c.tree_reader.result.scanner.limit (search rules) _ refl
    (h _ (record { lawful = trees_lawful; read = c.tree_reader.ensures.read })))
    c.check_with-in-Tree.ensures.stops

pub returns-in-Line-clause-expected : goal.returns-in-Line-clause-expected
returns-in-Line-clause-expected g c =
    expects_err _ _ _ _ _
    (lines_expect c.args.job c.in-Line.form (search rules) c.limits-limits.result.iri (search rules) c.line_reader.result.scanner.limit
    (search rules) (λ x. BeginsToRead line_words x c.line_reader.result)
    (record { lawful = lines_lawful; read = c.line_reader.ensures.read }) _ _ _ _ c.check_with.ensures.expected)

pub returns-in-Line-clause-none : goal.returns-in-Line-clause-none
returns-in-Line-clause-none g c =
    expects_none _ _ _ _ _
    (lines_expect c.args.job c.in-Line.form (search rules) c.limits-limits.result.iri (search rules) c.line_reader.result.scanner.limit
    (search rules) (λ x. BeginsToRead line_words x c.line_reader.result)
    (record { lawful = lines_lawful; read = c.line_reader.ensures.read }) _ _ _ _ c.check_with.ensures.expected)

pub returns-in-Tree-clause-expected : goal.returns-in-Tree-clause-expected
returns-in-Tree-clause-expected g c =
    expects_err _ _ _ _ _
    (trees_expect c.args.job c.in-Tree.form (search rules) c.options-options.result (search rules) c.tree_reader.result.scanner.limit
    (search rules) (λ x. BeginsToRead tree_words x c.tree_reader.result)
    (record { lawful = trees_lawful; read = c.tree_reader.ensures.read }) _ _ _ _ c.check_with-in-Tree.ensures.expected)

pub returns-in-Tree-clause-none : goal.returns-in-Tree-clause-none
returns-in-Tree-clause-none g c =
    expects_none _ _ _ _ _
    (trees_expect c.args.job c.in-Tree.form (search rules) c.options-options.result (search rules) c.tree_reader.result.scanner.limit
    (search rules) (λ x. BeginsToRead tree_words x c.tree_reader.result)
    (record { lawful = trees_lawful; read = c.tree_reader.ensures.read }) _ _ _ _ c.check_with-in-Tree.ensures.expected)

pub returns-in-Line-clause-near : goal.returns-in-Line-clause-near
returns-in-Line-clause-near g c =
    lines_job (λ j. HandsOut c.args.near.now (TellsNear j.language.dialect j.language.limit c.check_with.result
    (g.S.Source.remaining c.args.source.now) (told g.S.Source c.check_with.new.source)) c.check_with.new.near) c.args.job c.in-Line.form (search rules)
    c.limits-limits.result.iri (search rules) c.line_reader.result.scanner.limit (search rules) _ refl c.check_with.ensures.near

pub returns-in-Tree-clause-near : goal.returns-in-Tree-clause-near
returns-in-Tree-clause-near g c =
    trees_job (λ j. HandsOut c.args.near.now (TellsNear j.language.dialect j.language.limit c.check_with-in-Tree.result
    (g.S.Source.remaining c.args.source.now) (told g.S.Source c.check_with-in-Tree.new.source)) c.check_with-in-Tree.new.near)
    c.args.job c.in-Tree.form (search rules)
    c.options-options.result (search rules) c.tree_reader.result.scanner.limit (search rules) _ refl c.check_with-in-Tree.ensures.near

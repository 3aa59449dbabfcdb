-- A front of the text: its lines are put as they stand, or a failure to put them stops the run, whatever comes after it.
use Rattle.rdf_stream.proofs.Prelude.{◌≡◌, ◌++◌, ◌∙◌, false, ap, append_assoc, drop, rules, subst, sym, take, take-append-drop, written_as, RunHalts, PutHalts, Writes, of_quads}
use Rattle.rdf_stream.proofs.ConvertingLemmas.{kept_where, live_now, pass_halts, quad_lines, run_passes}
use Rattle.rdf_stream.proofs.ConvertsLemmas.{halts_more}
use Rattle.rdf_stream.proofs.ExpectedLemmas.{stands_unput}
use Rattle.rdf_stream.proofs.GrowthLemmas.{grows_both, grows_moved, refusal_grows}
use Rattle.rdf_stream.proofs.LineOutLemmas.{put_sent}
use Rattle.rdf_stream.proofs.PartsLemmas.{ascii_take, low_written}
use Rattle.rdf_stream.proofs.conversions.ReaderPartsLineOut.pass_front.Goals as goal

pub append-requires : goal.append-requires
append-requires g c =
    let (first, bytes, i) = c.requires.begun in
    record {
      live = live_now of_quads quad_lines g.D.Drain.contents g.D.Drain.has_failed g.G.Grammar.words g.G.Passes.style first.0 first.1 bytes
          c.args.self.now c.args.lines.now i;
    }

pub returns-in-Ok-clause-takes : goal.returns-in-Ok-clause-takes
returns-in-Ok-clause-takes g c = λ first bytes i.
    let is : c.as_bytes.result.now ≡ c.args.text.now = search rules in
    run_passes g.D.Drain.contents g.D.Drain.has_failed g.G.Grammar.words g.G.Passes.style first.0 first.1 bytes c.args.self.now
    c.args.lines.now i (take c.pass-passed.result c.args.text.now) _ (kept_where c.args.lines.now.form c.args.is_ascii _ (search rules)
    (λ e. low_written c.args.ending _ (ascii_take c.pass-passed.result c.args.text.now (c.requires.ascii e)))) _ c.pass-passed.ensures.passes _
    c.in-Ok.ensures.same (subst (λ t. Writes g.D.Drain.contents c.args.lines.now
    (written_as c.args.ending (take c.pass-passed.result t)) c.append.new.self) is c.in-Ok.ensures.writes) c.in-Ok.ensures.live

pub returns-in-Err-clause-halts : goal.returns-in-Err-clause-halts
returns-in-Err-clause-halts g c = λ more first bytes i.
    let text = c.args.text.now in
    let is : c.as_bytes.result.now ≡ text = search rules in
    let reported = subst (λ t. PutHalts g.D.Drain.contents g.D.Drain.has_failed c.in-Err.fault c.args.lines.now
    (written_as c.args.ending (take c.pass-passed.result t)) c.append.new.self) is c.in-Err.ensures.halts in
    let part = take c.pass-passed.result text in
    let rest = drop c.pass-passed.result text in
    let halts = pass_halts g.D.Drain.contents g.D.Drain.has_failed g.G.Grammar.words g.G.Passes.style first.0 first.1 bytes c.args.self.now
    c.args.lines.now i part _ (kept_where c.args.lines.now.form c.args.is_ascii _ (search rules)
    (λ e. low_written c.args.ending _ (ascii_take c.pass-passed.result c.args.text.now (c.requires.ascii e)))) _
    c.pass-passed.ensures.passes _ _ c.in-Err.ensures.same reported in
    let whole : (bytes ++ part) ++ (rest ++ more) ≡ bytes ++ (text ++ more) = append_assoc bytes part (rest ++ more)
    ∙ (ap (λ l. bytes ++ l) (sym (append_assoc part rest more)) ∙ ap (λ l. bytes ++ (l ++ more)) (take-append-drop c.pass-passed.result text)) in (
      subst (λ b. RunHalts of_quads g.D.Drain.contents g.D.Drain.has_failed g.G.Grammar.words c.in-Err.fault first.0 first.1 b false c.append.new.self) whole
          (halts_more of_quads g.D.Drain.contents g.D.Drain.has_failed g.G.Grammar.words c.in-Err.fault first.0 first.1 (bytes ++ part)
          (rest ++ more) c.append.new.self halts),
      put_sent g.D.Drain.contents g.D.Drain.has_failed _ _ _ c.in-Err.fault _ c.in-Err.ensures.halts,
      λ x b. stands_unput g.D.Drain.contents g.D.Drain.has_failed g.G.Grammar.words x first.0.scanner.limit c.in-Err.fault _ _ _ _ _ _ c.in-Err.ensures.halts,
    )

pub returns-in-Ok-clause-stays : goal.returns-in-Ok-clause-stays
returns-in-Ok-clause-stays g c =
    λ first s. grows_both g.D.Drain.contents _ _ _ s (grows_moved g.D.Drain.contents _ _ _ _ c.in-Ok.ensures.same c.in-Ok.ensures.writes)

pub returns-in-Err-clause-stays : goal.returns-in-Err-clause-stays
returns-in-Err-clause-stays g c = λ first s. grows_both g.D.Drain.contents _ _ _ s
    (refusal_grows g.D.Drain.contents g.D.Drain.has_failed _ _ _ _ c.in-Err.ensures.same c.in-Err.ensures.halts)

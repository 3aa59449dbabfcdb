-- What is written for lines with any escapes is put. A failure to hand it over, or want of memory for more, stops the run, whatever comes after it.
use Rattle.rdf_stream.proofs.Prelude.{◌≡◌, ◌++◌, ◌∙◌, [], ℕ, Bool, List, Option, false, true, ap, append_assoc, drop, rules, subst, sym, take, false≢true, append-nil, take-append-drop, Quad, Driven, Style, StreamFault, LineOut, IsPutting, RunHalts, OnlyGrows, PutHalts, SameOut, RewritesText, of_quads}
use Rattle.rdf_driver.specs.Words.{Words}
use Rattle.rdf_stream.specs.WrittenForms.{keeps_lines}
use Rattle.rdf_stream.proofs.ConvertingLemmas.{kept_where, live_now, quad_lines, run_passes, run_stops}
use Rattle.rdf_stream.proofs.ConvertsLemmas.{halts_more}
use Rattle.rdf_stream.proofs.ExpectedLemmas.{stands_unput}
use Rattle.rdf_stream.proofs.GrowthLemmas.{grows_both, grows_moved, refusal_grows}
use Rattle.rdf_stream.proofs.LineOutLemmas.{put_sent, rewritten_waits, rewritten_writes, same_out}
use Rattle.rdf_stream.proofs.conversions.ReaderPartsLineOut.pass_escaped.Goals as goal

-- Some text was passed, and what is written for it waits.
module _ {G X D A : Type 0} (contents : D → Option (List ℕ)) (failed : D → Bool) (w : Words G X Quad) (style : Style) (reader : Driven G)
    (first : LineOut D A) (bytes : List ℕ) (old : Driven G) (lines : LineOut D A)
    (keeps : keeps_lines lines.form false ≡ true) (text : List ℕ) (n : ℕ) (new : Driven G) (mid : LineOut D A) (same : SameOut lines mid)
    (drain : mid.drain.now ≡ lines.drain.now)
    (p : RewritesText w style old (take n text) new lines.buffer.now mid.buffer.now) where
  -- it was put
  waiting : IsPutting of_quads contents failed w style reader first bytes old lines →
      IsPutting of_quads contents failed w style reader first (bytes ++ take n text) new mid
  waiting i =
      run_passes contents failed w style reader first bytes old lines i (take n text) p.written
      (kept_where lines.form false p.written keeps (λ e. absurd (false≢true e))) new p.passes mid same
      (rewritten_waits contents lines mid p.written drain p.appended)
      (ap failed drain ∙ live_now of_quads quad_lines contents failed w style reader first bytes old lines i)

  module _ (reported : StreamFault) (after : LineOut D A) (moved : SameOut mid after) (h : PutHalts contents failed reported mid [] after) where
    -- then the run stops
    stops : IsPutting of_quads contents failed w style reader first bytes old lines → (more : List ℕ) →
        RunHalts of_quads contents failed w reported reader first (bytes ++ (text ++ more)) false after
    stops i more =
        let part = take n text in
        let rest = drop n text in
        let whole : (bytes ++ part) ++ (rest ++ more) ≡ bytes ++ (text ++ more) = append_assoc bytes part (rest ++ more)
        ∙ (ap (λ l. bytes ++ l) (sym (append_assoc part rest more)) ∙ ap (λ l. bytes ++ (l ++ more)) (take-append-drop n text)) in
        subst (λ b. RunHalts of_quads contents failed w reported reader first b false after) whole
        (halts_more of_quads contents failed w reported reader first (bytes ++ part) (rest ++ more) after
        (run_stops of_quads quad_lines contents failed w style reader first (bytes ++ part) new mid (waiting i) reported after moved h))

    -- the drain only grew
    grown : OnlyGrows contents first lines → OnlyGrows contents first after
    grown s =
        grows_both contents first lines after s
        (grows_both contents lines mid after (grows_moved contents lines mid _ _ same
        (rewritten_waits contents lines mid p.written drain p.appended)) (refusal_grows contents failed reported mid after [] moved h))

pub settle-requires : goal.settle-requires
settle-requires g c =
    let (first, bytes, i) = c.requires.begun in
    record {
      live = ap g.D.Drain.has_failed c.pass_escaped.ensures.drain ∙ live_now of_quads quad_lines g.D.Drain.contents g.D.Drain.has_failed
          g.G.Grammar.words g.G.Passes.style first.0 first.1 bytes c.args.self.now c.args.lines.now i;
    }

pub handed_over-requires : goal.handed_over-requires
handed_over-requires g c =
    let (first, bytes, i) = c.requires.begun in
    record {
      live = ap g.D.Drain.has_failed c.pass_escaped.ensures.drain ∙ live_now of_quads quad_lines g.D.Drain.contents g.D.Drain.has_failed
          g.G.Grammar.words g.G.Passes.style first.0 first.1 bytes c.args.self.now c.args.lines.now i;
    }

pub returns-in-Ok-settle-clause-takes : goal.returns-in-Ok-settle-clause-takes
returns-in-Ok-settle-clause-takes g c = λ first bytes i.
    let e = c.pass_escaped.ensures in
    let p = c.in-Ok.ensures.passes in
    run_passes g.D.Drain.contents g.D.Drain.has_failed g.G.Grammar.words g.G.Passes.style first.0 first.1 bytes c.args.self.now
    c.args.lines.now i (take c.in-Ok.passed c.args.text.now) p.written
    (kept_where c.args.lines.now.form false p.written (search rules) (λ e. absurd (false≢true e))) _ p.passes _
    (same_out c.args.lines.now c.pass_escaped.new.self c.settle.new.self e.same c.settle.ensures.same)
    (rewritten_writes g.D.Drain.contents c.args.lines.now c.pass_escaped.new.self c.settle.new.self p.written e.drain p.appended
    c.in-Ok-settle.ensures.writes) c.in-Ok-settle.ensures.live

pub returns-in-Ok-settle-clause-stays : goal.returns-in-Ok-settle-clause-stays
returns-in-Ok-settle-clause-stays g c = λ first s.
    let e = c.pass_escaped.ensures in
    let p = c.in-Ok.ensures.passes in
    grows_both g.D.Drain.contents _ _ _ s (grows_moved g.D.Drain.contents _ _ _ _
    (same_out c.args.lines.now c.pass_escaped.new.self c.settle.new.self e.same c.settle.ensures.same)
    (rewritten_writes g.D.Drain.contents c.args.lines.now c.pass_escaped.new.self c.settle.new.self p.written e.drain p.appended
    c.in-Ok-settle.ensures.writes))

pub returns-in-Err-settle-clause-halts : goal.returns-in-Err-settle-clause-halts
returns-in-Err-settle-clause-halts g c = λ more first bytes i. (
  stops g.D.Drain.contents g.D.Drain.has_failed g.G.Grammar.words g.G.Passes.style first.0 first.1 bytes c.args.self.now c.args.lines.now
      (search rules) c.args.text.now c.in-Ok.passed _ c.pass_escaped.new.self c.pass_escaped.ensures.same c.pass_escaped.ensures.drain c.in-Ok.ensures.passes
      c.in-Err-settle.fault c.settle.new.self c.settle.ensures.same c.in-Err-settle.ensures.halts i more,
  put_sent g.D.Drain.contents g.D.Drain.has_failed _ _ _ c.in-Err-settle.fault _ c.in-Err-settle.ensures.halts,
  λ x b. stands_unput g.D.Drain.contents g.D.Drain.has_failed g.G.Grammar.words x first.0.scanner.limit c.in-Err-settle.fault _ _ _ _ _ _
      c.in-Err-settle.ensures.halts,
)

pub returns-in-Err-settle-clause-stays : goal.returns-in-Err-settle-clause-stays
returns-in-Err-settle-clause-stays g c = λ first s.
    grown g.D.Drain.contents g.D.Drain.has_failed g.G.Grammar.words g.G.Passes.style first.0 first.1 [] c.args.self.now c.args.lines.now
    (search rules) c.args.text.now c.in-Ok.passed _ c.pass_escaped.new.self c.pass_escaped.ensures.same c.pass_escaped.ensures.drain c.in-Ok.ensures.passes
    c.in-Err-settle.fault c.settle.new.self c.settle.ensures.same c.in-Err-settle.ensures.halts s

pub returns-in-Err-clause-halts : goal.returns-in-Err-clause-halts
returns-in-Err-clause-halts g c = λ more first bytes i.
    let (n, p) = c.in-Err.ensures.refused in (
      stops g.D.Drain.contents g.D.Drain.has_failed g.G.Grammar.words g.G.Passes.style first.0 first.1 bytes c.args.self.now
          c.args.lines.now (search rules) c.args.text.now n _ c.pass_escaped.new.self c.pass_escaped.ensures.same c.pass_escaped.ensures.drain p
          c.handed_over.result c.handed_over.new.lines c.handed_over.ensures.same c.handed_over.ensures.halts i more,
      put_sent g.D.Drain.contents g.D.Drain.has_failed _ _ _ c.handed_over.result _ c.handed_over.ensures.halts,
      λ x b. stands_unput g.D.Drain.contents g.D.Drain.has_failed g.G.Grammar.words x first.0.scanner.limit c.handed_over.result _ _ _ _ _ _
          c.handed_over.ensures.halts,
    )

pub returns-in-Err-clause-stays : goal.returns-in-Err-clause-stays
returns-in-Err-clause-stays g c = λ first s.
    let (n, p) = c.in-Err.ensures.refused in
    grown g.D.Drain.contents g.D.Drain.has_failed g.G.Grammar.words g.G.Passes.style first.0 first.1 [] c.args.self.now c.args.lines.now
    (search rules) c.args.text.now n _ c.pass_escaped.new.self c.pass_escaped.ensures.same c.pass_escaped.ensures.drain p
    c.handed_over.result c.handed_over.new.lines c.handed_over.ensures.same c.handed_over.ensures.halts s

pub returns-then-not-keeps_lines-clause-takes : goal.returns-then-not-keeps_lines-clause-takes
returns-then-not-keeps_lines-clause-takes g c = λ first bytes i.
    subst (λ b. IsPutting of_quads g.D.Drain.contents g.D.Drain.has_failed g.G.Grammar.words g.G.Passes.style first.0 first.1 b c.args.self.now
    c.args.lines.now) (sym (append-nil bytes)) i

-- A piece: its lines are handed over, and an error within it or of the drain stops the run.
use Rattle.rdf_stream.proofs.Prelude.{rules, ap, ◌+◌, ◌≤◌, ◌∙◌, length, length-append, subst, sym, most_bytes, of_quads}
use Rattle.rdf_stream.proofs.ConvertingLemmas.{count_now, live_now, putting, quad_lines, run_broke, run_handed}
use Rattle.rdf_stream.proofs.GrowthLemmas.{grows_both, grows_by, grows_front}
use Rattle.rdf_stream.proofs.conversions.ReaderRunLineOut.take.Goals as goal

pub take_parts-requires : goal.take_parts-requires
take_parts-requires g c =
    let (first, bytes, i) = c.requires.begun in
    record {
      begun = (
        first,
        bytes,
        putting of_quads g.D.Drain.contents g.D.Drain.has_failed g.G.Grammar.words g.G.Passes.style first.0 first.1 bytes
            c.args.self.now c.args.lines.now i,
      );
    }

pub hand_over-requires : goal.hand_over-requires
hand_over-requires g c =
    let (first, bytes, i) = c.requires.begun in
    let put = putting of_quads g.D.Drain.contents g.D.Drain.has_failed g.G.Grammar.words g.G.Passes.style first.0 first.1 bytes c.args.self.now
    c.args.lines.now i in
    record {
      live = live_now of_quads quad_lines g.D.Drain.contents g.D.Drain.has_failed g.G.Grammar.words g.G.Passes.style first.0 first.1 _ _ _
          (c.in-Ok.ensures.takes first bytes put);
    }

pub returns-in-Ok-hand_over-clause-takes : goal.returns-in-Ok-hand_over-clause-takes
returns-in-Ok-hand_over-clause-takes g c = λ first bytes i.
    let put = putting of_quads g.D.Drain.contents g.D.Drain.has_failed g.G.Grammar.words g.G.Passes.style first.0 first.1 bytes c.args.self.now
    c.args.lines.now i in
    run_handed of_quads quad_lines g.D.Drain.contents g.D.Drain.has_failed g.G.Grammar.words g.G.Passes.style first.0 first.1 _ _ _
    (c.in-Ok.ensures.takes first bytes put) _
    (search rules) (search rules) (search rules) (search rules)
    (subst (λ n. n ≤ most_bytes) (count_now of_quads quad_lines g.D.Drain.contents g.D.Drain.has_failed g.G.Grammar.words g.G.Passes.style first.0 first.1 _ _ _
    (c.in-Ok.ensures.takes first bytes put)) c.in-Ok.ensures.few)

pub returns-in-Ok-hand_over-clause-count : goal.returns-in-Ok-hand_over-clause-count
returns-in-Ok-hand_over-clause-count g c =
    let (first, bytes, i) = c.requires.begun in
    let put = putting of_quads g.D.Drain.contents g.D.Drain.has_failed g.G.Grammar.words g.G.Passes.style first.0 first.1 bytes c.args.self.now
    c.args.lines.now i in
    let before = count_now of_quads quad_lines g.D.Drain.contents g.D.Drain.has_failed g.G.Grammar.words g.G.Passes.style first.0 first.1 bytes c.args.self.now
    c.args.lines.now put in
    count_now of_quads quad_lines g.D.Drain.contents g.D.Drain.has_failed g.G.Grammar.words g.G.Passes.style first.0 first.1 _ _ _
    (c.in-Ok.ensures.takes first bytes put)
    ∙ (length-append bytes c.args.piece.now ∙ ap (λ n. n + length c.args.piece.now) (sym before))

pub returns-in-Ok-hand_over-clause-stays : goal.returns-in-Ok-hand_over-clause-stays
returns-in-Ok-hand_over-clause-stays g c = λ first s. grows_both g.D.Drain.contents _ _ _ (c.in-Ok.ensures.stays first s)
    (grows_by g.D.Drain.contents _ _ c.take_parts.new.out.buffer.now (search rules) (search rules))

pub returns-in-Err-hand_over-clause-stays : goal.returns-in-Err-hand_over-clause-stays
returns-in-Err-hand_over-clause-stays g c = λ first s. grows_both g.D.Drain.contents _ _ _ (c.in-Ok.ensures.stays first s)
    (grows_front g.D.Drain.contents _ _ c.take_parts.new.out.buffer.now (search rules) (search rules))

pub returns-in-Err-hand_over-clause-halts : goal.returns-in-Err-hand_over-clause-halts
returns-in-Err-hand_over-clause-halts g c = λ first bytes i.
    let put = putting of_quads g.D.Drain.contents g.D.Drain.has_failed g.G.Grammar.words g.G.Passes.style first.0 first.1 bytes c.args.self.now
    c.args.lines.now i in (
      run_broke of_quads quad_lines g.D.Drain.contents g.D.Drain.has_failed g.G.Grammar.words g.G.Passes.style first.0 first.1 _ _ _
          (c.in-Ok.ensures.takes first bytes put) _
          (search rules) (search rules) (search rules),
      tt,
      λ x b. tt,
    )

pub returns-in-Err-clause-stays : goal.returns-in-Err-clause-stays
returns-in-Err-clause-stays g c = c.in-Err.ensures.stays

pub returns-in-Err-clause-halts : goal.returns-in-Err-clause-halts
returns-in-Err-clause-halts g c = λ first bytes i.
    c.in-Err.ensures.halts first bytes (putting of_quads g.D.Drain.contents g.D.Drain.has_failed g.G.Grammar.words g.G.Passes.style first.0 first.1
    bytes c.args.self.now c.args.lines.now i)

use Rattle.rdf_stream.proofs.Prelude.{sym, subst, ◌++◌, false, append_assoc, CheckHalts, StandsFor}
use Rattle.rdf_stream.proofs.ChecksLemmas.{halts_more, piece_halts}
use Rattle.rdf_stream.proofs.ExpectedLemmas.{stands_in_piece, stands_more}
use Rattle.rdf_stream.proofs.checks.ReaderPartsNoQuads.read_part.Goals as goal

pub returns-in-Err-clause-halts : goal.returns-in-Err-clause-halts
returns-in-Err-clause-halts g c = λ more first bytes i.
    let part = c.args.part.now in
    let w = g.G.Grammar.words in
    let limit = first.0.scanner.limit in
    let halts = subst (λ reported. CheckHalts w reported first.0 (bytes ++ part) false) (sym c.from.ensures)
    (piece_halts w first.0 c.args.self.now bytes i part _ _ _ c.in-Err.fault.reason c.in-Err.fault.offset c.in-Err.fault.line c.in-Err.ensures.err) in (
      subst (λ b. CheckHalts w c.from.result first.0 b false) (append_assoc bytes part more) (halts_more w c.from.result first.0 (bytes ++ part) more halts),
      λ x b.
          let (quads, read) = i.read x b in
          subst (λ all. StandsFor w x limit c.from.result all false c.feed.new.self) (append_assoc bytes part more)
          (stands_more w x limit (b.lawful.ends x) c.feed.new.self c.from.result (bytes ++ part) more
          (subst (λ reported. StandsFor w x limit reported (bytes ++ part) false c.feed.new.self) (sym c.from.ensures)
          (stands_in_piece w x c.args.self.now bytes quads read limit i.limit _ _ _ _ _ _ c.in-Err.fault.offset c.in-Err.fault.line part
          c.in-Err.fault.reason c.in-Err.ensures.err))),
    )

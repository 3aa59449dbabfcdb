use Rattle.rdf_stream.proofs.Prelude.{rules, ap, ◌∙◌, of_quads, output_of}
use Rattle.rdf_stream.proofs.ConvertsLemmas.{Stood, begins, begun_fresh, converted, over_empty, stopped}
use Rattle.rdf_stream.proofs.PiecesLemmas.{if_err, if_ok}
use Rattle.rdf_stream.proofs.ConvertingLemmas.{quad_lines}
use Rattle.rdf_stream.proofs.conversions.convert_whole.Goals as goal

pub read_bytes-requires : goal.read_bytes-requires
read_bytes-requires g c = record {
  begun =
      begins _ of_quads quad_lines g.D.Drain.contents g.D.Drain.has_failed g.D.Drain.is_flushed g.G.Grammar.words g.G.Passes.style c.requires.starts.0
      (c.args.reader, c.new-lines.result)
      (begun_fresh _ of_quads quad_lines g.D.Drain.contents g.D.Drain.has_failed g.D.Drain.is_flushed g.G.Grammar.words g.G.Passes.style _
      (output_of c.args.output) (c.args.reader, c.new-lines.result) _
      (over_empty _ _ _ _ _ c.new-lines.ensures.form c.new-lines.ensures.buffer c.new-buffer.ensures c.new-lines.ensures.drain
      c.requires.drain) c.requires.starts.1)
      (ap (λ o. o.form.style) (ap output_of c.new-lines.ensures.form) ∙ c.requires.styled);
}

pub returns-clause-accepted : goal.returns-clause-accepted
returns-clause-accepted g c =
    if_ok c.read_bytes.result _ _
    (λ s a x b.
    converted _ of_quads quad_lines g.D.Drain.contents g.D.Drain.has_failed g.D.Drain.is_flushed g.G.Grammar.words g.G.Passes.style x (output_of c.args.output)
    (c.args.reader, c.new-lines.result)
    (c.read_bytes.new.run, c.read_bytes.new.out) _ _
    (over_empty _ _ _ _ _ c.new-lines.ensures.form c.new-lines.ensures.buffer c.new-buffer.ensures c.new-lines.ensures.drain
    c.requires.drain) (search rules) b _ _ s a)
    c.read_bytes.ensures.read

pub returns-clause-stops : goal.returns-clause-stops
returns-clause-stops g c =
    if_err c.read_bytes.result _ _
    (λ reported a x b. (
      a.0,
      stopped _ of_quads quad_lines g.D.Drain.contents g.D.Drain.has_failed g.D.Drain.is_flushed g.G.Grammar.words g.G.Passes.style x (output_of c.args.output)
          (c.args.reader, c.new-lines.result)
          (c.read_bytes.new.run, c.read_bytes.new.out) _ _
          (over_empty _ _ _ _ _ c.new-lines.ensures.form c.new-lines.ensures.buffer c.new-buffer.ensures c.new-lines.ensures.drain
          c.requires.drain) (search rules) b _ _ (Stood g.D.Drain.has_failed g.G.Grammar.words) reported a.1,
    ))
    c.read_bytes.ensures.stops

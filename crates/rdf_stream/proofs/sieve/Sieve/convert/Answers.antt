use Rattle.rdf_stream.proofs.Prelude.{Some, ap, inl, refl, subst, arith, line_words, Rules, in_lines, place_of, Accepts, conversion, of_quads, output_of}
use Rattle.rdf_stream.proofs.DocumentLemmas.{lines_convertible}
use Rattle.rdf_stream.proofs.SieveLemmas.{converted_good, mark_bad, mark_had, refusal, refused_bad, refused_for, refused_place}
use Rattle.rdf_stream.proofs.sieve.Sieve.convert.Goals as goal

pub returns-then-is_marked-clause-tried : goal.returns-then-is_marked-clause-tried
returns-then-is_marked-clause-tried g c =
    let m = c.is_marked.ensures.marked c.if-is_marked.true in
    record {
      is_bad = mark_bad (in_lines c.args.self.now.form c.args.self.now.limits.token c.args.self.now.limits.iri) c.args.self.now.is_first
          c.args.bytes.now m.0 m.1;
      why = inl (m.0, mark_had c.args.bytes.now m.1, refl);
      place = record { within = omega arith; line = refl };
    }

pub convert_whole-requires-clause-starts : goal.convert_whole-requires-clause-starts
convert_whole-requires-clause-starts g c = (_, record { convertible = lines_convertible _ _ c.requires.styled; read = c.line_reader-reader.ensures.read })

pub returns-in-Ok-convert_whole-clause-tried : goal.returns-in-Ok-convert_whole-clause-tried
returns-in-Ok-convert_whole-clause-tried g c =
    let s = c.args.self.now in
    let x : Rules = record { form = s.form; iri = s.limits.iri } in
    let o = output_of s.output in
    let given = c.in-Ok-convert_whole.ensures.accepted x
    (record { convertible = lines_convertible _ _ c.requires.styled; read = c.line_reader-reader.ensures.read }) in
    let r = converted_good s.form s.limits.token s.limits.iri o.form o.graph s.is_first c.args.bytes.now c.in-Ok.kept.bytes.items
    c.convert_whole.new.drain.bytes.items c.in-Ok-convert_whole.summary c.in-Ok.ensures.none
    (c.is_marked.ensures.unmarked c.if-is_marked.false)
    (subst (λ n. Accepts (conversion of_quads line_words x n o) c.args.bytes.now (Some c.in-Ok.kept.bytes.items)
    (Some c.convert_whole.new.drain.bytes.items) c.in-Ok-convert_whole.summary) c.line_reader-reader.ensures.token given) in
    record { quads = r.0; is_good = r.1; lines = r.2; count = r.3 }

pub returns-in-Err-Refused-clause-tried : goal.returns-in-Err-Refused-clause-tried
returns-in-Err-Refused-clause-tried g c =
    let s = c.args.self.now in
    let x : Rules = record { form = s.form; iri = s.limits.iri } in
    let n = c.line_reader-reader.result.scanner.limit in
    let f = c.in-Err-Refused.fault in
    let job = conversion of_quads line_words x n (output_of s.output) in
    let stops = c.in-Err-Refused.ensures.stops x (record { convertible = lines_convertible _ _ c.requires.styled; read = c.line_reader-reader.ensures.read }) in
    let same = ap (λ k. in_lines s.form k s.limits.iri) c.line_reader-reader.ensures.token in
    let refused = refusal c.in-Err-Refused.field-0 f c.in-Err-Refused.field-0-is job (Some c.args.bytes.now) _ _ _ _ stops.1 in
    let why = refused_for job s.form s.limits.token s.limits.iri same s.is_first c.args.bytes.now f _ _
    (c.is_marked.ensures.unmarked c.if-is_marked.false) refused in
    record {
      is_bad = refused_bad job s.form s.limits.token s.limits.iri same s.is_first c.args.bytes.now f.reason (place_of f) _ _ refused;
      why = why.0;
      place = refused_place (in_lines s.form s.limits.token s.limits.iri) c.args.bytes.now f.reason (place_of f) why.1;
    }

use Rattle.rdf_lines.proofs.Prelude.{ℕ, List, ◌++◌, [], ◌∷◌, append_assoc, ap, sym, ◌∙◌, arith, Escapes, form_of, space, graph_bytes, subject_bytes, term_bytes, Placed-as, Placed-then}
use Rattle.rdf_lines.specs.WrittenBytes.{iri_bytes}
use Rattle.rdf_lines.proofs.EncodedLine.{encoded_line}
use Rattle.rdf_lines.proofs.writer.at_once.place_line.Goals as goal

pub place_object-fourth-requires-clause-room : goal.place_object-fourth-requires-clause-room
place_object-fourth-requires-clause-room g c =
    let subject = c.place_subject-second.ensures in
    let predicate = c.place_spaced-third.ensures in
    omega (arith, c.requires.room, subject.within, subject.placed.len, predicate.within, predicate.placed.len)

pub place_graph-last-requires-clause-room : goal.place_graph-last-requires-clause-room
place_graph-last-requires-clause-room g c =
    let subject = c.place_subject-second.ensures in
    let predicate = c.place_spaced-third.ensures in
    let object = c.place_object-fourth.ensures in
    omega (arith, c.requires.room, subject.within, subject.placed.len, predicate.within, predicate.placed.len, object.within, object.placed.len)

pub place_two-requires : goal.place_two-requires
place_two-requires g c =
    let subject = c.place_subject-second.ensures in
    let predicate = c.place_spaced-third.ensures in
    let object = c.place_object-fourth.ensures in
    let graph = c.place_graph-last.ensures in
    omega (
      arith,
      c.requires.room,
      subject.within,
      subject.placed.len,
      predicate.within,
      predicate.placed.len,
      object.within,
      object.placed.len,
      graph.within,
      graph.placed.len,
    )

pub returns : goal.returns
returns g c =
    let quad = c.args.quad.now in
    let form = form_of c.args.form.now in
    let plain = c.requires.plain in
    let subject = subject_bytes form quad.subject ++ space in
    let object = term_bytes form quad.object ++ space in
    let graph = graph_bytes form quad.graph in
    let front : Escapes → List ℕ = λ e. subject ++ (iri_bytes e quad.predicate ++ space) ++ object ++ graph in
    let parts = ap (λ e. front e ++ 46 ∷ 10 ∷ []) (sym plain) ∙ sym (append_assoc (front form.escapes) (46 ∷ []) (10 ∷ [])) in
    let terms = Placed-then (Placed-then c.place_subject-second.ensures.placed c.place_spaced-third.ensures.placed) c.place_object-fourth.ensures.placed in
    Placed-as (parts ∙ sym (encoded_line form quad)) (Placed-then (Placed-then terms c.place_graph-last.ensures.placed) c.place_two.ensures)

use Rattle.rdf_lines.proofs.Prelude.{ap, sym, ◌∙◌, form_of, prefix_chars, node_bytes, Placed-as}
use Rattle.rdf_lines.proofs.EncodedLine.{encoded_prefix}
use Rattle.rdf_lines.proofs.PlacedLines.{placed_anon, placed_cell, placed_label}
use Rattle.rdf_lines.proofs.writer.at_once.place_node.Goals as goal

pub returns-in-Label-clause-placed : goal.returns-in-Label-clause-placed
returns-in-Label-clause-placed c =
    let f = c.args.form.now in
    Placed-as (placed_label f.style f.escapes (prefix_chars f.prefix) f.prefix.word.now c.in-Label.label (encoded_prefix f.prefix)
    ∙ sym (ap (node_bytes (form_of f)) c.in-Label.is)) c.place_label.ensures.placed

pub returns-in-Anon-clause-placed : goal.returns-in-Anon-clause-placed
returns-in-Anon-clause-placed c =
    let f = c.args.form.now in
    Placed-as (placed_anon f.style f.escapes (prefix_chars f.prefix) f.prefix.word.now c.in-Anon.offset (encoded_prefix f.prefix)
    ∙ sym (ap (node_bytes (form_of f)) c.in-Anon.is)) c.place_number.ensures.placed

pub returns-in-Cell-clause-placed : goal.returns-in-Cell-clause-placed
returns-in-Cell-clause-placed c =
    let f = c.args.form.now in
    Placed-as (placed_cell f.style f.escapes (prefix_chars f.prefix) f.prefix.word.now c.in-Cell.offset (encoded_prefix f.prefix)
    ∙ sym (ap (node_bytes (form_of f)) c.in-Cell.is)) c.place_number-in-Cell.ensures.placed

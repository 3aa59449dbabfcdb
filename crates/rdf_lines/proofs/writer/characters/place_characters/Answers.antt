use Rattle.rdf_lines.proofs.Prelude.{◌≡◌, true, ap, sym, ◌∙◌, flat_map, goes_over, all_have, escaped, Placed-as}
use Rattle.rdf_terms.specs.declared.runs.Run.TheVariants.{QuoteText}
use Rattle.rdf_lines.specs.declared.form.Escapes.TheVariants.{Plain}
use Rattle.rdf_lines.proofs.EscapedRuns.{text_stands}
use Rattle.rdf_lines.proofs.PlacedCharacters.{escaped_by_bytes}
use Rattle.rdf_lines.proofs.writer.characters.place_characters.Goals as goal

pub returns-then-is_run-clause-placed : goal.returns-then-is_run-clause-placed
returns-then-is_run-clause-placed c =
    let text = c.args.text.now in
    let value = c.as_bytes-bytes.ensures.value in
    let run : all_have (goes_over QuoteText) text ≡ true = ap (all_have (goes_over QuoteText)) (sym value) ∙ (sym c.is_run.ensures ∙ c.if-is_run.true) in
    Placed-as (value ∙ sym (text_stands Plain text c.utf8.text run)) c.place_text.ensures

pub returns-else-is_run-clause-placed : goal.returns-else-is_run-clause-placed
returns-else-is_run-clause-placed c =
    Placed-as (ap (flat_map (escaped Plain)) c.as_bytes-bytes.ensures.value ∙ sym (escaped_by_bytes c.args.text.now c.utf8.text)) c.place_escaped.ensures.placed

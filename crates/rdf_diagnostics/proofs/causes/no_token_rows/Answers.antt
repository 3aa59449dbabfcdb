-- Each row is the one of its sign.
use Rattle.rdf_diagnostics.proofs.Prelude.{◌∙◌, ◌∷◌, ap, ap₂, refl, row}
use Rattle.rdf_diagnostics.specs.declared.causes.Cause.TheVariants as cause
use Rattle.rdf_diagnostics.proofs.causes.no_token_rows.Goals as goal

pub returns : goal.returns
returns c =
    ap₂ ◌∷◌ (c.row.ensures ∙ ap (λ b. row b cause.Packed) c.is_packed.ensures)
    (ap₂ ◌∷◌ (c.row-2.ensures ∙ ap (λ b. row b cause.WebPage) c.is_web_page.ensures)
    (ap₂ ◌∷◌ (c.row-3.ensures ∙ ap (λ b. row b cause.Xml) c.is_xml.ensures)
    (ap₂ ◌∷◌ (c.row-4.ensures ∙ ap (λ b. row b cause.JsonLd) c.is_json_ld.ensures)
    (ap₂ ◌∷◌ (c.row-5.ensures ∙ ap (λ b. row b cause.TripleTerm) c.is_triple_term.ensures)
    (ap₂ ◌∷◌ (c.row-6.ensures ∙ ap (λ b. row b cause.Direction) c.is_direction.ensures)
    (ap₂ ◌∷◌ (c.row-7.ensures ∙ ap (λ b. row b cause.ByteOrderMark) c.is_mark.ensures)
    (ap₂ ◌∷◌ (c.row-8.ensures ∙ ap (λ b. row b cause.SpaceInIri) c.has_space_before.ensures)
    (ap₂ ◌∷◌ (c.row-9.ensures ∙ ap (λ b. row b cause.OpenIri) c.has_space_before-2.ensures)
    (ap₂ ◌∷◌ (c.row-10.ensures ∙ ap (λ b. row b cause.UnderscoreInTag) c.is_underscore_in_tag.ensures)
    (ap₂ ◌∷◌ (c.row-11.ensures ∙ ap (λ b. row b cause.SlashInName) c.is_slash_in_name.ensures)
    (ap₂ ◌∷◌ (c.row-12.ensures ∙ ap (λ b. row b cause.BadBackslash) c.is_badly_escaped.ensures)
    (ap₂ ◌∷◌ (c.row-13.ensures ∙ ap (λ b. row b cause.OpenString) c.is_open_string.ensures)
    (ap₂ ◌∷◌ (c.row-14.ensures ∙ ap (λ b. row b cause.OnlyTurtle) c.is_turtle.ensures)
    (ap₂ ◌∷◌ (c.row-15.ensures ∙ ap (λ b. row b cause.PrefixWithoutColon) c.is_prefix_without_colon.ensures)
    (ap₂ ◌∷◌ (c.row-16.ensures ∙ ap (λ b. row b cause.BareWord) c.starts_word.ensures)
    refl)))))))))))))))

use Rattle.rdf_lines.proofs.Prelude.{◌∷◌, subst, flat_map, is_short_byte, IsRun, escaped}
use Rattle.rdf_lines.specs.declared.form.Escapes.TheVariants.{Plain}
use Rattle.rdf_lines.proofs.FrontsLemmas.{characters_then, no_characters, run_then}
use Rattle.rdf_lines.proofs.PassedLemmas.{past_text}
use Rattle.rdf_lines.proofs.canonical.string.Goals as goal

pub as_bytes-requires-text-self : goal.as_bytes-requires-text-self
as_bytes-requires-text-self c κs =
    past_text (flat_map (escaped Plain) c.runs.invariant.characters) c.args.text.now c.runs.rest.now c.utf8.text c.runs.invariant.stands

pub returns-in-Some : goal.returns-in-Some
returns-in-Some c =
    let rest = c.runs.rest.now in
    let end = c.run_end-end.result in
    let left = c.in-Some.left.now in
    let run : IsRun (is_short_byte 34) rest 0 end = subst (λ x. IsRun (is_short_byte 34) x 0 end) c.as_bytes.ensures.value c.run_end-end.ensures in
    let good = past_text (flat_map (escaped Plain) c.runs.invariant.characters) c.args.text.now rest c.utf8.text c.runs.invariant.stands in
    characters_then c.args.text.now rest (34 ∷ left) c.runs.invariant
    (run_then rest end (34 ∷ left) (34 ∷ left) good run c.in-Some.ensures.is (no_characters (34 ∷ left)))

pub after_run-requires : goal.after_run-requires
after_run-requires c = record { run = subst (λ x. IsRun (is_short_byte 34) x 0 c.run_end-end.result) c.as_bytes.ensures.value c.run_end-end.ensures }

pub runs-preserved : goal.runs-preserved
runs-preserved c = characters_then c.args.text.now c.runs.rest.now c.in_ok-rest.rest.now c.runs.invariant c.in_ok-rest.ensures.stands

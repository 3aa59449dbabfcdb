use Rattle.rdf_lines.proofs.Prelude.{◌∷◌, refl, CharactersStand, EscapeStands}
use Rattle.rdf_lines.proofs.FrontsLemmas.{if_some, run_then, escape_stands}
use Rattle.rdf_lines.proofs.canonical.after_run.Goals as goal

pub returns-clause-stands : goal.returns-clause-stands
returns-clause-stands c =
    let text = c.args.text.now in
    let end = c.args.end in
    let letter = c.in_ok-after_byte_at.field-0.now in
    if_some c.after_letter.result (λ rest. EscapeStands letter rest.now) (λ rest. CharactersStand text rest.now)
    (λ rest h. run_then text end (92 ∷ letter) rest.now c.utf8.text c.requires.run c.in_ok-after_byte_at.ensures.is
    (escape_stands (92 ∷ letter) letter rest.now refl h)) c.after_letter.ensures.stands

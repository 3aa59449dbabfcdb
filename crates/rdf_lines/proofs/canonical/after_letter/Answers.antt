use Rattle.rdf_lines.proofs.Prelude.{◌≡◌, ◌⊎◌, ◌∷◌, sym, ◌∙◌, false≢true, EscapeStands}
use Rattle.rdf_lines.proofs.FrontsLemmas.{if_some, letter_stands}
use Rattle.rdf_lines.proofs.canonical.after_letter.Goals.{in-34, in_default}
use Rattle.rdf_lines.proofs.canonical.after_letter.Goals as goal

pub returns-clause-stands : goal.returns-clause-stands
returns-clause-stands c =
    let letter = c.in_ok-letter.field-0.now in
    let text = c.args.text.now in
    let one : (letter ≡ 34) ⊎ ((letter ≡ 92) ⊎ ((letter ≡ 110) ⊎ (letter ≡ 114))) = elim c.match-matches.branch [
      | in-34 w ↦ w.in-34.is
      | in_default w ↦ absurd (false≢true (sym w.matches-is ∙ c.if-not-matches.false))
    ] in
    if_some c.after_byte.result (λ rest. text ≡ letter ∷ rest.now) (λ rest. EscapeStands text rest.now)
    (λ rest e. letter_stands letter text rest.now one e) c.after_byte.ensures

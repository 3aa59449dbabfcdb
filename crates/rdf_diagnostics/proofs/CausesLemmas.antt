-- Rows without a cause.
use Rattle.rdf_diagnostics.proofs.Prelude.{◌≡◌, ◌∙◌, ℕ, ◌+◌, ◌<◌, false, List, ◌∷◌, Option, Some, None, ap, drop, get_or, is_some, length, refl, sym, drop_more, first}
use Rattle.rdf_diagnostics.specs.declared.causes.Cause.{Cause}

-- the first cause is not in such a row
pub first_after : (row : Option Cause) (rows : List (Option Cause)) → false ≡ is_some row → first (row ∷ rows) ≡ first rows
first_after None rows none = refl
first_after (Some c) rows none = absurd (cc)

-- and so it is not in the row at a place
pub pass_row : (rows : List (Option Cause)) (i : ℕ) → i < length rows → false ≡ is_some (get_or rows i None)
    → first (drop (i + 1) rows) ≡ first (drop i rows)
pass_row rows i within none = sym (ap first (drop_more rows i None within) ∙ first_after (get_or rows i None) (drop (i + 1) rows) none)

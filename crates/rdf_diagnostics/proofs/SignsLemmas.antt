-- Bytes without an escape of a surrogate.
use Rattle.rdf_diagnostics.proofs.Prelude.{◌≡◌, ◌∙◌, ◌||◌, ℕ, ◌+◌, ◌-◌, ◌<◌, false, List, ◌∷◌, ap, drop, get_or, length, sym, take, drop_more, take_rest, has_surrogate, is_surrogate}

-- where none begins at a place, one that begins from there on begins after it
pub pass_surrogate : (bytes : List ℕ) (i : ℕ) → i < length bytes → is_surrogate (take (length bytes - i) (drop i bytes)) ≡ false
    → has_surrogate (drop (i + 1) bytes) ≡ has_surrogate (drop i bytes)
pass_surrogate bytes i within none =
    let rest = drop (i + 1) bytes in
    let next : drop i bytes ≡ get_or bytes i 0 ∷ rest = drop_more bytes i 0 within in
    let here : is_surrogate (get_or bytes i 0 ∷ rest) ≡ false = ap is_surrogate (sym next) ∙ (ap is_surrogate (sym (take_rest bytes i)) ∙ none) in
    sym (ap has_surrogate next ∙ ap (λ b. b || has_surrogate rest) here)

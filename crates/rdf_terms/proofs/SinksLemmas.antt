-- Puts one after the other.
use Rattle.rdf_terms.proofs.Prelude.{List, [], ◌∷◌, ◌++◌, inr, subst}
use Rattle.rdf_terms.specs.Sinks.{Appends, Attempts}

-- puts, and then puts of which the last may have been refused
pub appends_attempts : {S I : Type 0} (takes leaves : S → I → S → Type 0) (qs rs : List I) (a b c : S) → Appends takes a qs b → Attempts takes leaves b rs c →
    Attempts takes leaves a (qs ++ rs) c
appends_attempts takes leaves [] rs a b c e t = subst (λ x. Attempts takes leaves x rs c) e t
appends_attempts takes leaves (q ∷ qs) rs a b c h t = inr (h.0, h.1, appends_attempts takes leaves qs rs h.0 b c h.2 t)

-- puts of two lists, one after the other, are the puts of both
pub appends_both : {S I : Type 0} (takes : S → I → S → Type 0) (qs rs : List I) (a b c : S) → Appends takes a qs b → Appends takes b rs c →
    Appends takes a (qs ++ rs) c
appends_both takes [] rs a b c e t = subst (λ x. Appends takes x rs c) e t
appends_both takes (q ∷ qs) rs a b c h t = (h.0, h.1, appends_both takes qs rs h.0 b c h.2 t)

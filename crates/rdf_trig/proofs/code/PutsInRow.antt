-- Puts one after the other.
use Rattle.rdf_trig.proofs.Prelude.{◌≡◌, Bool, List, [], ◌∷◌, ◌++◌, Result, Ok, Err, inr, sym, ap, ◌∙◌, subst, append-nil, append_assoc, Quad, Appends, Attempts, StepFault, IfErr, IsErrAnd, GaveUp}
use Rattle.rdf_trig.specs.declared.fault.StepFault.TheVariants.{Memory, Sink}
use Rattle.rdf_trig.specs.Steps.{Begins}

-- puts of two lists, one after the other, are the puts of both
pub appends_append : {S : Type 0} (takes : S → Quad → S → Type 0) (a b c : S) (qs rs : List Quad) → Appends takes a qs b → Appends takes b rs c →
    Appends takes a (qs ++ rs) c
appends_append takes a b c [] rs h k = subst (λ x. Appends takes x rs c) h k
appends_append takes a b c (q ∷ qs) rs h k = (h.0, h.1, appends_append takes h.0 b c qs rs h.2 k)

-- a failed put after puts that were taken is a failed put of the whole list
attempts_append : {S : Type 0} (takes leaves : S → Quad → S → Type 0) (a b c : S) (qs rs : List Quad) → Appends takes a qs b →
    Attempts takes leaves b rs c → Attempts takes leaves a (qs ++ rs) c
attempts_append takes leaves a b c [] rs h k = subst (λ x. Attempts takes leaves x rs c) h k
attempts_append takes leaves a b c (q ∷ qs) rs h k = inr (h.0, h.1, attempts_append takes leaves h.0 b c qs rs h.2 k)

-- puts that were all taken are attempts too
attempts_all : {S : Type 0} (takes leaves : S → Quad → S → Type 0) (a b : S) (qs : List Quad) → Appends takes a qs b → Attempts takes leaves a qs b
attempts_all takes leaves a b [] h = h
attempts_all takes leaves a b (q ∷ qs) h = inr (h.0, h.1, attempts_all takes leaves h.0 b qs h.2)

-- all of the quads were put, or all but some
pub begins_all : {S : Type 0} (takes leaves : S → Quad → S → Type 0) (a b : S) (qs : List Quad) → Appends takes a qs b → Begins takes leaves qs a b
begins_all takes leaves a b qs h = (qs, [], sym (append-nil qs), attempts_all takes leaves a b qs h)

-- some of the first quads are some of a longer list
begins_more : {S : Type 0} (takes leaves : S → Quad → S → Type 0) (a b : S) (qs rs : List Quad) → Begins takes leaves qs a b →
    Begins takes leaves (qs ++ rs) a b
begins_more takes leaves a b qs rs h = (h.0, h.1 ++ rs, ap (λ x. x ++ rs) h.2 ∙ append_assoc h.0 h.1 rs, h.3)

-- some quads after others that were all put are a beginning of both
begins_after : {S : Type 0} (takes leaves : S → Quad → S → Type 0) (a b c : S) (qs rs : List Quad) → Appends takes a qs b →
    Begins takes leaves rs b c → Begins takes leaves (qs ++ rs) a c
begins_after takes leaves a b c qs rs h k =
    (qs ++ k.0, k.1, ap (λ x. qs ++ x) k.2 ∙ sym (append_assoc qs k.0 k.1), attempts_append takes leaves a b c qs k.0 h k.3)

-- giving up within some quads is giving up within a longer list
pub gave_more : {S : Type 0} (takes leaves : S → Quad → S → Type 0) (failed : S → Bool) (r : StepFault) (a b : S) (qs rs : List Quad) →
    GaveUp takes leaves failed r qs a b → GaveUp takes leaves failed r (qs ++ rs) a b
gave_more takes leaves failed Memory a b qs rs h = (begins_more takes leaves a b qs rs h.0, h.1)
gave_more takes leaves failed Sink a b qs rs h = (begins_more takes leaves a b qs rs h.0, h.1)
gave_more takes leaves failed r a b qs rs h = absurd h

-- giving up after some quads that were put is giving up within both
pub gave_after : {S : Type 0} (takes leaves : S → Quad → S → Type 0) (failed : S → Bool) (r : StepFault) (a b c : S) (qs rs : List Quad) →
    Appends takes a qs b → GaveUp takes leaves failed r rs b c → GaveUp takes leaves failed r (qs ++ rs) a c
gave_after takes leaves failed Memory a b c qs rs h k = (begins_after takes leaves a b c qs rs h k.0, k.1)
gave_after takes leaves failed Sink a b c qs rs h k = (begins_after takes leaves a b c qs rs h k.0, k.1)
gave_after takes leaves failed r a b c qs rs h k = absurd k

-- an error with a known reason has what holds of the reason
pub told_stops : {T : Type 0} (r : Result T StepFault) (told : StepFault) (P : StepFault → Type 0) → IsErrAnd r (λ t. t ≡ told) → P told → IfErr r P
told_stops (Ok x) told P e h = tt
told_stops (Err t) told P e h = subst P (sym e) h

-- The stack of frames as what a bracket stands for.
use Rattle.rdf_trig.proofs.Prelude.{◌≡◌, suc, ◌-◌, List, [], ◌∷◌, ◌++◌, Some, length, refl, ap, ◌∙◌, arith, slice_get, Frame, up_from, up_of}
use Rattle.rdf_trig.specs.Machine as M
use Rattle.rdf_trig.specs.States.{place_of}

-- the last frame of the stack is the innermost place
up_from-append : {A : Type 0} (v : M.Level) (u : M.Up) (fs : List (Frame A)) (f : Frame A) → up_from v u (fs ++ f ∷ []) ≡ M.At (place_of v f (up_from v u fs))
up_from-append v u [] f = refl
up_from-append v u (g ∷ fs) f = up_from-append v (M.At (place_of v g u)) fs f

-- with one frame more a bracket stands for the object at that frame's place
pub up_of-append : {A : Type 0} (v : M.Level) (fs : List (Frame A)) (f : Frame A) → up_of v (fs ++ f ∷ []) ≡ M.At (place_of v f (up_of v fs))
up_of-append v fs f = up_from-append v (M.Subject v) fs f

-- for a list that is known by an equation
pub stack_steps : {A : Type 0} (v : M.Level) (gs fs : List (Frame A)) (f : Frame A) → gs ≡ fs ++ f ∷ [] → up_of v gs ≡ M.At (place_of v f (up_of v fs))
stack_steps v gs fs f e = ap (up_of v) e ∙ up_of-append v fs f

-- a stack that is not empty ends in a place of its last frame, which the code takes off
pub up_last : {A : Type 0} (v : M.Level) (fs : List (Frame A)) (u : M.Up) (f : Frame A) → slice_get fs (length fs - 1) ≡ Some f →
    (w : M.Up) × (up_from v u fs ≡ M.At (place_of v f w))
up_last v [] u f e = absurd (cc)
up_last v (g ∷ []) u f e = let h : g ≡ f = cc in (u, ap (λ x. M.At (place_of v x u)) h)
up_last v (g ∷ h ∷ fs) u f e = let n : length (g ∷ h ∷ fs) - 1 ≡ suc (length (h ∷ fs) - 1) = omega arith in
    up_last v (h ∷ fs) (M.At (place_of v g u)) f (rw n at e)

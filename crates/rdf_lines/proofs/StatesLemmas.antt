-- Where nothing is put, a token that is accepted leaves the sink as it is, and so does one that is not.
use Rattle.rdf_lines.proofs.Prelude.{◌≡◌, Bool, inl, refl, sym, subst, Result, Ok, Err, IfOk, IfErr, Reason, Memory, Unexpected, RelativeIri, IriTooLong, Quad, Mode, Answer, goes, Declines, Does, Fails}

-- the answers are the same for all forms, or for all rules
pub does_goes : {S X E Z : Type 0} (takes : S → Quad → S → Type 0) (a : Z → Answer) (f : Z) (sink : S) (mode : X → Mode) (r : Result X E) →
    IfOk r (λ x. (f : Z) → a f ≡ goes (mode x)) → IfOk r (λ x. Does takes (a f) sink (mode x) sink)
does_goes takes a f sink mode (Ok x) e = subst (λ a. Does takes a sink (mode x) sink) (sym (e f)) (refl, refl)
does_goes takes a f sink mode (Err x) e = tt

-- a token that is refused leaves the sink as it is
pub fails_declines : {S X Z : Type 0} (leaves : S → Quad → S → Type 0) (failed : S → Bool) (a : Z → Answer) (f : Z) (sink : S) (r : Result X Reason) →
    IfErr r (λ r. (f : Z) → Declines r (a f)) → IfErr r (λ r. Fails leaves failed r (a f) sink sink)
fails_declines leaves failed a f sink (Ok x) e = tt
fails_declines leaves failed a f sink (Err r) e = by r (e f)
  where
    by : (r : Reason) → Declines r (a f) → Fails leaves failed r (a f) sink sink
    by Unexpected e = (e, refl)
    by RelativeIri e = (e, refl)
    by IriTooLong e = (e, refl)
    by Memory e = inl refl
    by r e = absurd e

-- and where a put may be
pub does_same : {S X E Z : Type 0} (takes : S → Quad → S → Type 0) (a : Z → Answer) (f : Z) (old new : S) (mode : X → Mode) (r : Result X E) →
    IfOk r (λ x. (f : Z) → Does takes (a f) old (mode x) new) → IfOk r (λ x. Does takes (a f) old (mode x) new)
does_same takes a f old new mode (Ok x) e = e f
does_same takes a f old new mode (Err x) e = tt

-- a failure of a step, whatever the test
pub fails_same : {S X Z : Type 0} (leaves : S → Quad → S → Type 0) (failed : S → Bool) (a : Z → Answer) (f : Z) (old new : S) (r : Result X Reason) →
    IfErr r (λ r. (f : Z) → Fails leaves failed r (a f) old new) → IfErr r (λ r. Fails leaves failed r (a f) old new)
fails_same leaves failed a f old new (Ok x) e = tt
fails_same leaves failed a f old new (Err r) e = e f

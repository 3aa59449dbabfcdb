use Rattle.rdf_trig.proofs.Prelude.{[], ◌∷◌, refl, inl, sym, ap, ◌∙◌, Err, false_from_ne_true, quad_of}
use Rattle.rdf_trig.proofs.give.put.Goals as goal

pub returns-in-Err-Memory-clause-err : goal.returns-in-Err-Memory-clause-err
returns-in-Err-Memory-clause-err g c =
    let memory = c.in-Err-Memory.is ∙ ap Err c.in-Err-Memory.field-0-is in
    rw c.in-Some.is (
      (quad_of c.in-Some.quad ∷ [], [], refl, inl (refl, c.in-Err-Memory.ensures.left)),
      false_from_ne_true _ (λ h. let z = sym memory ∙ c.put.ensures.device.0 h in cc),
    )

pub returns-in-Err-Device-clause-err : goal.returns-in-Err-Device-clause-err
returns-in-Err-Device-clause-err g c =
    rw c.in-Some.is (
      (quad_of c.in-Some.quad ∷ [], [], refl, inl (refl, c.in-Err-Device.ensures.left)),
      c.put.ensures.device.1 (c.in-Err-Device.is ∙ ap Err c.in-Err-Device.field-0-is),
    )

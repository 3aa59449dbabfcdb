-- The prefix is empty, and the local part the run after the colon.
use Rattle.rdf_tokens.proofs.Prelude.{inl, refl, subst, IsRun, is_name_byte}
use Rattle.rdf_tokens.proofs.quick.quick_named.Goals as goal

pub quick_local-requires-clause-prefix : goal.quick_local-requires-clause-prefix
quick_local-requires-clause-prefix c = inl refl

pub quick_local-requires-clause-local : goal.quick_local-requires-clause-local
quick_local-requires-clause-local c = subst (λ b. IsRun is_name_byte b 1 c.run_end-end.result) c.as_bytes.ensures.value c.run_end-end.ensures

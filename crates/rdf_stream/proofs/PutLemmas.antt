-- Bytes that are put one after another.
use Rattle.rdf_stream.proofs.Prelude.{◌≡◌, ℕ, List, ◌++◌, ◌∙◌, ap, append_assoc}

-- some bytes were put, and then others
pub then_put : (old mid new bytes more : List ℕ) → mid ≡ old ++ bytes → new ≡ mid ++ more → new ≡ old ++ (bytes ++ more)
then_put old mid new bytes more p q = q ∙ (ap (λ l. l ++ more) p ∙ append_assoc old bytes more)

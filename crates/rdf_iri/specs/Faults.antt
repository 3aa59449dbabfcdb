-- When a reference has no IRI.
use Rattle.std.specs.Prelude.{◌≡◌, ℕ, ◌<◌, false, List, Option, None}
use Rattle.rdf_terms.specs.Terms.{has_scheme}
use Rattle.rdf_iri.specs.declared.fault.IriFault.{IriFault}
use Rattle.rdf_iri.specs.declared.fault.IriFault.TheVariants.{NoBase, IriTooLong, Memory, Unbound, TooManyBindings}
use Rattle.rdf_iri.specs.Texts.{byte_len}
use Rattle.rdf_iri.specs.Resolution.{Resolves}

-- why a reference is not resolved against the base, or none, within so many bytes; memory is reported only where there is a result
abbrev pub Unresolved : Option (List ℕ) → List ℕ → ℕ → IriFault → Type 0
Unresolved base reference limit NoBase = (has_scheme reference ≡ false) × (base ≡ None)
Unresolved base reference limit IriTooLong = (iri : List ℕ) × Resolves base reference iri × (limit < byte_len iri)
Unresolved base reference limit Memory = (iri : List ℕ) × Resolves base reference iri
Unresolved base reference limit Unbound = ⊥
Unresolved base reference limit TooManyBindings = ⊥

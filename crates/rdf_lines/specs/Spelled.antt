-- Why what an IRIREF spells is not taken.
use Rattle.std.specs.Prelude.{◌≡◌, ℕ, false, List}
use Rattle.rdf_terms.specs.declared.reason.Reason.{Reason}
use Rattle.rdf_terms.specs.declared.reason.Reason.TheVariants.{Memory}
use Rattle.rdf_lines.specs.Machine.{is_taken, iri_refused}

-- why an IRI of at most n bytes is not taken
abbrev pub IriRefused : ℕ → Reason → List ℕ → Type 0
IriRefused n Memory i = Unit
IriRefused n r i = (is_taken n i ≡ false) × (iri_refused i ≡ r)

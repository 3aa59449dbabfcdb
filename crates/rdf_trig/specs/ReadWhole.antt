-- What it means that a document is read as a whole.
use Rattle.std.specs.Prelude.{ℕ, true, List, take, Result, Ok, Err}
use Rattle.rdf_terms.specs.declared.reason.Reason.{Reason}
use Rattle.rdf_terms.specs.declared.reason.Reason.TheVariants.{DocumentTooLong, Memory}
use Rattle.rdf_terms.specs.Terms.{Quad}
use Rattle.rdf_tokens.specs.Tokens.{Place}
use Rattle.rdf_tokens.specs.Scans.{most_bytes, place_of}
use Rattle.rdf_tokens.specs.Grammars.{GoesOn, Language, IsDocumentOf, IsWhole, Refused, IsTooLong}
use Rattle.rdf_tokens.specs.declared.token.Fault.{Fault}

-- Why the bytes are not read as a whole: they are refused, there are too many and as many as a document may have go on, or memory is short.
abbrev pub NotRead : Language → List ℕ → Reason → Place → Type 0
NotRead l bytes Memory at = Unit
NotRead l bytes DocumentTooLong at = IsTooLong bytes at × GoesOn l (take most_bytes bytes)
NotRead l bytes reason at = Refused l bytes true reason at

-- The bytes are a document of these quads within the limits; or they are not read.
abbrev pub ReadsWhole : {X : Type 0} → Language → List ℕ → (X → List Quad) → Result X Fault → Type 0
ReadsWhole l bytes quads (Ok x) = IsDocumentOf l bytes (quads x) × IsWhole l bytes
ReadsWhole l bytes quads (Err f) = NotRead l bytes f.reason (place_of f)

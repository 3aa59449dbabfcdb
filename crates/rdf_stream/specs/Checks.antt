-- What reading a document to its end reports.
use Rattle.std.specs.Prelude.{◌≤◌, ℕ, Bool, true, List, length, take, Option, IfSome}
use Rattle.std.specs.Io.KnownBytes.{Consumes}
use Rattle.rdf_terms.specs.declared.reason.Reason.{Reason}
use Rattle.rdf_terms.specs.declared.reason.Reason.TheVariants.{DocumentTooLong}
use Rattle.rdf_terms.specs.Terms.{Quad}
use Rattle.rdf_tokens.specs.Tokens.{Place}
use Rattle.rdf_tokens.specs.Scans.{most_bytes, place_of}
use Rattle.rdf_tokens.specs.Grammars.{GoesOn, IsDocumentOf, IsTooLong, IsWhole, Language, Refused as IsRefused}
use Rattle.rdf_driver.specs.declared.summary.Summary.{Summary}
use Rattle.rdf_stream.specs.declared.fault.StreamFault.{StreamFault}
use Rattle.rdf_stream.specs.declared.fault.StreamFault.TheVariants.{Refused, Read, Write, Memory}
use Rattle.rdf_stream.specs.Converts.{Counts}
use Rattle.rdf_stream.specs.Devices.{HasBroken, HasGiven, Reading}

-- The bytes are a document within the limits, and the summary counts what is in it.
pub record IsAccepted (language : Language) (bytes : List ℕ) (s : Summary) : Type 0 where
  pub quads : List Quad
  pub document : IsDocumentOf language bytes quads
  pub within : IsWhole language bytes
  pub size : length bytes ≤ most_bytes
  pub counts : Counts language bytes quads s

-- all bytes of a source are such a document, where they are known
abbrev pub IsAllAccepted : Language → Option (List ℕ) → Summary → Type 0
IsAllAccepted language known s = IfSome known (λ bytes. IsAccepted language bytes s)

-- The bytes, with their end or before more come, are refused at the place, so they are no document within the limits. Or there are too many,
-- and as many as a document may have go on.
abbrev pub IsRefusedFor : Reason → Language → List ℕ → Bool → Place → Type 0
IsRefusedFor DocumentTooLong language bytes is_end at = IsTooLong bytes at × GoesOn language (take most_bytes bytes)
IsRefusedFor reason language bytes is_end at = IsRefused language bytes is_end reason at

-- Why a document was not read to its end. What is refused is refused by what the source gave, and on a failed read that decides no refusal.
abbrev pub CheckStops : StreamFault → Language → Option (List ℕ) → Reading → Type 0
CheckStops (Refused f) language known left =
    IfSome known (λ bytes. IsRefusedFor f.reason language bytes true (place_of f))
    × (given : HasGiven known left) × IsRefusedFor f.reason language given.bytes left.has_ended (place_of f)
CheckStops Read language known left = HasBroken left × (bytes : List ℕ) × Consumes known left.remaining bytes × GoesOn language bytes
CheckStops Write language known left = ⊥
CheckStops Memory language known left = HasGiven known left

-- What holds within a run that reads a document to its end.
use Rattle.std.specs.Prelude.{◌≡◌, ◌≤◌, ℕ, Bool, List, [], length}
use Rattle.rdf_terms.specs.Terms.{Quad}
use Rattle.rdf_tokens.specs.Scans.{most_bytes, place_of}
use Rattle.rdf_tokens.specs.Grammars.{Language}
use Rattle.rdf_driver.specs.declared.summary.Summary.{Summary}
use Rattle.rdf_driver.specs.Readers.{Driven, HasRead}
use Rattle.rdf_driver.specs.Words.{Lawful, Words, in_words}
use Rattle.rdf_stream.specs.declared.fault.StreamFault.{StreamFault}
use Rattle.rdf_stream.specs.declared.fault.StreamFault.TheVariants.{Refused, Memory}
use Rattle.rdf_stream.specs.declared.devices.Source as source
use Rattle.rdf_stream.specs.Told.{told}
use Rattle.rdf_stream.specs.Checks.{IsAccepted, IsAllAccepted, IsRefusedFor, CheckStops}

-- A reader of a lawful grammar has read nothing.
pub record BeginsToRead {G X : Type 0} (w : Words G X Quad) (x : X) (reader : Driven G) : Type 0 where
  pub lawful : Lawful w
  pub read : HasRead w reader x [] []

-- Since the run began these bytes were read.
pub record IsChecking {G X : Type 0} (w : Words G X Quad) (reader : Driven G) (bytes : List ℕ) (now : Driven G) : Type 0 where
  pub begun : (x : X) × BeginsToRead w x reader
  pub limit : now.scanner.limit ≡ reader.scanner.limit
  pub read : (x : X) → BeginsToRead w x reader → (quads : List Quad) × HasRead w now x bytes quads

-- The same, and they are no more than a document has.
abbrev pub HasChecked : {G X : Type 0} → Words G X Quad → Driven G → List ℕ → Driven G → Type 0
HasChecked w reader bytes now = IsChecking w reader bytes now × (length bytes ≤ most_bytes)

-- why the bytes are not read on
abbrev pub ChecksNoMore : StreamFault → Language → List ℕ → Bool → Type 0
ChecksNoMore (Refused f) language bytes is_end = IsRefusedFor f.reason language bytes is_end (place_of f)
ChecksNoMore Memory language bytes is_end = Unit
ChecksNoMore reported language bytes is_end = ⊥

-- Since the run began these bytes came, and are not read on.
pub record CheckHalts {G X : Type 0} (w : Words G X Quad) (reported : StreamFault) (reader : Driven G) (bytes : List ℕ) (is_end : Bool) : Type 0 where
  pub begun : (x : X) × BeginsToRead w x reader
  pub halts : (x : X) → BeginsToRead w x reader → ChecksNoMore reported (in_words w x reader.scanner.limit) bytes is_end

-- Since the run began these bytes came, they are all that there are, and are a document.
abbrev pub CheckEnds : {G X : Type 0} → Words G X Quad → Summary → Driven G → List ℕ → Type 0
CheckEnds {G} {X} w summary reader bytes = (x : X) → BeginsToRead w x reader → IsAccepted (in_words w x reader.scanner.limit) bytes summary

-- Whatever the run began with, all bytes of the source are a document, where they are known.
abbrev pub CheckAccepts : {G X S : Type 0} → Words G X Quad → source.Ghosts S → Driven G → S → Summary → Type 0
CheckAccepts {G} {X} w says reader from summary = (x : X) → BeginsToRead w x reader →
    IsAllAccepted (in_words w x reader.scanner.limit) (says.remaining from) summary

-- Whatever the run began with, this is why the source was not read to its end.
abbrev pub ReadingStops : {G X S : Type 0} → Words G X Quad → source.Ghosts S → Driven G → S → S → StreamFault → Type 0
ReadingStops {G} {X} w says reader from left reported = (x : X) → BeginsToRead w x reader →
    CheckStops reported (in_words w x reader.scanner.limit) (says.remaining from) (told says left)

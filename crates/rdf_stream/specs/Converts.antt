-- What a conversion writes, and why it stops: of quads by `convert`, of tokens by `show`.
use Rattle.std.specs.Prelude.{◌≡◌, ℕ, ◌+◌, ◌≤◌, Bool, true, false, List, ◌++◌, length, take, Option, IfSome}
use Rattle.std.specs.Io.KnownBytes.{Appends, Consumes}
use Rattle.rdf_terms.specs.declared.reason.Reason.{Reason}
use Rattle.rdf_terms.specs.declared.reason.Reason.TheVariants.{DocumentTooLong}
use Rattle.rdf_tokens.specs.Tokens.{Place, Token}
use Rattle.rdf_tokens.specs.Scans.{most_bytes, place_of}
use Rattle.rdf_tokens.specs.Grammars.{BeginsDue, Due, GoesOn, IsDocumentOf, IsTooLong, IsWhole, LanguageOf, RefusedIn, reading_of}
use Rattle.rdf_driver.specs.declared.summary.Summary.{Summary}
use Rattle.rdf_stream.specs.declared.fault.StreamFault.{StreamFault}
use Rattle.rdf_stream.specs.declared.fault.StreamFault.TheVariants.{Refused, Read, Write, Memory}
use Rattle.rdf_stream.specs.Devices.{AppendsFront, Grows, HasBroken, HasGiven, Reading}
use Rattle.rdf_stream.specs.Languages.{Conversion, ConversionOf}

-- the numbers of items, of tokens without the end, and of bytes
pub record Counts {I : Type 0} (language : LanguageOf I) (input : List ℕ) (items : List I) (s : Summary) : Type 0 where
  pub quads : s.quads ≡ length items
  pub tokens : s.tokens + 1 ≡ length (reading_of language input true).tokens
  pub bytes : s.bytes ≡ length input

-- The bytes are a document within the limits, and the lines of its items were written. So for quads what was written reads back as these.
pub record Accepts {I : Type 0} (job : ConversionOf I) (bytes : List ℕ) (old new : Option (List ℕ)) (s : Summary) : Type 0 where
  pub items : List I
  pub document : IsDocumentOf job.language bytes items
  pub within : IsWhole job.language bytes
  pub size : length bytes ≤ most_bytes
  pub written : Appends old new (job.lines items)
  pub known : job.known items
  pub counts : Counts job.language bytes items s

-- the same, whatever was counted
abbrev pub IsConverted : Conversion → List ℕ → Option (List ℕ) → Option (List ℕ) → Type 0
IsConverted job bytes old new = (s : Summary) × Accepts job bytes old new s

-- all bytes of a source were converted and counted so, where they are known
abbrev pub AcceptsAll : {I : Type 0} → ConversionOf I → Option (List ℕ) → Option (List ℕ) → Option (List ℕ) → Summary → Type 0
AcceptsAll job known old new s = IfSome known (λ bytes. Accepts job bytes old new s)

-- The lines of the items that are due after these tokens were written.
pub record WritesDue {I : Type 0} (job : ConversionOf I) (ahead : List Token) (old new : Option (List ℕ)) : Type 0 where
  pub items : List I
  pub due : Due job.language.documents ahead items
  pub written : Appends old new (job.lines items)
  pub known : job.known items

-- The lines of the first of the items that are due in the front of these tokens were written: by Appends all of them, by AppendsFront a beginning.
pub record WritesSome {I : Type 0} (Puts : Option (List ℕ) → Option (List ℕ) → List ℕ → Type 0) (job : ConversionOf I) (tokens : List Token)
    (old new : Option (List ℕ)) : Type 0 where
  pub items : List I
  pub due : BeginsDue job.language.documents job.language.passes tokens items
  pub written : Puts old new (job.lines items)
  pub known : job.known items

-- The bytes are refused at the place, so they are no document within the limits, and the lines of the items that are due before it were
-- written. Or there are too many bytes: as many as a document may have go on, and the lines of all items that are due in them were written.
abbrev pub RefusesDocument : {I : Type 0} → Reason → ConversionOf I → List ℕ → Bool → Place → Option (List ℕ) → Option (List ℕ) → Type 0
RefusesDocument DocumentTooLong job bytes is_end at old new =
    IsTooLong bytes at × GoesOn job.language (take most_bytes bytes)
    × WritesDue job (reading_of job.language (take most_bytes bytes) false).tokens old new
RefusesDocument reason job bytes is_end at old new =
    (ahead : List Token) × RefusedIn job.language (reading_of job.language bytes is_end) reason at ahead × WritesDue job ahead old new

-- The source has given these bytes, whose tokens are all in the front and leave the next one open, and the lines of all items that are
-- due in them were written.
pub record BreaksOff {I : Type 0} (job : ConversionOf I) (known left old new : Option (List ℕ)) : Type 0 where
  pub bytes : List ℕ
  pub consumed : Consumes known left bytes
  pub goes_on : GoesOn job.language bytes
  pub writes : WritesDue job (reading_of job.language bytes false).tokens old new

-- Lines are handed over before the next fill: when the source was last asked for bytes, the lines of all items that are due in those that it had
-- given had been written. What came after that was written after them.
pub record IsPrompt {I : Type 0} (job : ConversionOf I) (known : Option (List ℕ)) (left : Reading) (old new : Option (List ℕ)) : Type 0 where
  -- the bytes given before the last fill, and by it
  pub before : List ℕ
  pub piece : List ℕ
  pub consumed : Consumes known left.remaining (before ++ piece)
  pub few : length piece ≤ left.last
  -- what the drain had at that fill
  pub at_fill : Option (List ℕ)
  pub writes : WritesDue job (reading_of job.language before false).tokens old at_fill
  pub grows : Grows at_fill new

-- Why a conversion stopped, by what the source gave, and what it had written: whole lines, but where the drain failed a beginning of them.
abbrev pub StopsFor : {I : Type 0} → StreamFault → ConversionOf I → Option (List ℕ) → Reading → Option (List ℕ) → Option (List ℕ) → Bool → Type 0
StopsFor (Refused f) job known left old new write_failed =
    (write_failed ≡ false) × IfSome known (λ bytes. RefusesDocument f.reason job bytes true (place_of f) old new)
    × (given : HasGiven known left) × RefusesDocument f.reason job given.bytes left.has_ended (place_of f) old new
StopsFor Read job known left old new write_failed = (write_failed ≡ false) × HasBroken left × BreaksOff job known left.remaining old new
StopsFor Write job known left old new write_failed =
    (write_failed ≡ true) × (given : HasGiven known left) × WritesSome AppendsFront job (reading_of job.language given.bytes left.has_ended).tokens old new
StopsFor Memory job known left old new write_failed =
    (write_failed ≡ false) × (given : HasGiven known left) × WritesSome Appends job (reading_of job.language given.bytes left.has_ended).tokens old new

-- What a conversion has done after each piece, and why it stops within one.
use Rattle.std.specs.Prelude.{◌≡◌, ◌⊎◌, ◌≤◌, ℕ, Bool, true, false, List, [], length, Option, Some}
use Rattle.std.specs.Io.KnownBytes.{Appends}
use Rattle.std.specs.List.{AllByRecursion}
use Rattle.rdf_tokens.specs.Tokens.{Token}
use Rattle.rdf_tokens.specs.Grammars.{Due, reading_of}
use Rattle.rdf_tokens.specs.Scans.{most_bytes, place_of}
use Rattle.rdf_tokens.specs.declared.token.Fault.{Fault}
use Rattle.rdf_driver.specs.declared.summary.Summary.{Summary}
use Rattle.rdf_driver.specs.Readers.{Driven, HasRead}
use Rattle.rdf_driver.specs.Words.{Lawful, Words}
use Rattle.rdf_lines.specs.declared.form.Style.{Style}
use Rattle.rdf_stream.specs.Languages.{ConversionOf}
use Rattle.rdf_stream.specs.declared.fault.StreamFault.{StreamFault}
use Rattle.rdf_stream.specs.declared.fault.StreamFault.TheVariants as fault
use Rattle.rdf_stream.specs.declared.line_out.LineOut.{LineOut}
use Rattle.rdf_stream.specs.declared.devices.Source as source
use Rattle.rdf_stream.specs.declared.devices.Drain as drain
use Rattle.rdf_stream.specs.Pieces.{at_end}
use Rattle.rdf_stream.specs.Devices.{AppendsFront}
use Rattle.rdf_stream.specs.Converts.{Accepts, AcceptsAll, IsPrompt, RefusesDocument, StopsFor, WritesSome}
use Rattle.rdf_stream.specs.Told.{told}
use Rattle.rdf_stream.specs.RunFaults.{fault_by}
use Rattle.rdf_stream.specs.LineOut.{Moves, SameOut}
use Rattle.rdf_stream.specs.Outputs.{Able, Output, Writer, conversion, output_of}

-- what a conversion asks of a grammar and of the style of its lines
pub record IsConvertible {G X I : Type 0} (how : Writer I) (w : Words G X I) (x : X) (style : Style) : Type 0 where
  pub lawful : Lawful w
  -- each item that is due in a document can be written
  pub can_write : (ts : List Token) (items : List I) → Due (w.documents x) ts items → AllByRecursion (how.can style) items

-- A reader of a grammar whose items the style can write has read nothing.
pub record Starts {G X I : Type 0} (how : Writer I) (w : Words G X I) (x : X) (reader : Driven G) (style : Style) : Type 0 where
  pub convertible : IsConvertible how w x style
  pub read : HasRead w reader x [] []

-- The same, and no line waits.
pub record Begins {G X I D A : Type 0} (how : Writer I) (failed : D → Bool) (w : Words G X I) (x : X) (reader : Driven G) (lines : LineOut D A) : Type 0 where
  pub starts : Starts how w x reader lines.form.lines.style
  pub none_waits : lines.buffer.now ≡ []
  pub live : failed lines.drain.now ≡ false

-- The reader has read these bytes, the drain has taken the lines of all items that are due in them, and none waits.
pub record HandedOver {G X I D A : Type 0} (how : Writer I) (contents : D → Option (List ℕ)) (failed : D → Bool) (w : Words G X I) (x : X)
    (reader : Driven G) (bytes : List ℕ) (first lines : LineOut D A) : Type 0 where
  pub items : List I
  pub read : HasRead w reader x bytes items
  pub written : Appends (contents first.drain.now) (contents lines.drain.now) (how.lines (output_of first.form) items)
  pub able : Able how first.form.lines.style items
  pub none_waits : lines.buffer.now ≡ []
  pub same : SameOut first lines
  pub live : failed lines.drain.now ≡ false

-- The reader has read these bytes, and the lines of all items that are due in them were put: the drain has taken a front of them, and the others wait.
pub record HasPut {G X I D A : Type 0} (how : Writer I) (contents : D → Option (List ℕ)) (failed : D → Bool) (w : Words G X I) (x : X)
    (reader : Driven G) (bytes : List ℕ) (first lines : LineOut D A) : Type 0 where
  pub items : List I
  pub read : HasRead w reader x bytes items
  pub moves : Moves (contents first.drain.now) (contents lines.drain.now) (how.lines (output_of first.form) items) lines.buffer.now
  pub able : Able how first.form.lines.style items
  pub same : SameOut first lines
  pub live : failed lines.drain.now ≡ false

-- Since the run began, with lines in this style, these bytes were read, and all lines that are due of them were put.
pub record IsPutting {G X I D A : Type 0} (how : Writer I) (contents : D → Option (List ℕ)) (failed : D → Bool) (w : Words G X I) (style : Style)
    (reader : Driven G) (first : LineOut D A) (bytes : List ℕ) (now : Driven G) (lines : LineOut D A) : Type 0 where
  pub begun : (x : X) × Begins how failed w x reader first
  pub styled : first.form.lines.style ≡ style
  pub limit : now.scanner.limit ≡ reader.scanner.limit
  pub put : (x : X) → Begins how failed w x reader first → HasPut how contents failed w x now bytes first lines

-- The same, they were all handed over, and the bytes are no more than a document has.
pub record IsConverting {G X I D A : Type 0} (how : Writer I) (contents : D → Option (List ℕ)) (failed : D → Bool) (w : Words G X I) (style : Style)
    (reader : Driven G) (first : LineOut D A) (bytes : List ℕ) (now : Driven G) (lines : LineOut D A) : Type 0 where
  pub begun : (x : X) × Begins how failed w x reader first
  pub styled : first.form.lines.style ≡ style
  pub limit : now.scanner.limit ≡ reader.scanner.limit
  pub few : length bytes ≤ most_bytes
  pub handed : (x : X) → Begins how failed w x reader first → HandedOver how contents failed w x now bytes first lines

-- why the bytes are not read on, and what was written
abbrev pub HaltsFor : {I : Type 0} → StreamFault → ConversionOf I → List ℕ → Bool → Option (List ℕ) → Option (List ℕ) → Bool → Type 0
HaltsFor (fault.Refused f) job bytes is_end old new failed = (failed ≡ false) × RefusesDocument f.reason job bytes is_end (place_of f) old new
HaltsFor fault.Read job bytes is_end old new failed = ⊥
HaltsFor fault.Write job bytes is_end old new failed = (failed ≡ true) × WritesSome AppendsFront job (reading_of job.language bytes is_end).tokens old new
HaltsFor fault.Memory job bytes is_end old new failed = (failed ≡ false) × WritesSome Appends job (reading_of job.language bytes is_end).tokens old new

-- Since the run began these bytes came, and are not read on.
pub record RunHalts {G X I D A : Type 0} (how : Writer I) (contents : D → Option (List ℕ)) (failed : D → Bool) (w : Words G X I) (reported : StreamFault)
    (reader : Driven G) (first : LineOut D A) (bytes : List ℕ) (is_end : Bool) (lines : LineOut D A) : Type 0 where
  pub begun : (x : X) × Begins how failed w x reader first
  pub same : SameOut first lines
  pub halts : (x : X) → Begins how failed w x reader first →
      HaltsFor reported (conversion how w x reader.scanner.limit (output_of first.form)) bytes is_end
      (contents first.drain.now) (contents lines.drain.now) (failed lines.drain.now)

-- Since the run began these bytes came, they are all that there are, and were converted.
pub record RunEnds {G X I D A : Type 0} (how : Writer I) (contents : D → Option (List ℕ)) (failed flushed : D → Bool) (w : Words G X I) (summary : Summary)
    (reader : Driven G) (first : LineOut D A) (bytes : List ℕ) (lines : LineOut D A) : Type 0 where
  pub same : SameOut first lines
  pub sent : flushed lines.drain.now ≡ true
  pub accepts : (x : X) → Begins how failed w x reader first →
      Accepts (conversion how w x reader.scanner.limit (output_of first.form)) bytes (contents first.drain.now) (contents lines.drain.now) summary

-- The drain has failed: before, and is as it was, or while it took what waited.
pub record ReportsWrite {D A : Type 0} (contents : D → Option (List ℕ)) (failed : D → Bool) (before after : LineOut D A) : Type 0 where
  pub failed_now : failed after.drain.now ≡ true
  pub while_taking : failed before.drain.now ≡ false → (rest : List ℕ) ×
      Moves (contents before.drain.now) (contents after.drain.now) before.buffer.now rest
  pub before_it : failed before.drain.now ≡ true → contents after.drain.now ≡ contents before.drain.now

-- The drain has not failed, and has taken all that waited.
pub record ReportsFault {D A : Type 0} (contents : D → Option (List ℕ)) (failed : D → Bool) (before after : LineOut D A) : Type 0 where
  pub live : failed before.drain.now ≡ false
  pub live_now : failed after.drain.now ≡ false
  pub taken : Appends (contents before.drain.now) (contents after.drain.now) before.buffer.now

-- what is reported of a reader's fault, once all that waited was handed over
abbrev pub Reports : {D A : Type 0} → (D → Option (List ℕ)) → (D → Bool) → Fault → StreamFault → LineOut D A → LineOut D A → Type 0
Reports contents failed f reported before after =
    ((reported ≡ fault.Write) × ReportsWrite contents failed before after) ⊎ ((reported ≡ fault_by f.reason f) × ReportsFault contents failed before after)

-- Whatever the run began with, all bytes of the source were converted, where they are known.
abbrev pub Converts : {G X I S D : Type 0} → Writer I → Words G X I → source.Ghosts S → drain.Ghosts D → Driven G → Output → S → D → D → Summary → Type 0
Converts {G} {X} how w says takes reader output from old new summary = (x : X) → Starts how w x reader output.form.style →
    AcceptsAll (conversion how w x reader.scanner.limit output) (says.remaining from) (takes.contents old) (takes.contents new) summary

-- Whatever the run began with, this is why the conversion stopped, and what it had written.
abbrev pub ConversionStops : {G X I S D : Type 0} → Writer I → Words G X I → source.Ghosts S → drain.Ghosts D → Driven G → Output → S → S → D → D → StreamFault → Type 0
ConversionStops {G} {X} how w says takes reader output from left old new reported = (x : X) → Starts how w x reader output.form.style →
    StopsFor reported (conversion how w x reader.scanner.limit output) (says.remaining from) (told says left)
    (takes.contents old) (takes.contents new) (takes.has_failed new)

-- Whatever the run began with, no line that was due waited while the source was asked for more.
abbrev pub KeepsPrompt : {G X I S D : Type 0} → Writer I → Words G X I → source.Ghosts S → drain.Ghosts D → Driven G → Output → S → S → D → D → Type 0
KeepsPrompt {G} {X} how w says takes reader output from left old new = (x : X) → Starts how w x reader output.form.style →
    IsPrompt (conversion how w x reader.scanner.limit output) (says.remaining from) (told says left) (takes.contents old) (takes.contents new)

-- Whatever the run began with, all of the bytes were converted.
abbrev pub ConvertsWhole : {G X I D : Type 0} → Writer I → Words G X I → drain.Ghosts D → Driven G → Output → List ℕ → D → D → Summary → Type 0
ConvertsWhole {G} {X} how w takes reader output bytes old new summary = (x : X) → Starts how w x reader output.form.style →
    Accepts (conversion how w x reader.scanner.limit output) bytes (takes.contents old) (takes.contents new) summary

-- Whatever the run began with, this is why they were not, within them or at their end, and what was written.
abbrev pub WholeStops : {G X I D : Type 0} → Writer I → Words G X I → drain.Ghosts D → Driven G → Output → List ℕ → D → D → StreamFault → Type 0
WholeStops {G} {X} how w takes reader output bytes old new reported = (x : X) → Starts how w x reader output.form.style → (ended : Bool) ×
    StopsFor reported (conversion how w x reader.scanner.limit output) (Some bytes) (at_end ended) (takes.contents old) (takes.contents new) (takes.has_failed new)

-- Lines that are sifted: what was written of the good ones, and which bad ones were put aside.
use Rattle.std.specs.Prelude.{◌≡◌, ◌⊎◌, ◌+◌, ◌-◌, ◌≤◌, ◌<◌, ◌==◌, ℕ, Bool, true, false, List, [], ◌∷◌, ◌++◌, length, take, count_by}
use Rattle.std.specs.Io.KnownBytes.{Appends}
use Rattle.std.specs.List.{AllByRecursion, concat}
use Rattle.rdf_terms.specs.Terms.{Quad}
use Rattle.rdf_terms.specs.declared.reason.Reason.TheVariants.{DocumentTooLong}
use Rattle.rdf_tokens.specs.Good.{end_of, first_place, good, has_byte_order_mark}
use Rattle.rdf_tokens.specs.Grammars.{IsTooLong}
use Rattle.rdf_tokens.specs.Scans.{most_bytes, place_of}
use Rattle.rdf_tokens.specs.Laws.{IsPlaceIn}
use Rattle.rdf_tokens.specs.Tokens.{Place, is_line_end}
use Rattle.rdf_tokens.specs.declared.token.Fault.{Fault}
use Rattle.rdf_lines.specs.Documents.{in_lines}
use Rattle.rdf_lines.specs.SplitLines.{IsBadLine, IsGoodLine, split_lines}
use Rattle.rdf_stream.specs.declared.devices.Drain as drain
use Rattle.rdf_stream.specs.declared.fault.StreamFault.{StreamFault}
use Rattle.rdf_stream.specs.declared.fault.StreamFault.TheVariants as fault
use Rattle.rdf_stream.specs.declared.sieve.Sieve.{Sieve}
use Rattle.rdf_stream.specs.declared.sieve.Converted.{Converted}
use Rattle.rdf_stream.specs.declared.sieve.LineStart.{LineStart}
use Rattle.rdf_stream.specs.declared.sieve.Tried.{Tried}
use Rattle.rdf_stream.specs.declared.sieve.Tried.TheVariants.{Bad, Good}
use Rattle.rdf_stream.specs.declared.skips.Sifter.{Sifter}
use Rattle.rdf_stream.specs.declared.skips.SkipSummary.{SkipSummary}
use Rattle.rdf_stream.specs.Devices.{AppendsFront}
use Rattle.rdf_stream.specs.Languages.{Conversion, written_in}
use Rattle.rdf_stream.specs.Outputs.{output_of}
use Rattle.rdf_stream.specs.Skips.{IsBadFor, PutsAside, Skips, SkipsSome, comment_text, counted_up, place_after}

-- what a sieve converts its lines by
abbrev pub job_of : {A : Type 0} → Sieve A → Conversion
job_of s = written_in (in_lines s.form s.limits.token s.limits.iri) (output_of s.output).form (output_of s.output).graph

-- the format, the limits and the output stay
pub record SameSieve {A : Type 0} (old new : Sieve A) : Type 0 where
  pub form : new.form ≡ old.form
  pub limits : new.limits ≡ old.limits
  pub output : new.output ≡ old.output

-- whether a line that comes after these is the first
abbrev pub first_after : Bool → List (List ℕ) → Bool
first_after first [] = first
first_after first (x ∷ xs) = false

-- the place in a document at which a line begins
abbrev pub start_of : LineStart → Place
start_of s = record { offset = s.offset; line = s.line }

-- from there on the bytes are no more than a document has
pub record HasRoom (s : LineStart) (bytes : List ℕ) : Type 0 where
  pub few : s.offset + length bytes ≤ most_bytes
  pub lines : s.line ≤ s.offset + 1

-- the place after some lines of which the first begins at a place
abbrev pub place_past : Place → List (List ℕ) → Place
place_past start [] = start
place_past start (x ∷ xs) = place_past (place_after start x) xs

-- the bytes are a good line, or lines that are all good, and these are the lines of their quads
pub record IsConvertedTo {A : Type 0} (s : Sieve A) (bytes : List ℕ) (c : Converted A) : Type 0 where
  pub quads : List Quad
  pub is_good : IsGoodLine (job_of s).language s.is_first bytes quads
  pub lines : c.lines.items ≡ (job_of s).lines quads
  pub count : c.quads ≡ length quads

-- why the bytes are no good line, and no good lines
pub record IsNoneFor {A : Type 0} (s : Sieve A) (bytes : List ℕ) (f : Fault) : Type 0 where
  pub is_bad : IsBadLine (job_of s).language s.is_first bytes
  pub why : IsBadFor (job_of s).language s.is_first bytes f
  pub place : IsPlaceIn bytes (place_of f)

-- what the bytes are, as a line or as lines
abbrev pub IsTried : {A : Type 0} → Sieve A → List ℕ → Tried A → Type 0
IsTried s bytes (Good c) = IsConvertedTo s bytes c
IsTried s bytes (Bad f) = IsNoneFor s bytes f

-- what was counted of a sieve
pub record Counts {A : Type 0} (old new : Sieve A) (quads bad : ℕ) : Type 0 where
  pub quads_counted : counted_up new.quads ≡ counted_up (old.quads + quads)
  pub bad_counted : counted_up new.bad_lines ≡ counted_up (old.bad_lines + bad)

-- the bytes end in a line end, or there are none
abbrev pub IsEndedFront : List ℕ → Type 0
IsEndedFront front = (front ≡ []) ⊎ ((w : List ℕ) × (c : ℕ) × (front ≡ w ++ c ∷ []) × (is_line_end c ≡ true))

-- a part of a line is held after another
pub record Holds {A : Type 0} (old : Sifter A) (part : List ℕ) (new : Sifter A) : Type 0 where
  pub parts : new.part.items ≡ old.part.items ++ part
  pub sieve : new.sieve ≡ old.sieve
  pub count : new.bytes ≡ old.bytes
  pub line : new.line ≡ old.line

-- no part of a line is held any more, and what is counted stays
pub record HoldsNone {A : Type 0} (old new : Sifter A) : Type 0 where
  pub none : new.part.items ≡ []
  pub count : new.bytes ≡ old.bytes
  pub line : new.line ≡ old.line

-- the bytes are a front of these, and the rest has no line end; where there are some, they end in one
pub record EndsLines (front rest : List ℕ) : Type 0 where
  pub ended : IsEndedFront front
  pub no_end : AllByRecursion (λ b. is_line_end b ≡ false) rest

-- the bytes of a byte order mark stand in front
abbrev pub HasMarkBytes : List ℕ → Type 0
HasMarkBytes bytes = (rest : List ℕ) × (bytes ≡ 0xEF ∷ 0xBB ∷ 0xBF ∷ rest)

-- no byte order mark stands in front
abbrev pub HasNoMark : List ℕ → Type 0
HasNoMark bytes = has_byte_order_mark (good bytes) ≡ false

-- after so many bytes and lines the piece has too many, and this is the place after as many as a document may have
abbrev pub RefusesPiece : StreamFault → ℕ → ℕ → List ℕ → Type 0
RefusesPiece (fault.Refused f) bytes line piece =
    (f.reason ≡ DocumentTooLong) × (most_bytes < bytes + length piece) × (f.offset ≡ most_bytes)
    × (f.line ≡ line + count_by (λ b. b == 10) (take (most_bytes - bytes) piece))
RefusesPiece reported bytes line piece = ⊥

-- The bytes were put as a good line, or as lines that are all good.
pub record PutsGood {A D : Type 0} (takes : drain.Ghosts D) (old : Sieve A) (d : D) (bytes : List ℕ) (new : Sieve A) (d' : D) : Type 0 where
  pub quads : List Quad
  pub is_good : IsGoodLine (job_of old).language old.is_first bytes quads
  pub written : Appends (takes.contents d) (takes.contents d') ((job_of old).lines quads)
  pub counts : Counts old new (length quads) 0
  pub first : new.is_first ≡ false
  pub same : SameSieve old new
  pub live : takes.has_failed d' ≡ false

-- They are no good lines, and nothing was done.
pub record PutsNone {A D : Type 0} (old : Sieve A) (d : D) (bytes : List ℕ) (f : Fault) (new : Sieve A) (d' : D) : Type 0 where
  pub why : IsNoneFor old bytes f
  pub sieve : new ≡ old
  pub drain : d' ≡ d

-- why they were not put
abbrev pub PutGoodFails : {A D : Type 0} → drain.Ghosts D → StreamFault → Sieve A → D → List ℕ → Sieve A → D → Type 0
PutGoodFails takes fault.Write old d bytes new d' =
    (takes.has_failed d' ≡ true) × (quads : List Quad) × IsGoodLine (job_of old).language old.is_first bytes quads
    × AppendsFront (takes.contents d) (takes.contents d') ((job_of old).lines quads)
PutGoodFails takes fault.Memory old d bytes new d' = (new ≡ old) × (d' ≡ d)
PutGoodFails takes reported old d bytes new d' = ⊥

-- a bad line was put aside, with its fault by the place in the document
pub record PutsBad {A B : Type 0} (sets : drain.Ghosts B) (old : Sieve A) (b : B) (f : Fault) (line : List ℕ) (new : Sieve A) (b' : B) : Type 0 where
  pub put : Appends (sets.contents b) (sets.contents b') (comment_text f ++ line)
  pub counts : Counts old new 0 1
  pub first : new.is_first ≡ false
  pub same : SameSieve old new
  pub live : sets.has_failed b' ≡ false

-- why it was not: a drain failed, and took a beginning of it, or memory was wanting
abbrev pub PutBadFails : {A B : Type 0} → drain.Ghosts B → StreamFault → Sieve A → B → Fault → List ℕ → Sieve A → B → Type 0
PutBadFails sets fault.Write old b f line new b' = (sets.has_failed b' ≡ true) × AppendsFront (sets.contents b) (sets.contents b') (comment_text f ++ line)
PutBadFails sets fault.Memory old b f line new b' = (new ≡ old) × (b' ≡ b)
PutBadFails sets reported old b f line new b' = ⊥

module _ {A D B : Type 0} (takes : drain.Ghosts D) (sets : drain.Ghosts B) where
  -- These lines were sifted, of which the first begins at this place.
  pub record HasSifted (start : Place) (old : Sieve A) (d : D) (b : B) (lines : List (List ℕ)) (new : Sieve A) (d' : D) (b' : B) : Type 0 where
    pub aside : PutsAside Appends (job_of old) old.is_first start lines (takes.contents d) (takes.contents d') (sets.contents b) (sets.contents b')
    pub counts : Counts old new (length aside.quads) (length aside.bad)
    pub first : new.is_first ≡ first_after old.is_first lines
    pub same : SameSieve old new
    pub live : takes.has_failed d' ≡ false
    pub bad_live : sets.has_failed b' ≡ false

  -- Not all of these lines were sifted, since memory was wanting, or since a drain failed.
  abbrev pub SiftFails : StreamFault → Place → Sieve A → D → B → List (List ℕ) → Sieve A → D → B → Type 0
  SiftFails fault.Write start old d b lines new d' b' =
      ((takes.has_failed d' ≡ true) ⊎ (sets.has_failed b' ≡ true)) × (ahead later : List (List ℕ)) × (lines ≡ ahead ++ later)
      × PutsAside AppendsFront (job_of old) old.is_first start ahead (takes.contents d) (takes.contents d') (sets.contents b) (sets.contents b')
  SiftFails fault.Memory start old d b lines new d' b' = (ahead later : List (List ℕ)) × (lines ≡ ahead ++ later) × HasSifted start old d b ahead new d' b'
  SiftFails reported start old d b lines new d' b' = ⊥

  -- The lines that the front of a piece ends were sifted, and no part of a line is held any more where there were some.
  pub record SiftsFront (start : Place) (old : Sifter A) (d : D) (b : B) (front : List ℕ) (new : Sifter A) (d' : D) (b' : B) : Type 0 where
    pub lines : List (List ℕ)
    pub sifted : HasSifted start old.sieve d b lines new.sieve d' b'
    pub split : (more : List ℕ) → split_lines (old.part.items ++ (front ++ more)) ≡ lines ++ split_lines (new.part.items ++ more)
    pub whole : old.part.items ++ front ≡ concat lines ++ new.part.items
    pub no_end : AllByRecursion (λ b. is_line_end b ≡ false) old.part.items → AllByRecursion (λ b. is_line_end b ≡ false) new.part.items
    pub count : new.bytes ≡ old.bytes
    pub line : new.line ≡ old.line

  -- Not all of them were.
  pub record SiftFrontFails (f : StreamFault) (start : Place) (old : Sifter A) (d : D) (b : B) (front : List ℕ) (new : Sifter A) (d' : D) (b' : B) : Type 0 where
    pub lines : List (List ℕ)
    pub split : (more : List ℕ) → (later : List (List ℕ)) × (split_lines (old.part.items ++ (front ++ more)) ≡ lines ++ later)
    pub fails : SiftFails f start old.sieve d b lines new.sieve d' b'

  -- a run that begins with a document
  pub record Begins (first : Sifter A × D × B) : Type 0 where
    pub fresh : first.0.sieve.is_first ≡ true
    pub no_quads : first.0.sieve.quads ≡ 0
    pub no_bad_lines : first.0.sieve.bad_lines ≡ 0

  -- Since the run began these bytes came: their lines that have ended were sifted, and the rest is held.
  pub record IsSkipping (first : Sifter A × D × B) (bytes : List ℕ) (now : Sifter A × D × B) : Type 0 where
    pub begins : Begins first
    pub ahead : List (List ℕ)
    pub whole : bytes ≡ concat ahead ++ now.0.part.items
    pub lines : (more : List ℕ) → split_lines (bytes ++ more) ≡ ahead ++ split_lines (now.0.part.items ++ more)
    pub no_end : AllByRecursion (λ b. is_line_end b ≡ false) now.0.part.items
    pub sifted : HasSifted first_place first.0.sieve first.1 first.2 ahead now.0.sieve now.1 now.2
    pub count : now.0.bytes ≡ length bytes
    pub line : now.0.line ≡ (end_of bytes).line
    pub few : length bytes ≤ most_bytes

  -- why the bytes are not read on, and what was written and put aside
  abbrev pub SkipHalts : StreamFault → Sifter A × D × B → List ℕ → Bool → Sifter A × D × B → Type 0
  SkipHalts (fault.Refused f) first bytes e now =
      (takes.has_failed now.1 ≡ false) × (sets.has_failed now.2 ≡ false) × (f.reason ≡ DocumentTooLong) × IsTooLong bytes (place_of f)
      × SkipsSome Appends (job_of first.0.sieve) bytes (takes.contents first.1) (takes.contents now.1) (sets.contents first.2) (sets.contents now.2)
  SkipHalts fault.Read first bytes e now = ⊥
  SkipHalts fault.Write first bytes e now =
      ((takes.has_failed now.1 ≡ true) ⊎ (sets.has_failed now.2 ≡ true))
      × SkipsSome AppendsFront (job_of first.0.sieve) bytes (takes.contents first.1) (takes.contents now.1) (sets.contents first.2) (sets.contents now.2)
  SkipHalts fault.Memory first bytes e now =
      (takes.has_failed now.1 ≡ false) × (sets.has_failed now.2 ≡ false)
      × SkipsSome Appends (job_of first.0.sieve) bytes (takes.contents first.1) (takes.contents now.1) (sets.contents first.2) (sets.contents now.2)

  -- all bytes were read, and what was written was sent on
  pub record SkipEnds (s : SkipSummary) (first : Sifter A × D × B) (bytes : List ℕ) (now : Sifter A × D × B) : Type 0 where
    pub skips : Skips (job_of first.0.sieve) bytes (takes.contents first.1) (takes.contents now.1) (sets.contents first.2) (sets.contents now.2) s
    pub sent : takes.is_flushed now.1 ≡ true
    pub bad_sent : sets.is_flushed now.2 ≡ true

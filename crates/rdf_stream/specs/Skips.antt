-- What a conversion of a line format that goes on after bad lines writes, and why it stops.
use Rattle.std.specs.Prelude.{◌≡◌, ◌⊎◌, ◌+◌, ◌-◌, ◌^◌, ◌==◌, ℕ, Bool, true, false, List, [], ◌∷◌, ◌++◌, codes, count_by, length, min, Option, IfSome}
use Rattle.std.specs.Io.KnownBytes.{Appends, Consumes}
use Rattle.std.specs.List.{AllByRecursion, concat}
use Rattle.rdf_terms.specs.Terms.{Quad}
use Rattle.rdf_terms.specs.declared.reason.Reason.TheVariants.{DocumentTooLong, NoToken}
use Rattle.rdf_tokens.specs.Good.{first_place, good, has_byte_order_mark}
use Rattle.rdf_tokens.specs.Grammars.{IsTooLong, Language}
use Rattle.rdf_tokens.specs.Scans.{place_of}
use Rattle.rdf_tokens.specs.Tokens.{Place, is_line_end}
use Rattle.rdf_tokens.specs.declared.token.Fault.{Fault}
use Rattle.rdf_lines.specs.SplitLines.{IsGoodLine, Sifts, split_lines}
use Rattle.rdf_lines.specs.declared.form.LineForm.{LineForm}
use Rattle.rdf_stream.specs.declared.fault.StreamFault.{StreamFault}
use Rattle.rdf_stream.specs.declared.fault.StreamFault.TheVariants.{Refused, Read, Write, Memory}
use Rattle.rdf_stream.specs.declared.form.Form.{Form}
use Rattle.rdf_stream.specs.declared.form.Kind.TheVariants.{Line}
use Rattle.rdf_stream.specs.declared.skips.SkipSummary.{SkipSummary}
use Rattle.rdf_stream.specs.Checks.{IsRefusedFor}
use Rattle.rdf_stream.specs.Converts.{IsConverted}
use Rattle.rdf_stream.specs.Devices.{AppendsFront, HasBroken, HasGiven, Reading}
use Rattle.rdf_stream.specs.Kinds.{kind_of}
use Rattle.rdf_stream.specs.Languages.{Conversion}
use Rattle.rdf_stream.specs.Messages.{place_text}

-- a format that is read line by line
abbrev pub HasLines : Form → Type 0
HasLines form = (f : LineForm) × (kind_of form ≡ Line f)

-- a number as it is counted in 64 bits, where a count stops at the highest number
abbrev pub counted_up : ℕ → ℕ
counted_up n = min n (2 ^ 64 - 1)

-- the place after some bytes that begin at a place
abbrev pub place_after : Place → List ℕ → Place
place_after p w = record { offset = p.offset + length w; line = p.line + count_by (λ b. b == 10) w }

-- Why a line is bad, and where in it: it begins with a byte order mark and is not the first, or it is refused by itself.
abbrev pub IsBadFor : Language → Bool → List ℕ → Fault → Type 0
IsBadFor l first line f =
    ((first ≡ false) × (has_byte_order_mark (good line) ≡ true) × (f ≡ record { reason = NoToken; offset = 0; line = 1 }))
    ⊎ ((first ≡ false → has_byte_order_mark (good line) ≡ false) × IsRefusedFor f.reason l line true (place_of f))

-- this fault of a line that begins at a place of the document, by its place in the document
abbrev pub fault_from : Place → Fault → Fault
fault_from start f = record { reason = f.reason; offset = start.offset + f.offset; line = start.line + (f.line - 1) }

-- the comment in front of a line that is put aside, with its LF
abbrev pub comment_text : Fault → List ℕ
comment_text f = codes "# " ++ place_text f ++ 10 ∷ []

-- a bad line that is put aside, and what is put aside after it: why and where it is bad, as a comment, and the line as it stands
pub record BadAside (l : Language) (first : Bool) (start : Place) (line : List ℕ) (more : List ℕ → Type 0) (text : List ℕ) : Type 0 where
  pub fault : Fault
  pub is_bad : IsBadFor l first line fault
  pub text_after : List ℕ
  pub after : more text_after
  pub all : text ≡ comment_text (fault_from start fault) ++ line ++ text_after

-- What is put aside of lines of which the first begins at a place of the document: nothing of the good ones.
abbrev pub IsAside : Language → Bool → Place → List (List ℕ) → List ℕ → Type 0
IsAside l first start [] text = text ≡ []
IsAside l first start (x ∷ xs) text =
    ((qs : List Quad) × IsGoodLine l first x qs × IsAside l false (place_after start x) xs text)
    ⊎ BadAside l first start x (λ t. IsAside l false (place_after start x) xs t) text

-- These lines are the first of a document, or others, and were sifted: the lines of the quads of the good ones were written, and the bad ones
-- were put aside; by Appends all of that, by AppendsFront a beginning of either.
pub record PutsAside (Puts : Option (List ℕ) → Option (List ℕ) → List ℕ → Type 0) (job : Conversion) (first : Bool) (start : Place) (lines : List (List ℕ))
    (old new old_bad new_bad : Option (List ℕ)) : Type 0 where
  pub kept : List (List ℕ)
  pub bad : List (List ℕ)
  pub quads : List Quad
  pub sifts : Sifts job.language first lines kept bad quads
  pub written : Puts old new (job.lines quads)
  pub text : List ℕ
  pub aside : IsAside job.language first start lines text
  pub put_aside : Puts old_bad new_bad text

-- All lines of the bytes were sifted. What was written is what `convert` writes for the document that is left without the bad ones.
pub record Skips (job : Conversion) (bytes : List ℕ) (old new old_bad new_bad : Option (List ℕ)) (s : SkipSummary) : Type 0 where
  pub aside : PutsAside Appends job true first_place (split_lines bytes) old new old_bad new_bad
  pub converted : IsConverted job (concat aside.kept) old new
  -- the numbers of a summary have 64 bits, so they are these counts
  pub quads : counted_up s.quads ≡ counted_up (length aside.quads)
  pub bad_lines : counted_up s.bad_lines ≡ counted_up (length aside.bad)
  pub size : s.bytes ≡ length bytes

-- all bytes of a source were read so, where they are known
abbrev pub SkipsAll : Conversion → Option (List ℕ) → Option (List ℕ) → Option (List ℕ) → Option (List ℕ) → Option (List ℕ) → SkipSummary → Type 0
SkipsAll job known old new old_bad new_bad s = IfSome known (λ bytes. Skips job bytes old new old_bad new_bad s)

-- The first of the lines of the bytes were sifted, and all that is written for them and put aside of them was, or a beginning of either.
pub record SkipsSome (Puts : Option (List ℕ) → Option (List ℕ) → List ℕ → Type 0) (job : Conversion) (bytes : List ℕ) (old new old_bad new_bad : Option (List ℕ)) : Type 0 where
  pub ahead : List (List ℕ)
  pub later : List (List ℕ)
  pub lines : split_lines bytes ≡ ahead ++ later
  pub aside : PutsAside Puts job true first_place ahead old new old_bad new_bad

-- All lines of the bytes that have ended were sifted; what comes after them is a part of a line, or nothing.
pub record SkipsEnded (job : Conversion) (bytes : List ℕ) (old new old_bad new_bad : Option (List ℕ)) : Type 0 where
  pub ahead : List (List ℕ)
  pub part : List ℕ
  pub whole : bytes ≡ concat ahead ++ part
  pub lines : split_lines bytes ≡ ahead ++ split_lines part
  pub no_end : AllByRecursion (λ b. is_line_end b ≡ false) part
  pub aside : PutsAside Appends job true first_place ahead old new old_bad new_bad

-- the source has given these bytes and failed then
pub record SkipBreaksOff (job : Conversion) (known left old new old_bad new_bad : Option (List ℕ)) : Type 0 where
  pub bytes : List ℕ
  pub consumed : Consumes known left bytes
  pub ended : SkipsEnded job bytes old new old_bad new_bad

-- Why such a conversion stopped, by what the source gave, and what it had written and put aside: whole lines, but where a drain failed a beginning
-- of them. Only a document of too many bytes is refused.
abbrev pub SkipStops : StreamFault → Conversion → Option (List ℕ) → Reading → Option (List ℕ) → Option (List ℕ) → Option (List ℕ) → Option (List ℕ) → Bool → Bool → Type 0
SkipStops (Refused f) job known left old new old_bad new_bad failed bad_failed =
    (failed ≡ false) × (bad_failed ≡ false) × (f.reason ≡ DocumentTooLong)
    × (given : HasGiven known left) × IsTooLong given.bytes (place_of f) × SkipsSome Appends job given.bytes old new old_bad new_bad
SkipStops Read job known left old new old_bad new_bad failed bad_failed =
    (failed ≡ false) × (bad_failed ≡ false) × HasBroken left × SkipBreaksOff job known left.remaining old new old_bad new_bad
SkipStops Write job known left old new old_bad new_bad failed bad_failed =
    ((failed ≡ true) ⊎ (bad_failed ≡ true)) × (given : HasGiven known left) × SkipsSome AppendsFront job given.bytes old new old_bad new_bad
SkipStops Memory job known left old new old_bad new_bad failed bad_failed =
    (failed ≡ false) × (bad_failed ≡ false) × (given : HasGiven known left) × SkipsSome Appends job given.bytes old new old_bad new_bad

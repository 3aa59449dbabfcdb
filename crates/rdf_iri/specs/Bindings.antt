-- A file of bindings: each line binds a prefix to an IRI, as `x: http://example.org/x#`, or says nothing.
use Prim.Native.Char.{code}
use Rattle.std.specs.Prelude.{◌≡◌, ℕ, ◌+◌, ◌*◌, ◌<◌, ◌≤◌, cond, List, [], ◌∷◌, ◌++◌, ◌⊎◌, length, Option, Some, None, is_some, codes, ⊤}
use Rattle.std.specs.List.{AllByRecursion}
use Rattle.std.specs.Str.{chars, IsUtf8}
use Rattle.rdf_terms.specs.Terms.{IsIri}
use Rattle.rdf_iri.specs.declared.fault.BindingReason.{BindingReason}
use Rattle.rdf_iri.specs.declared.fault.BindingReason.TheVariants.{BadBinding, TokenTooLong, IriTooLong, TooManyBindings, Memory}
use Rattle.rdf_iri.specs.Limits.{Sizes}
use Rattle.rdf_iri.specs.Texts.{Lacks, BeginsWith, byte_len}
use Rattle.rdf_iri.specs.Scope.{bound_to}
use Rattle.rdf_iri.specs.BindingLines.{IsBinding, SaysNothing}

-- U+FEFF, as bytes
abbrev pub byte_order_mark : List ℕ
byte_order_mark = 0xEF ∷ 0xBB ∷ 0xBF ∷ []

-- the bytes without one U+FEFF at their beginning
abbrev pub MarkDropped : List ℕ → List ℕ → Type 0
MarkDropped bytes rest = (bytes ≡ byte_order_mark ++ rest) ⊎ ((BeginsWith byte_order_mark bytes → ⊥) × (rest ≡ bytes))

-- a line and those after it, with an LF before each of these
abbrev pub with_feeds : List ℕ → List (List ℕ) → List ℕ
with_feeds line [] = line
with_feeds line (next ∷ more) = line ++ code "\n" ∷ with_feeds next more

-- the bytes, cut at each LF: there is one line more than there are LFs
abbrev pub IsCut : List ℕ → List (List ℕ) → Type 0
IsCut bytes [] = ⊥
IsCut bytes (line ∷ more) = (with_feeds line more ≡ bytes) × AllByRecursion (Lacks (code "\n")) (line ∷ more)

-- the lines of a file
abbrev pub LinesOf : List ℕ → List (List ℕ) → Type 0
LinesOf bytes lines = (rest : List ℕ) × MarkDropped bytes rest × IsCut rest lines

-- the line without one CR at its end
abbrev pub CrDropped : List ℕ → List ℕ → Type 0
CrDropped line text = (line ≡ text ++ code "\r" ∷ []) ⊎ (((front : List ℕ) × (line ≡ front ++ code "\r" ∷ []) → ⊥) × (text ≡ line))

-- what a line says: nothing, or a prefix without its colon and the IRI that it is bound to
abbrev pub Entry : Type 0
Entry = Option (List ℕ × List ℕ)

-- a text in UTF-8 says nothing, as an empty one and a comment do, or it binds a prefix to an IRI
abbrev pub TextSays : List ℕ → Entry → Type 0
TextSays text None = IsUtf8 text × SaysNothing (chars text)
TextSays text (Some e) = IsBinding text e.0 e.1

-- what a line says that may end in CR, which is no part of what it says
abbrev pub Says : List ℕ → Entry → Type 0
Says line entry = (text : List ℕ) × CrDropped line text × TextSays text entry

-- each line says what stands in its place
abbrev pub AllSay : List (List ℕ) → List Entry → Type 0
AllSay [] [] = ⊤
AllSay [] (entry ∷ entries) = ⊥
AllSay (line ∷ lines) [] = ⊥
AllSay (line ∷ lines) (entry ∷ entries) = Says line entry × AllSay lines entries

-- the map of a file: a prefix is bound to the IRI of the last line that binds it, and stands once
abbrev pub bindings_of : List Entry → List (List ℕ × List ℕ)
bindings_of [] = []
bindings_of (None ∷ entries) = bindings_of entries
bindings_of (Some e ∷ entries) = cond (is_some (bound_to (bindings_of entries) e.0)) (bindings_of entries) (e ∷ bindings_of entries)

-- the prefix with its colon has at most so many characters, and the IRI at most so many bytes
abbrev pub EntryFits : Sizes → Entry → Type 0
EntryFits sizes None = ⊤
EntryFits sizes (Some e) = (length (e.0 ++ codes ":") ≤ sizes.token) × (byte_len e.1 ≤ sizes.iri)

-- each line keeps the limits, and so do the prefixes that are bound, each counted once
abbrev pub AllFit : Sizes → List Entry → Type 0
AllFit sizes entries = AllByRecursion (EntryFits sizes) entries × (length (bindings_of entries) ≤ sizes.bindings)

-- a file of bindings within the limits, and what its lines say
pub record IsFile (sizes : Sizes) (bytes : List ℕ) (entries : List Entry) : Type 0 where
  pub lines : List (List ℕ)
  pub cut : LinesOf bytes lines
  pub says : AllSay lines entries
  pub fits : AllFit sizes entries

-- two lists are the same map, whatever their order
pub record SameMap (es fs : List (List ℕ × List ℕ)) : Type 0 where
  pub bound : (prefix : List ℕ) → bound_to es prefix ≡ bound_to fs prefix
  pub count : length es ≡ length fs

-- what is handed in with a document: prefixes with their IRIs, and the limits that they keep
pub record BindingMap : Type 0 where
  pub bindings : List (List ℕ × List ℕ)
  pub limits : Sizes

-- what all of them keep to; a character of a prefix has at most four bytes
pub record KeepsSizes (b : BindingMap) : Type 0 where
  pub count : length b.bindings ≤ b.limits.bindings
  pub sizes : (prefix iri : List ℕ) → bound_to b.bindings prefix ≡ Some iri → (byte_len prefix ≤ 4 * b.limits.token) × (byte_len iri ≤ b.limits.iri)
  pub iris : (prefix iri : List ℕ) → bound_to b.bindings prefix ≡ Some iri → IsIri iri

-- the file keeps the form and the limits, and these are its bindings
abbrev pub IsReadFrom : Sizes → List ℕ → BindingMap → Type 0
IsReadFrom sizes bytes b = (entries : List Entry) × IsFile sizes bytes entries × SameMap b.bindings (bindings_of entries) × (b.limits ≡ sizes)

-- why a line fails after lines that say this, by the first reason that fits
abbrev pub FailsFor : BindingReason → Sizes → List Entry → List ℕ → Type 0
FailsFor BadBinding sizes ahead line = (entry : Entry) → Says line entry → ⊥
FailsFor TokenTooLong sizes ahead line = (e : List ℕ × List ℕ) × Says line (Some e) × (sizes.token < length (e.0 ++ codes ":"))
FailsFor IriTooLong sizes ahead line = (e : List ℕ × List ℕ) × Says line (Some e) × (length (e.0 ++ codes ":") ≤ sizes.token) × (sizes.iri < byte_len e.1)
FailsFor TooManyBindings sizes ahead line =
    (e : List ℕ × List ℕ) × Says line (Some e) × EntryFits sizes (Some e) × (bound_to (bindings_of ahead) e.0 ≡ None)
    × (sizes.bindings ≤ length (bindings_of ahead))
FailsFor Memory sizes ahead line = ⊥

-- the first line that fails: those before it keep the form and the limits; lines are counted from 1
pub record FailsAt (reason : BindingReason) (sizes : Sizes) (bytes : List ℕ) (number : ℕ) : Type 0 where
  pub front : List (List ℕ)
  pub line : List ℕ
  pub rest : List (List ℕ)
  pub entries : List Entry
  pub cut : LinesOf bytes (front ++ line ∷ rest)
  pub says : AllSay front entries
  pub fits : AllFit sizes entries
  pub counted : number ≡ length front + 1
  pub why : FailsFor reason sizes entries line

-- the error of a file: the first line that fails, or want of memory, whose line is any
abbrev pub IsRefused : BindingReason → Sizes → List ℕ → ℕ → Type 0
IsRefused Memory sizes bytes number = ⊤
IsRefused reason sizes bytes number = FailsAt reason sizes bytes number

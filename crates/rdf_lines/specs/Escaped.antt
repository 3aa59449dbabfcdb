-- Lines whose strings and IRIs may have any escapes: what stands at the front of some bytes, and what it means.
use Rattle.std.specs.Prelude.{◌≡◌, ◌≤◌, ◌+◌, ◌⊎◌, ℕ, Bool, true, false, cond, ◌&&◌, ◌==◌, List, [], ◌∷◌, ◌++◌, Option, Some, None, encode_utf8_all}
use Rattle.std.specs.Str.{chars, IsUtf8}
use Rattle.rdf_terms.specs.Classes.{scalar}
use Rattle.rdf_terms.specs.Runs.{is_short_byte}
use Rattle.rdf_terms.specs.declared.kind.Dialect.TheVariants.{Lines}
use Rattle.rdf_tokens.specs.Tokens.{is_space}
use Rattle.rdf_terms.specs.Terms.{Tail, Lang, Typed, Label, Anon, Cell, Subject, Iri, Blank, Term, Resource, Literal, Quad, xsd_string, all_have, IsIri, IsLabel, IsTag}
use Rattle.rdf_terms.specs.Values.{iri_value, string_value}
use Rattle.rdf_iri.specs.Texts.{byte_len}
use Rattle.rdf_driver.specs.Readers.{Driven, HasRead}
use Rattle.rdf_lines.specs.declared.form.LineForm.{LineForm}
use Rattle.rdf_lines.specs.declared.form.LineForm.TheVariants.{NQuads}
use Rattle.rdf_lines.specs.declared.form.LineEnding.{LineEnding}
use Rattle.rdf_lines.specs.declared.form.Style.TheVariants.{Kept}
use Rattle.rdf_lines.specs.declared.rules.Rules.{Rules}
use Rattle.rdf_lines.specs.Accepting.{LineAt, line_words}
use Rattle.rdf_lines.specs.Canonical.{end_text}
use Rattle.rdf_lines.specs.Fronts.{BlankStands, NameStands}
use Rattle.rdf_lines.specs.declared.form.Escapes.TheVariants.{Plain}
use Rattle.rdf_lines.specs.Writing.{Writable, text}

-- Whether the text has quotes, backslashes and line ends after backslashes alone, each of which takes what follows with it. The place may be after a
-- backslash.
abbrev pub is_clear : Bool → List ℕ → Bool
is_clear false [] = true
is_clear true [] = false
is_clear true (c ∷ w) = is_clear false w
is_clear false (c ∷ w) = cond (c == 92) (is_clear true w) (is_short_byte 34 c && is_clear false w)

-- an IRI after its bracket, of at most so many bytes, spelled in any way, and the bracket that closes it
pub record IriSpelled (iri : ℕ) (i bytes rest : List ℕ) : Type 0 where
  pub part : List ℕ
  pub utf8 : IsUtf8 part
  pub value : iri_value (chars part) ≡ Some i
  pub is : IsIri i
  pub within : byte_len i ≤ iri
  pub stands : bytes ≡ part ++ 62 ∷ rest

-- a string after its quote, spelled in any way, and the quote that closes it
pub record StringSpelled (w bytes rest : List ℕ) : Type 0 where
  pub part : List ℕ
  pub utf8 : IsUtf8 part
  pub value : string_value (chars part) ≡ Some w
  pub are : all_have scalar w ≡ true
  pub clear : is_clear false part ≡ true
  pub stands : bytes ≡ part ++ 34 ∷ rest

-- an IRI with its brackets, and what follows it
pub record NamedIri (iri : ℕ) (i bytes rest : List ℕ) : Type 0 where
  pub inner : List ℕ
  pub opens : bytes ≡ 60 ∷ inner
  pub spelled : IriSpelled iri i inner rest

-- a label with its `_:`
pub record LabelSpelled (name bytes rest : List ℕ) : Type 0 where
  pub inner : List ℕ
  pub opens : bytes ≡ 95 ∷ 58 ∷ inner
  pub spelled : NameStands IsLabel name inner rest

-- an IRI or a label
abbrev pub SubjectSpelled : ℕ → Subject → List ℕ → List ℕ → Type 0
SubjectSpelled iri (Iri i) bytes rest = NamedIri iri i bytes rest
SubjectSpelled iri (Blank (Label x)) bytes rest = LabelSpelled x bytes rest
SubjectSpelled iri (Blank (Anon n)) bytes rest = ⊥
SubjectSpelled iri (Blank (Cell n)) bytes rest = ⊥

-- spaces and tabs, or none
pub record BlanksStand (bytes rest : List ℕ) : Type 0 where
  pub blanks : List ℕ
  pub are : all_have (is_space Lines) blanks ≡ true
  pub stands : bytes ≡ blanks ++ rest

-- what parts two tokens: a space or a tab, and any more
pub record GapStands (bytes rest : List ℕ) : Type 0 where
  pub mid : List ℕ
  pub first : BlankStands 0 bytes mid
  pub more : BlanksStand mid rest

-- a part of a line, and spaces or tabs after it
pub record Spaced (part : List ℕ → List ℕ → Type 0) (bytes rest : List ℕ) : Type 0 where
  pub mid : List ℕ
  pub spelled : part bytes mid
  pub gap : GapStands mid rest

-- a language tag with its `@`
pub record TagSpelled (tag bytes rest : List ℕ) : Type 0 where
  pub inner : List ℕ
  pub opens : bytes ≡ 64 ∷ inner
  pub spelled : NameStands IsTag tag inner rest

-- a datatype with its carets
pub record TypeSpelled (iri : ℕ) (i bytes rest : List ℕ) : Type 0 where
  pub inner : List ℕ
  pub opens : bytes ≡ 94 ∷ 94 ∷ inner
  pub spelled : NamedIri iri i inner rest

-- what follows a string, in so many tokens; without any it is of xsd:string
abbrev pub TailSpelled : ℕ → ℕ → Tail → List ℕ → List ℕ → Type 0
TailSpelled iri n (Lang tag) bytes rest = (n ≡ 1) × TagSpelled tag bytes rest
TailSpelled iri n (Typed i) bytes rest = ((n ≡ 0) × (i ≡ xsd_string) × (39 ≤ iri) × (bytes ≡ rest)) ⊎ ((n ≡ 2) × TypeSpelled iri i bytes rest)

-- a literal with its quotes
pub record LiteralSpelled (iri n : ℕ) (w : List ℕ) (t : Tail) (bytes rest : List ℕ) : Type 0 where
  pub inner : List ℕ
  pub after : List ℕ
  pub tokens : ℕ
  pub opens : bytes ≡ 34 ∷ inner
  pub string : StringSpelled w inner after
  pub tail : TailSpelled iri tokens t after rest
  pub count : n ≡ tokens + 1

-- an object of so many tokens
abbrev pub TermSpelled : ℕ → ℕ → Term → List ℕ → List ℕ → Type 0
TermSpelled iri n (Resource s) bytes rest = (n ≡ 1) × SubjectSpelled iri s bytes rest
TermSpelled iri n (Literal w t) bytes rest = LiteralSpelled iri n w t bytes rest

-- a graph label of the form and what parts it from the dot, or none
abbrev pub GraphSpelled : LineForm → ℕ → ℕ → Option Subject → List ℕ → List ℕ → Type 0
GraphSpelled form iri n None bytes rest = (n ≡ 0) × (bytes ≡ rest)
GraphSpelled form iri n (Some g) bytes rest = (n ≡ 1) × (form ≡ NQuads) × Spaced (SubjectSpelled iri g) bytes rest

-- the line of a quad that ends so, of so many tokens before its end
pub record LineSpelled (ending : LineEnding) (form : LineForm) (iri n : ℕ) (q : Quad) (bytes rest : List ℕ) : Type 0 where
  pub a : List ℕ
  pub b : List ℕ
  pub c : List ℕ
  pub d : List ℕ
  pub e : List ℕ
  pub objects : ℕ
  pub graphs : ℕ
  pub subject : Spaced (SubjectSpelled iri q.subject) bytes a
  pub predicate : Spaced (NamedIri iri q.predicate) a b
  pub object : Spaced (TermSpelled iri objects q.object) b c
  pub graph : GraphSpelled form iri graphs q.graph c d
  pub dot : d ≡ 46 ∷ e
  pub ends : e ≡ end_text ending ++ rest
  pub count : n ≡ objects + graphs + 3

-- A reader has passed some bytes: it has read them and some quads, whose lines are these bytes.
pub record PassesAs (old : Driven LineAt) (bytes : List ℕ) (new : Driven LineAt) (lines : List ℕ) : Type 0 where
  pub given : List Quad
  pub are : lines ≡ encode_utf8_all (text Kept Plain given)
  pub writable : Writable Kept given
  pub limit : new.scanner.limit ≡ old.scanner.limit
  pub read : (x : Rules) (before : List ℕ) (quads : List Quad) → HasRead line_words old x before quads →
      HasRead line_words new x (before ++ bytes) (quads ++ given)

-- The same, and the lines were appended to others.
pub record PassesInto (old : Driven LineAt) (bytes : List ℕ) (new : Driven LineAt) (before after : List ℕ) : Type 0 where
  pub lines : List ℕ
  pub appended : after ≡ before ++ lines
  pub passes : PassesAs old bytes new lines

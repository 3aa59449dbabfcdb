-- What a text that is used again stands for, by its kind. Where none has come there is none: it is empty.
use Rattle.std.specs.Prelude.{◌≡◌, ℕ, List, [], Bool, true, false, Option, Some, None}
use Rattle.rdf_terms.specs.Terms.{IsIri, IsLabel, IsTag, Label, Anon, Subject, Iri, Blank, Tail, Lang, Typed, xsd_string}
use Rattle.rdf_lines.specs.declared.slots.SubjectKind.{SubjectKind}
use Rattle.rdf_lines.specs.declared.slots.SubjectKind.TheVariants as kind
use Rattle.rdf_lines.specs.declared.slots.TailKind.{TailKind}
use Rattle.rdf_lines.specs.declared.slots.TailKind.TheVariants as tail

-- the subject of this kind and text; before the first one, a node without a label
abbrev pub subject_at : SubjectKind → List ℕ → Subject
subject_at kind.Iri w = Iri w
subject_at kind.Label w = Blank (Label w)
subject_at kind.Nothing w = Blank (Anon 0)

-- the text is one of this kind
abbrev pub IsSubjectText : SubjectKind → List ℕ → Type 0
IsSubjectText kind.Iri w = ∥ IsIri w ∥₁
IsSubjectText kind.Label w = ∥ IsLabel w ∥₁
IsSubjectText kind.Nothing w = w ≡ []

-- the predicate of this text, where one has come
abbrev pub iri_at : Bool → List ℕ → Option (List ℕ)
iri_at true w = Some w
iri_at false w = None

-- the text is that of a predicate, where one has come
abbrev pub IsIriText : Bool → List ℕ → Type 0
IsIriText true w = ∥ IsIri w ∥₁
IsIriText false w = w ≡ []

-- a predicate; where none has come, xsd:string
abbrev pub iri_or_string : Option (List ℕ) → List ℕ
iri_or_string (Some i) = i
iri_or_string None = xsd_string

-- the datatype or the tag of this text, where one has come
abbrev pub tail_at : TailKind → List ℕ → Option Tail
tail_at tail.Datatype w = Some (Typed w)
tail_at tail.Tag w = Some (Lang w)
tail_at tail.Nothing w = None

-- a datatype or a tag; where none has come, xsd:string
abbrev pub tail_or_string : Option Tail → Tail
tail_or_string (Some t) = t
tail_or_string None = Typed xsd_string

-- the text is one of this kind
abbrev pub IsTailText : TailKind → List ℕ → Type 0
IsTailText tail.Datatype w = ∥ IsIri w ∥₁
IsTailText tail.Tag w = ∥ IsTag w ∥₁
IsTailText tail.Nothing w = w ≡ []

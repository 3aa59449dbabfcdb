-- What stands at the front of some bytes, as it is written in a line.
use Rattle.std.specs.Prelude.{◌≡◌, ◌≤◌, ℕ, true, List, [], ◌∷◌, ◌++◌, flat_map, encode_utf8_all, length, take, Option}
use Rattle.std.specs.Str.{chars, IsUtf8}
use Rattle.rdf_terms.specs.declared.kind.Dialect.TheVariants.{Lines}
use Rattle.rdf_tokens.specs.Tokens.{is_space}
use Rattle.std.specs.List.{AllByRecursion}
use Rattle.rdf_terms.specs.Classes.{scalar}
use Rattle.rdf_terms.specs.Terms.{Tail, Subject, Term, Quad, all_have, IsIri, IsSubject, IsTail, IsTerm, IsGraph}
use Rattle.rdf_iri.specs.Texts.{byte_len}
use Rattle.rdf_lines.specs.declared.form.LineForm.{LineForm}
use Rattle.rdf_lines.specs.declared.form.LineEnding.{LineEnding}
use Rattle.rdf_lines.specs.declared.form.Escapes.TheVariants.{Plain}
use Rattle.rdf_lines.specs.declared.form.Style.TheVariants.{Kept}
use Rattle.rdf_lines.specs.Canonical.{tail_count, term_count, graph_count, ended_line, ended_lines, quad_count, count, LabelFits, IsTaken, IsCanonical}
use Rattle.rdf_lines.specs.Laws.{SubjectWithin, TailWithin, TermWithin, GraphWithin}
use Rattle.rdf_lines.specs.Writing.{written, escaped, iri_text, subject_text, tail_text, term_text, space, graph_text}
use Rattle.rdf_lines.specs.NodeNames.{CanWriteSubject, CanWriteTerm, CanWriteGraph}

-- The text stands there, before the rest.
abbrev pub Stands : List ℕ → List ℕ → List ℕ → Type 0
Stands w bytes rest = bytes ≡ encode_utf8_all w ++ rest

-- an IRI after its bracket, of at most so many bytes, and the bracket that closes it
pub record IriStands (iri : ℕ) (i bytes rest : List ℕ) : Type 0 where
  pub is : IsIri i
  pub within : byte_len i ≤ iri
  pub stands : Stands (flat_map (written Plain) i ++ 62 ∷ []) bytes rest

-- a label or a tag, and what follows it
pub record NameStands (is : List ℕ → Type 0) (name bytes rest : List ℕ) : Type 0 where
  pub part : List ℕ
  pub utf8 : IsUtf8 part
  pub named : chars part ≡ name
  pub is_name : is name
  pub stands : bytes ≡ part ++ rest

-- a space or a tab after n bytes
pub record BlankStands (n : ℕ) (bytes rest : List ℕ) : Type 0 where
  pub blank : ℕ
  pub is : is_space Lines blank ≡ true
  pub stands : bytes ≡ take n bytes ++ blank ∷ rest

-- characters of a string
pub record CharactersStand (bytes rest : List ℕ) : Type 0 where
  pub characters : List ℕ
  pub are : all_have scalar characters ≡ true
  pub stands : Stands (flat_map (escaped Plain) characters) bytes rest

-- a string after its quote, and the quote that closes it
abbrev pub StringStands : List ℕ → List ℕ → Type 0
StringStands bytes rest = CharactersStand bytes (34 ∷ rest)

-- an escape after its backslash
pub record EscapeStands (bytes rest : List ℕ) : Type 0 where
  pub character : ℕ
  pub is : scalar character ≡ true
  pub stands : Stands (escaped Plain character) (92 ∷ bytes) rest

-- a subject and a space
pub record SubjectStands (iri : ℕ) (bytes rest : List ℕ) : Type 0 where
  pub subject : Subject
  pub is : IsSubject subject
  pub labels : CanWriteSubject Kept subject
  pub within : SubjectWithin iri subject
  pub stands : Stands (subject_text Plain subject ++ space) bytes rest

-- a predicate and a space
pub record PredicateStands (iri : ℕ) (bytes rest : List ℕ) : Type 0 where
  pub predicate : List ℕ
  pub is : IsIri predicate
  pub within : byte_len predicate ≤ iri
  pub stands : Stands (iri_text Plain predicate ++ space) bytes rest

-- what follows a string, of so many tokens, and a space
pub record TailStands (iri n : ℕ) (bytes rest : List ℕ) : Type 0 where
  pub tail : Tail
  pub is : IsTail tail
  pub within : TailWithin iri tail
  pub count : n ≡ tail_count tail
  pub stands : Stands (tail_text Plain tail ++ space) bytes rest

-- an object of so many tokens, and a space
pub record ObjectStands (iri n : ℕ) (bytes rest : List ℕ) : Type 0 where
  pub object : Term
  pub is : IsTerm object
  pub labels : CanWriteTerm Kept object
  pub within : TermWithin iri object
  pub count : n ≡ term_count object
  pub stands : Stands (term_text Plain object ++ space) bytes rest

-- a graph label of the form and a space, or none
pub record GraphStands (form : LineForm) (iri n : ℕ) (bytes rest : List ℕ) : Type 0 where
  pub graph : Option Subject
  pub is : IsGraph graph
  pub labels : CanWriteGraph Kept graph
  pub within : GraphWithin iri graph
  pub fits : LabelFits form graph
  pub count : n ≡ graph_count graph
  pub stands : Stands (graph_text Plain graph) bytes rest

-- a line that ends so, of so many tokens, that a document of the form may have within the limits
pub record LineStands (ending : LineEnding) (form : LineForm) (token iri n : ℕ) (bytes rest : List ℕ) : Type 0 where
  pub quad : Quad
  pub is : IsTaken form token iri quad
  pub count : n ≡ quad_count ending quad
  pub stands : Stands (ended_line ending quad) bytes rest

-- Such a line stands there, by whatever limit on tokens that is neither below 64 nor below the number of bytes.
abbrev pub LineStandsByAnyLimit : LineEnding → LineForm → ℕ → ℕ → List ℕ → List ℕ → Type 0
LineStandsByAnyLimit ending form iri n bytes rest = (token : ℕ) → 64 ≤ token → length bytes ≤ token → LineStands ending form token iri n bytes rest

-- lines that end so, of so many quads and tokens, that a document of the form may have within the limits
pub record LinesStand (ending : LineEnding) (form : LineForm) (token iri quads tokens : ℕ) (bytes rest : List ℕ) : Type 0 where
  pub given : List Quad
  pub each : AllByRecursion (IsTaken form token iri) given
  pub quad_count : quads ≡ length given
  pub token_count : tokens ≡ count ending given
  pub stands : Stands (ended_lines ending given) bytes rest

-- The bytes are such lines.
pub record AreLines (ending : LineEnding) (form : LineForm) (token iri quads tokens : ℕ) (bytes : List ℕ) : Type 0 where
  pub given : List Quad
  pub canonical : IsCanonical ending form token iri bytes given
  pub quad_count : quads ≡ length given
  pub token_count : tokens ≡ count ending given

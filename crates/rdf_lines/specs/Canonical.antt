-- Lines as they are written with their labels kept, or but for a CR before each LF. Of such lines it is known how they are read.
use Rattle.std.specs.Prelude.{◌≡◌, ◌≤◌, ℕ, ◌+◌, ◌==◌, Bool, true, false, not, List, [], ◌∷◌, ◌++◌, flat_map, bytes_eq, encode_utf8_all, Option, Some, None}
use Rattle.std.specs.List.{AllByRecursion, filter}
use Rattle.rdf_terms.specs.Terms.{Tail, Lang, Typed, Subject, Term, Resource, Literal, Quad, xsd_string, IsQuad}
use Rattle.rdf_driver.specs.Readers.{Driven, HasRead}
use Rattle.rdf_driver.specs.Passing.{LeadsBack}
use Rattle.rdf_lines.specs.declared.form.LineForm.{LineForm}
use Rattle.rdf_lines.specs.declared.form.LineForm.TheVariants.{NTriples, NQuads}
use Rattle.rdf_lines.specs.declared.form.LineEnding.{LineEnding}
use Rattle.rdf_lines.specs.declared.form.LineEnding.TheVariants.{Lf, CrLf}
use Rattle.rdf_lines.specs.declared.form.Escapes.TheVariants.{Plain}
use Rattle.rdf_lines.specs.declared.form.Style.TheVariants.{Kept}
use Rattle.rdf_lines.specs.declared.rules.Rules.{Rules}
use Rattle.rdf_lines.specs.Machine.{Begin}
use Rattle.rdf_lines.specs.Accepting.{LineAt, line_words}
use Rattle.rdf_lines.specs.Laws.{IrisWithin, TokensWithin}
use Rattle.rdf_lines.specs.Writing.{CanWrite, subject_text, iri_text, term_text, graph_text, space, text}

-- the characters that end a line
abbrev pub end_text : LineEnding → List ℕ
end_text Lf = 10 ∷ []
end_text CrLf = 13 ∷ 10 ∷ []

-- how many tokens they are
abbrev pub end_count : LineEnding → ℕ
end_count Lf = 1
end_count CrLf = 2

-- a quad's line before its end: each part and a space, then a dot
abbrev pub statement_text : Quad → List ℕ
statement_text q = (subject_text Plain q.subject ++ space) ++ (iri_text Plain q.predicate ++ space) ++ (term_text Plain q.object ++ space) ++ graph_text Plain q.graph ++ (46 ∷ [])

-- the line of a quad that ends so
abbrev pub ended_line : LineEnding → Quad → List ℕ
ended_line ending q = statement_text q ++ end_text ending

-- the lines of some quads that end so
abbrev pub ended_lines : LineEnding → List Quad → List ℕ
ended_lines ending qs = flat_map (ended_line ending) qs

-- bytes without those that are CR
abbrev pub without_crs : List ℕ → List ℕ
without_crs bytes = filter (λ b. not (b == 13)) bytes

-- what is written for lines that end so
abbrev pub written_as : LineEnding → List ℕ → List ℕ
written_as Lf bytes = bytes
written_as CrLf bytes = without_crs bytes

-- how many tokens a datatype is written with; that of a plain string is not written
abbrev pub type_count : Bool → ℕ
type_count true = 0
type_count false = 2

-- how many stand after a string
abbrev pub tail_count : Tail → ℕ
tail_count (Lang t) = 1
tail_count (Typed i) = type_count (bytes_eq i xsd_string)

-- how many an object has
abbrev pub term_count : Term → ℕ
term_count (Resource s) = 1
term_count (Literal w t) = 1 + tail_count t

-- how many a graph label has
abbrev pub graph_count : Option Subject → ℕ
graph_count None = 0
graph_count (Some g) = 1

-- how many the line of a quad has: with the subject, the predicate, the dot and the line's end
abbrev pub quad_count : LineEnding → Quad → ℕ
quad_count ending q = 3 + term_count q.object + graph_count q.graph + end_count ending

-- how many the lines of some quads have
abbrev pub count : LineEnding → List Quad → ℕ
count ending [] = 0
count ending (q ∷ qs) = quad_count ending q + count ending qs

-- a graph label stands in N-Quads only
abbrev pub LabelFits : LineForm → Option Subject → Type 0
LabelFits NTriples g = g ≡ None
LabelFits NQuads g = Unit

-- A document of the form may have the quad's line within the limits.
pub record IsTaken (form : LineForm) (token iri : ℕ) (q : Quad) : Type 0 where
  pub quad : IsQuad q
  pub labels : CanWrite Kept q
  pub tokens : TokensWithin Plain token q
  pub iris : IrisWithin iri q
  pub graph : LabelFits form q.graph

-- The bytes are the lines of such quads, which end so.
pub record IsCanonical (ending : LineEnding) (form : LineForm) (token iri : ℕ) (bytes : List ℕ) (qs : List Quad) : Type 0 where
  pub is : bytes ≡ encode_utf8_all (ended_lines ending qs)
  pub each : AllByRecursion (IsTaken form token iri) qs

-- Between two lines, canonical lines spell as many tokens as are counted for their quads, give these quads, and lead back between two
-- lines; `^^` has two characters.
abbrev pub CanonicalLinesAreRead : Type 0
CanonicalLinesAreRead = (r : Driven LineAt) (ending : LineEnding) (bytes : List ℕ) (qs : List Quad) → r.grammar.mode ≡ Begin → 2 ≤ r.scanner.limit →
    IsCanonical ending r.grammar.rules.form r.scanner.limit r.grammar.rules.iri bytes qs → LeadsBack line_words r bytes qs (count ending qs)

-- But for the CRs of lines that end in CR and LF, they are what is written for these quads.
abbrev pub CanonicalLinesAreWritten : Type 0
CanonicalLinesAreWritten = (ending : LineEnding) (form : LineForm) (token iri : ℕ) (bytes : List ℕ) (qs : List Quad) →
    IsCanonical ending form token iri bytes qs → written_as ending bytes ≡ encode_utf8_all (text Kept Plain qs)

-- A reader has passed some bytes: they are lines that end so, as they are written but for that, and it has read them and their quads.
pub record PassesLines (ending : LineEnding) (old : Driven LineAt) (bytes : List ℕ) (new : Driven LineAt) : Type 0 where
  pub given : List Quad
  pub canonical : IsCanonical ending old.grammar.rules.form old.scanner.limit old.grammar.rules.iri bytes given
  pub grammar : new.grammar ≡ old.grammar
  pub limit : new.scanner.limit ≡ old.scanner.limit
  pub done : new.done ≡ old.done
  pub read : (x : Rules) (before : List ℕ) (quads : List Quad) → HasRead line_words old x before quads →
      HasRead line_words new x (before ++ bytes) (quads ++ given)

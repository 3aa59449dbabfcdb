-- What is written for a document is a document of N-Quads, with the same quads: of Turtle or TriG, and what `convert` answers for any format.
use Rattle.std.specs.Prelude.{◌≡◌, ◌≤◌, ◌+◌, ◌*◌, ℕ, Bool, false, List, ◌++◌, length, Option, Some, IfSome, encode_utf8_all}
use Rattle.rdf_terms.specs.Terms.{Quad, IsIri}
use Rattle.rdf_terms.specs.declared.reason.Reason.{Reason}
use Rattle.rdf_tokens.specs.Tokens.{Place}
use Rattle.rdf_tokens.specs.Grammars.{IsDocumentOf, IsWhole, IsReadToItsEnd, Refused}
use Rattle.rdf_tokens.specs.Scans.{most_bytes}
use Rattle.rdf_iri.specs.Texts.{byte_len}
use Rattle.rdf_iri.specs.Scope.{InForce, bound_to}
use Rattle.rdf_lines.specs.declared.form.LineForm.TheVariants.{NQuads}
use Rattle.rdf_lines.specs.declared.form.Escapes.{Escapes}
use Rattle.rdf_lines.specs.declared.form.Style.TheVariants.{Tagged}
use Rattle.rdf_lines.specs.Laws.{string_width, iri_width}
use Rattle.rdf_lines.specs.NodePrefixes.{IsNodePrefix, text_in}
use Rattle.rdf_lines.specs.Writing.{Writable}
use Rattle.rdf_lines.specs.Documents.{in_lines}
use Rattle.rdf_trig.specs.declared.form.DocForm.{DocForm}
use Rattle.rdf_trig.specs.Language.{language}
use Rattle.rdf_driver.specs.declared.summary.Summary.{Summary}
use Rattle.rdf_stream.specs.Converts.{Accepts}
use Rattle.rdf_stream.specs.Jobs.{JobRead}
use Rattle.rdf_stream.specs.Languages.{conversion_of, language_of}

-- the base, where there is one, and what each prefix is bound to are IRIs
pub record HasIris (s : InForce) : Type 0 where
  pub base : IfSome s.base IsIri
  pub bindings : (prefix iri : List ℕ) → bound_to s.bindings prefix ≡ Some iri → IsIri iri

-- The quads of a document are well formed, and each of their nodes has a name where those without a label are named by their offsets.
abbrev pub DocumentIsWritable : Type 0
DocumentIsWritable = (form : DocForm) (start : InForce) (bytes : List ℕ) (qs : List Quad) → HasIris start → length bytes ≤ most_bytes →
    IsDocumentOf (language form start) bytes qs → Writable Tagged qs

-- What is written for a document within its limits is read to its end as N-Quads with limits that are higher by what the escapes take, and that on
-- tokens by the word's length.
abbrev pub WrittenDocumentIsRead : Type 0
WrittenDocumentIsRead = (e : Escapes) (p : List ℕ) (form : DocForm) (start : InForce) (bytes : List ℕ) (qs : List Quad) → IsNodePrefix p → HasIris start →
    length bytes ≤ most_bytes → IsDocumentOf (language form start) bytes qs → IsWhole (language form start) bytes → (token_then iri_then : ℕ) →
    string_width e * start.limits.token ≤ token_then → iri_width e * start.limits.iri + 2 ≤ token_then → 64 ≤ token_then →
    start.limits.iri ≤ iri_then → 64 ≤ iri_then →
    IsReadToItsEnd (in_lines NQuads (length p + token_then) iri_then) (encode_utf8_all (text_in (record { style = Tagged; escapes = e; prefix = p }) qs))

-- What the types of a job's parts say: its base, its bindings and its graph are IRIs, and its word has letters and digits alone.
pub record IsJob (job : JobRead) : Type 0 where
  pub iris : HasIris (record { base = job.base; bindings = job.bindings; limits = job.limits })
  pub word : IsNodePrefix job.node_prefix
  pub graph : IfSome job.graph IsIri

-- These limits, with the word's length more for tokens, suffice for what is written for the job.
pub record Suffice (job : JobRead) (token_then iri_then : ℕ) : Type 0 where
  pub strings : string_width job.escapes * job.limits.token ≤ token_then
  pub iris : iri_width job.escapes * job.limits.iri + 2 ≤ token_then
  pub token : 64 ≤ token_then
  pub kept : job.limits.iri ≤ iri_then
  pub iri : 64 ≤ iri_then
  pub graph : IfSome job.graph (λ g. (iri_width job.escapes * byte_len g + 2 ≤ token_then) × (byte_len g ≤ iri_then))

-- What `convert` has written where it accepts a document, of any format, is read to its end as N-Quads. That its quads are those of the document, in the
-- graph that was asked for, is `known` of what it promises.
abbrev pub ConvertedIsRead : Type 0
ConvertedIsRead = (job : JobRead) (bytes : List ℕ) (old new : Option (List ℕ)) (s : Summary) → IsJob job →
    (accepted : Accepts (conversion_of job) bytes old new s) → (token_then iri_then : ℕ) → Suffice job token_then iri_then →
    IsReadToItsEnd (in_lines NQuads (length job.node_prefix + token_then) iri_then) ((conversion_of job).lines accepted.items)

-- A reading of a job's document is refused for one reason, at one place.
abbrev pub RefusedOnce : Type 0
RefusedOnce = (job : JobRead) (bytes : List ℕ) (is_end : Bool) (reason other : Reason) (at place : Place) →
    Refused (language_of job) bytes is_end reason at → Refused (language_of job) bytes is_end other place → (reason ≡ other) × (at ≡ place)

-- More bytes, or the end, change nothing of a refusal.
abbrev pub RefusedInMore : Type 0
RefusedInMore = (job : JobRead) (bytes more : List ℕ) (is_end : Bool) (reason : Reason) (at : Place) →
    Refused (language_of job) bytes false reason at → Refused (language_of job) (bytes ++ more) is_end reason at

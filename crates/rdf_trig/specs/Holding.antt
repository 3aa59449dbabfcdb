-- The bytes of the texts of a state of the reader's code, field by field, and their bounds, which each step keeps.
use Rattle.std.specs.Prelude.{◌≡◌, ℕ, ◌+◌, ◌-◌, ◌*◌, ◌≤◌, List, length, max, Option, Some, None, ⊤}
use Rattle.std.specs.String.{string_bytes}
use Rattle.std.specs.List.{AllByRecursion, sum_by}
use Rattle.rdf_terms.specs.declared.kind.Kind.{Kind}
use Rattle.rdf_terms.specs.declared.kind.Kind.TheVariants.{OpenBracket, CloseBracket, OpenParen, CloseParen}
use Rattle.rdf_tokens.specs.declared.token.Token.{Token as Given}
use Rattle.rdf_iri.specs.Texts.{byte_len}
use Rattle.rdf_iri.specs.Limits.{Sizes}
use Rattle.rdf_iri.specs.Scope.{InForce, bytes_held}
use Rattle.rdf_trig.specs.declared.spares.Spares.{Spares}
use Rattle.rdf_trig.specs.declared.state.Frame.{Frame}
use Rattle.rdf_trig.specs.declared.state.State.{State}
use Rattle.rdf_trig.specs.Owed.{iri_size}
use Rattle.rdf_trig.specs.States.{leaf}

-- the bytes of the texts of a frame: of its subject and its verb
abbrev pub frame_bytes : {A : Type 0} → Frame A → ℕ
frame_bytes f = f.subject.size + iri_size f.verb

-- those of the frames that are kept for brackets that open
abbrev pub spare_bytes : {A : Type 0} → Spares A → ℕ
spare_bytes s = sum_by frame_bytes s.frames.items

-- those of a state: of the graph, the object, a lexical form or prefix with its datatype and its tag, the last token's IRI, and of all frames
abbrev pub state_bytes : {A : Type 0} → State A → ℕ
state_bytes r =
    r.graph.size
    + r.object.size
    + length (string_bytes r.text)
    + iri_size r.datatype
    + iri_size r.tag
    + iri_size r.name
    + frame_bytes r.frame
    + sum_by frame_bytes r.frames.items
    + spare_bytes r.spares

-- those of a grammar, by its state and its scope, which has the base, and each bound prefix with its IRI
abbrev pub grammar_bytes : {A : Type 0} → State A → InForce → ℕ
grammar_bytes r s = state_bytes r + bytes_held s

-- the bytes of a state's text
abbrev pub text_bytes : {A : Type 0} → State A → ℕ
text_bytes r = length (string_bytes r.text)

-- the most bytes of one text: an IRI, or a token
abbrev pub most_text : Sizes → ℕ
most_text l = max l.iri (4 * l.token)

-- a text of the token has at most so many bytes
abbrev pub TextFits : ℕ → Given → Type 0
TextFits n t = 4 * length (leaf t).text ≤ n

-- the IRI that came with a token, if one did, has at most so many bytes
abbrev pub NameFits : ℕ → Option (List ℕ) → Type 0
NameFits n None = ⊤
NameFits n (Some i) = byte_len i ≤ n

-- each text of a frame has at most so many bytes
abbrev pub FrameFits : {A : Type 0} → ℕ → Frame A → Type 0
FrameFits n f = (f.subject.size ≤ n) × (iri_size f.verb ≤ n)

-- each text has at most so many bytes, of object and text there is one at most, and of datatype and tag; the frames that are kept have none
pub record Fits {A : Type 0} (n : ℕ) (r : State A) : Type 0 where
  pub graph : r.graph.size ≤ n
  pub object : r.object.size + text_bytes r ≤ n
  pub tail : iri_size r.datatype + iri_size r.tag ≤ n
  pub frame : FrameFits n r.frame
  pub frames : AllByRecursion (FrameFits n) r.frames.items
  pub spares : spare_bytes r.spares ≡ 0

-- the most frames below the one in hand after a token, by those before it
abbrev pub frames_most : Kind → ℕ → ℕ
frames_most OpenBracket m = m + 1
frames_most OpenParen m = m + 1
frames_most CloseBracket m = m - 1
frames_most CloseParen m = m - 1
frames_most k m = m

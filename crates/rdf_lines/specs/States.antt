-- What the states of the reader's code mean, and what taking a token does.
use Rattle.std.specs.Prelude.{◌≡◌, ◌≤◌, ◌+◌, ◌*◌, ◌^◌, ℕ, Bool, true, false, List, length, Option, Some, None, option_map, ◌⊎◌}
use Rattle.std.specs.Str.{chars}
use Rattle.std.specs.String.{string_bytes}
use Rattle.rdf_terms.specs.declared.reason.Reason.{Reason}
use Rattle.rdf_terms.specs.declared.reason.Reason.TheVariants.{Memory, Unexpected, RelativeIri, IriTooLong, Sink}
use Rattle.rdf_terms.specs.Terms.{Node, Label, Tail, Lang, Typed, Subject, Iri, Blank, Term, Resource, Literal, Quad, xsd_string}
use Rattle.rdf_terms.specs.Views.{subject_by}
use Rattle.rdf_terms.specs.declared.views.SubjectRef.{SubjectRef}
use Rattle.rdf_tokens.specs.declared.token.Token.{Token as Given}
use Rattle.rdf_terms.specs.declared.kind.Dialect.TheVariants.{Lines}
use Rattle.rdf_tokens.specs.Scans.{token_of, IsToken}
use Rattle.rdf_iri.specs.Texts.{byte_len}
use Rattle.rdf_lines.specs.declared.form.LineForm.{LineForm}
use Rattle.rdf_lines.specs.declared.rules.Rules.{Rules}
use Rattle.rdf_lines.specs.declared.state.ObjectKind.{ObjectKind}
use Rattle.rdf_lines.specs.declared.state.ObjectKind.TheVariants.{Named, Plain, WithTail}
use Rattle.rdf_lines.specs.declared.state.Mode.{Mode as Stand}
use Rattle.rdf_lines.specs.declared.state.Mode.TheVariants as at
use Rattle.rdf_lines.specs.declared.state.State.{State}
use Rattle.rdf_tokens.specs.Leaves.{Leaf, leaf_of}
use Rattle.rdf_lines.specs.Documents.{most_text}
use Rattle.rdf_lines.specs.Slots.{iri_or_string, tail_or_string}
use Rattle.rdf_lines.specs.Machine.{Mode, Begin, AfterSubject, AfterPredicate, AfterString, AfterCarets, AfterObject, AfterGraph, AfterDot, Finished, Answer, accept, goes, gives, is_taken, quad, refuses}

-- the characters of the lexical form
abbrev pub text_in : {A : Type 0} → State A → List ℕ
text_in r = chars (string_bytes r.lexical)

-- the predicate
abbrev pub predicate_of : {A : Type 0} → State A → List ℕ
predicate_of r = iri_or_string r.predicate

-- the term of an object of this kind
abbrev pub object_of : {A : Type 0} → State A → ObjectKind → Term
object_of r Named = Resource r.object
object_of r Plain = Literal (text_in r) (Typed xsd_string)
object_of r WithTail = Literal (text_in r) (tail_or_string r.tail)

-- the mode of the machine that a mode of the reader is, with the texts of a state
abbrev pub mode_at : {A : Type 0} → State A → Stand → Mode
mode_at r at.Begin = Begin
mode_at r at.AfterSubject = AfterSubject r.subject
mode_at r at.AfterPredicate = AfterPredicate r.subject (predicate_of r)
mode_at r at.AfterString = AfterString r.subject (predicate_of r) (text_in r)
mode_at r at.AfterCarets = AfterCarets r.subject (predicate_of r) (text_in r)
mode_at r (at.AfterObject k) = AfterObject r.subject (predicate_of r) (object_of r k)
mode_at r (at.AfterGraph k) = AfterGraph r.subject (predicate_of r) (object_of r k) r.graph
mode_at r at.AfterDot = AfterDot
mode_at r at.Finished = Finished

-- the mode of the machine that a state is
abbrev pub mode_of : {A : Type 0} → State A → Mode
mode_of r = mode_at r r.mode

-- the mode between two lines
abbrev pub is_begin : Mode → Bool
is_begin Begin = true
is_begin m = false

-- a mode that is reached by giving a quad
abbrev pub gave : Mode → Bool
gave AfterDot = true
gave m = false

-- an answer that is no refusal
abbrev pub is_accepted : Answer → Bool
is_accepted (goes m) = true
is_accepted (gives q m) = true
is_accepted (refuses r) = false

-- a token and its leaf
abbrev pub leaf : Given → Leaf
leaf t = leaf_of (token_of t)

-- a token that the line formats have
abbrev pub IsLineToken : Given → Type 0
IsLineToken t = IsToken Lines (token_of t)

-- what a token does by some rules, in a mode
abbrev pub answer : Rules → Mode → Given → Answer
answer rules m t = accept (is_taken rules.iri) rules.form m t.kind (leaf t)

-- the quad of the parts that were read, with an object of this kind
abbrev pub quad_with : {A : Type 0} → State A → ObjectKind → Option SubjectRef → Quad
quad_with r k g = quad r.subject (predicate_of r) (object_of r k) (option_map (subject_by chars) g)

-- why a token is not accepted where nothing is put
abbrev pub Declines : Reason → Answer → Type 0
Declines Unexpected a = a ≡ refuses Unexpected
Declines RelativeIri a = a ≡ refuses RelativeIri
Declines IriTooLong a = a ≡ refuses IriTooLong
Declines Memory a = Unit
Declines r a = ⊥

-- in each form, a token leads from a mode to a mode, with this limit on IRIs, and gives no quad
abbrev pub LeadsTo : ℕ → Mode → Given → Mode → Type 0
LeadsTo limit m t n = (f : LineForm) → answer (record { form = f; iri = limit }) m t ≡ goes n

-- in each form, a token is not accepted in a mode, with this limit on IRIs, for the reason
abbrev pub IsDeclined : ℕ → Mode → Given → Reason → Type 0
IsDeclined limit m t r = (f : LineForm) → Declines r (answer (record { form = f; iri = limit }) m t)

-- a token is accepted, and the quad that it gives is put
abbrev pub Does : {S : Type 0} → (S → Quad → S → Type 0) → Answer → S → Mode → S → Type 0
Does takes (goes m) old mode new = (mode ≡ m) × (new ≡ old)
Does takes (gives q m) old mode new = (mode ≡ m) × takes old q new
Does takes (refuses r) old mode new = ⊥

-- a put of the quad that is given was refused
abbrev pub Leaves : {S : Type 0} → (S → Quad → S → Type 0) → Answer → S → S → Type 0
Leaves leaves (goes m) old new = ⊥
Leaves leaves (gives q m) old new = leaves old q new
Leaves leaves (refuses r) old new = ⊥

-- why a token is not accepted: the machine refuses it, and nothing was put; memory is short, for its text or for the quad; or the device failed
abbrev pub Fails : {S : Type 0} → (S → Quad → S → Type 0) → (S → Bool) → Reason → Answer → S → S → Type 0
Fails leaves failed Unexpected a old new = (a ≡ refuses Unexpected) × (new ≡ old)
Fails leaves failed RelativeIri a old new = (a ≡ refuses RelativeIri) × (new ≡ old)
Fails leaves failed IriTooLong a old new = (a ≡ refuses IriTooLong) × (new ≡ old)
Fails leaves failed Memory a old new = (new ≡ old) ⊎ (Leaves leaves a old new × (failed new ≡ false))
Fails leaves failed Sink a old new = Leaves leaves a old new × (failed new ≡ true)
Fails leaves failed r a old new = ⊥

-- By whatever rules the token comes, it is accepted in this mode, and the quad that it gives is put.
abbrev pub DoesByAnyRules : {S : Type 0} → (S → Quad → S → Type 0) → Mode → Given → S → Mode → S → Type 0
DoesByAnyRules takes m t old mode new = (g : Rules) → Does takes (answer g m t) old mode new

-- By whatever rules the token comes, this is why it is not accepted in this mode.
abbrev pub FailsByAnyRules : {S : Type 0} → (S → Quad → S → Type 0) → (S → Bool) → Reason → Mode → Given → S → S → Type 0
FailsByAnyRules leaves failed r m t old new = (g : Rules) → Fails leaves failed r (answer g m t) old new

-- the bytes of a node's label; a node without one has no text
abbrev pub node_bytes : Node → ℕ
node_bytes (Label x) = byte_len x
node_bytes n = 0

-- the bytes of an IRI or a label
abbrev pub subject_bytes : Subject → ℕ
subject_bytes (Iri i) = byte_len i
subject_bytes (Blank n) = node_bytes n

-- the bytes of a predicate, where one has come
abbrev pub predicate_bytes : Option (List ℕ) → ℕ
predicate_bytes (Some i) = byte_len i
predicate_bytes None = 0

-- the bytes of a datatype or a tag, where one has come
abbrev pub tail_bytes : Option Tail → ℕ
tail_bytes (Some (Lang t)) = byte_len t
tail_bytes (Some (Typed i)) = byte_len i
tail_bytes None = 0

-- the bytes of the lexical form
abbrev pub text_bytes : {A : Type 0} → State A → ℕ
text_bytes r = length (string_bytes r.lexical)

-- the bytes of all texts of a state, whatever its mode
abbrev pub state_bytes : {A : Type 0} → State A → ℕ
state_bytes r =
    subject_bytes r.subject + predicate_bytes r.predicate + subject_bytes r.object + text_bytes r + tail_bytes r.tail + subject_bytes r.graph

-- how many texts belong to a mode at most
abbrev pub texts_in : Stand → ℕ
texts_in at.Begin = 0
texts_in at.AfterSubject = 1
texts_in at.AfterPredicate = 2
texts_in at.AfterString = 3
texts_in at.AfterCarets = 3
texts_in (at.AfterObject k) = 4
texts_in (at.AfterGraph k) = 5
texts_in at.AfterDot = 0
texts_in at.Finished = 0

-- a state holds no more than so many bytes for each text that belongs to a mode
abbrev pub HoldsAt : {A : Type 0} → ℕ → State A → Stand → Type 0
HoldsAt n r m = state_bytes r ≤ texts_in m * n

-- the same in the mode that it has
abbrev pub HoldsAtMost : {A : Type 0} → ℕ → State A → Type 0
HoldsAtMost n r = HoldsAt n r r.mode

-- what is held, in a mode before a token and one after it, stays within such a bound, if an IRI's limit and the token's characters are within it
abbrev pub StaysWithin : {A : Type 0} → ℕ → State A → Stand → Given → State A → Stand → Type 0
StaysWithin iri before m t after next = (n : ℕ) → iri ≤ n → 4 * length (token_of t).text ≤ n → HoldsAt n before m → HoldsAt n after next

-- The limits are in range, and a state keeps them.
pub record KeepsLine {A : Type 0} (limit iri : ℕ) (r : State A) : Type 0 where
  pub limit_in_range : limit ≤ 2 ^ 28
  pub iri_in_range : iri ≤ 2 ^ 28
  pub held : HoldsAtMost (most_text limit iri) r

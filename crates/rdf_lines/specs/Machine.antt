-- The line reader, a token at a time.
use Rattle.std.specs.Prelude.{ℕ, Bool, cond, not, nat_lt, ◌&&◌, List, [], ◌∷◌, drop, Option, Some, None}
use Rattle.rdf_terms.specs.declared.kind.Kind.{Kind}
use Rattle.rdf_terms.specs.declared.kind.Kind.TheVariants.{IriRef, LabelNode, ShortString, LangTag, Carets, Dot, LineEnd, End}
use Rattle.rdf_terms.specs.declared.reason.Reason.{Reason}
use Rattle.rdf_terms.specs.declared.reason.Reason.TheVariants.{Unexpected, RelativeIri, IriTooLong}
use Rattle.rdf_tokens.specs.Tokens.{Token}
use Rattle.rdf_terms.specs.Terms.{Label, Lang, Typed, Subject, Iri, Blank, Term, Resource, Literal, Quad, xsd_string, has_scheme}
use Rattle.rdf_iri.specs.Texts.{byte_len}
use Rattle.rdf_lines.specs.declared.form.LineForm.{LineForm}
use Rattle.rdf_lines.specs.declared.form.LineForm.TheVariants.{NQuads}
use Rattle.rdf_tokens.specs.Leaves.{Leaf, leaf_of, iri_of}
use Rattle.rdf_lines.specs.Lines.{string_of}

-- what has been read of the line
pub data Mode : Type 0 where
  Begin : Mode
  AfterSubject : Subject → Mode
  AfterPredicate : Subject → List ℕ → Mode
  AfterString : Subject → List ℕ → List ℕ → Mode
  AfterCarets : Subject → List ℕ → List ℕ → Mode
  AfterObject : Subject → List ℕ → Term → Mode
  AfterGraph : Subject → List ℕ → Term → Subject → Mode
  AfterDot : Mode
  Finished : Mode

-- what a token does: it is accepted, and may give out a quad, or it is refused
pub data Answer : Type 0 where
  goes : Mode → Answer
  gives : Quad → Mode → Answer
  refuses : Reason → Answer

-- an IRI that is taken has a scheme and at most n bytes
abbrev pub is_taken : ℕ → List ℕ → Bool
is_taken n i = has_scheme i && not (nat_lt n (byte_len i))

-- why another is not
abbrev pub iri_refused : List ℕ → Reason
iri_refused i = cond (has_scheme i) IriTooLong RelativeIri

-- an IRI is accepted where it passes the test
abbrev pub absolute : (List ℕ → Bool) → List ℕ → Mode → Answer
absolute test i m = cond (test i) (goes m) (refuses (iri_refused i))

-- the quad of these parts
abbrev pub quad : Subject → List ℕ → Term → Option Subject → Quad
quad s p o g = record { subject = s; predicate = p; object = o; graph = g }

-- the node of a label
abbrev pub blank : Leaf → Subject
blank l = Blank (Label (drop 2 l.text))

-- the object is whole: a graph label or the dot
abbrev pub object_then : (List ℕ → Bool) → LineForm → Subject → List ℕ → Term → Kind → Leaf → Answer
object_then test f s p o Dot l = gives (quad s p o None) AfterDot
object_then test NQuads s p o IriRef l = absolute test (iri_of l) (AfterGraph s p o (Iri (iri_of l)))
object_then test NQuads s p o LabelNode l = goes (AfterGraph s p o (blank l))
object_then test f s p o k l = refuses Unexpected

-- what a token does in each mode
abbrev pub accept : (List ℕ → Bool) → LineForm → Mode → Kind → Leaf → Answer
accept test f Begin IriRef l = absolute test (iri_of l) (AfterSubject (Iri (iri_of l)))
accept test f Begin LabelNode l = goes (AfterSubject (blank l))
accept test f Begin LineEnd l = goes Begin
accept test f Begin End l = goes Finished
accept test f (AfterSubject s) IriRef l = absolute test (iri_of l) (AfterPredicate s (iri_of l))
accept test f (AfterPredicate s p) IriRef l = absolute test (iri_of l) (AfterObject s p (Resource (Iri (iri_of l))))
accept test f (AfterPredicate s p) LabelNode l = goes (AfterObject s p (Resource (blank l)))
accept test f (AfterPredicate s p) ShortString l = goes (AfterString s p (string_of l))
accept test f (AfterString s p w) LangTag l = goes (AfterObject s p (Literal w (Lang (drop 1 l.text))))
accept test f (AfterString s p w) Carets l = goes (AfterCarets s p w)
accept test f (AfterString s p w) k l = object_then test f s p (Literal w (Typed xsd_string)) k l
accept test f (AfterCarets s p w) IriRef l = absolute test (iri_of l) (AfterObject s p (Literal w (Typed (iri_of l))))
accept test f (AfterObject s p o) k l = object_then test f s p o k l
accept test f (AfterGraph s p o g) Dot l = gives (quad s p o (Some g)) AfterDot
accept test f AfterDot LineEnd l = goes Begin
accept test f AfterDot End l = goes Finished
accept test f m k l = refuses Unexpected

-- some tokens: the mode after them and the quads that were given out, or the first refusal
pub data Run : Type 0 where
  ran : Mode → List Quad → Run
  refused : Reason → Run

-- a quad more, before those of a run
abbrev pub with_quad : Quad → Run → Run
with_quad q (ran m qs) = ran m (q ∷ qs)
with_quad q (refused r) = refused r

-- what a token does, and then the others
abbrev pub go_on : Answer → (Mode → Run) → Run
go_on (goes m) more = more m
go_on (gives q m) more = with_quad q (more m)
go_on (refuses r) more = refused r

-- the run over some tokens, from a mode on
abbrev pub run : (List ℕ → Bool) → LineForm → Mode → List Token → Run
run test f m [] = ran m []
run test f m (t ∷ ts) = go_on (accept test f m t.kind (leaf_of t)) (λ n. run test f n ts)

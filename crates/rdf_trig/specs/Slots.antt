-- What a text that is used again stands for, by its kind.
use Rattle.std.specs.Prelude.{ℕ, List, [], ◌∷◌, Option, Some, None, ⊤}
use Rattle.rdf_terms.specs.Terms.{IsIri, IsLabel, Label, Anon, Blank}
use Rattle.rdf_terms.specs.Terms as term
use Rattle.rdf_trig.specs.declared.slots.SubjectKind.{SubjectKind}
use Rattle.rdf_trig.specs.declared.slots.SubjectKind.TheVariants as kind
use Rattle.rdf_iri.specs.Texts.{byte_len}
use Rattle.rdf_trig.specs.Machine.{Topic, cell, nil}

-- the term of this kind and text
abbrev pub term_at : SubjectKind → List ℕ → Option term.Subject
term_at kind.Iri w = Some (term.Iri w)
term_at kind.Label w = Some (Blank (Label w))
term_at (kind.Anon n) w = Some (Blank (Anon n))
term_at (kind.Cell n) w = cell n
term_at kind.Nil w = Some nil

-- the subject of this kind and text, as the machine has it, with the bytes of the text, whatever its kind is
abbrev pub topic_at : SubjectKind → List ℕ → Topic
topic_at k w = record { term = term_at k w; size = byte_len w }

-- a text, or none where it is empty
abbrev pub text_at : List ℕ → Option (List ℕ)
text_at [] = None
text_at (c ∷ w) = Some (c ∷ w)

-- the text is one of this kind
abbrev pub IsOfKind : SubjectKind → List ℕ → Type 0
IsOfKind kind.Iri w = ∥ IsIri w ∥₁
IsOfKind kind.Label w = ∥ IsLabel w ∥₁
IsOfKind k w = ⊤

-- The states of all families in one.
use Rattle.std.specs.Prelude.{ℕ, Bool, true, false, cond, ◌||◌, ◌==◌, Option, Some, None}
use Rattle.rdf_terms.specs.Classes.{is_digit, is_letter}
use Rattle.rdf_tokens.specs.Sorts.{sort_by}
use Rattle.rdf_terms.specs.declared.kind.Kind.{Kind}
use Rattle.rdf_terms.specs.declared.kind.Kind.TheVariants.{IriRef, LabelNode, LangTag}
use Rattle.rdf_terms.specs.declared.kind.Dialect.{Dialect}
use Rattle.rdf_tokens.specs.declared.states.wide.Wide.{Wide}
use Rattle.rdf_tokens.specs.declared.states.wide.Wide.TheVariants as wide
use Rattle.rdf_tokens.specs.declared.states.family.Family.{Family}
use Rattle.rdf_tokens.specs.declared.states.family.Family.TheVariants as family
use Rattle.rdf_tokens.specs.declared.states.machine.State.{State}
use Rattle.rdf_tokens.specs.declared.states.machine.State.TheVariants.{Start, Iri, Label, Text, Tag, Number, Name, Dead}
use Rattle.rdf_tokens.specs.declared.states.iri.Iri.TheVariants as iri_state
use Rattle.rdf_tokens.specs.declared.states.label.Label.TheVariants as label_state
use Rattle.rdf_tokens.specs.declared.states.text.Text.TheVariants as text_state
use Rattle.rdf_tokens.specs.declared.states.tag.Tag.TheVariants as tag_state
use Rattle.rdf_tokens.specs.declared.states.number.Number.TheVariants as number_state
use Rattle.rdf_tokens.specs.declared.states.name.Name.TheVariants as name_state
use Rattle.rdf_tokens.specs.Iri as iri
use Rattle.rdf_tokens.specs.Label as label
use Rattle.rdf_tokens.specs.Text as text
use Rattle.rdf_tokens.specs.Tag as tag
use Rattle.rdf_tokens.specs.Number as number
use Rattle.rdf_tokens.specs.Name as name

-- the family of tokens that an ASCII character can begin: IRIREF, label, string, language tag, number or prefixed name
abbrev pub ascii : ℕ → Family
ascii c = cond (c == 60) family.Iri (cond (c == 95) family.Label (cond (c == 34 || c == 39) family.Text (cond (c == 64) family.Tag
    (cond (c == 43 || c == 45 || c == 46 || is_digit c) family.Number (cond (c == 58 || is_letter c) family.Name family.Other)))))

-- from U+0080 on only PN_CHARS_BASE can begin a token, and that is a prefixed name
abbrev pub high : Wide → Family
high wide.Letter = family.Name
high v = family.Other

-- the state of the family after its first character
abbrev pub begin : Dialect → Family → ℕ → State
begin d family.Iri c = Iri (iri.step iri_state.Start c)
begin d family.Label c = Label (label.step d label_state.Start c)
begin d family.Text c = Text (text.step d text_state.Start c)
begin d family.Tag c = Tag (tag.step tag_state.Start c)
begin d family.Number c = Number (number.step d number_state.Start c)
begin d family.Name c = Name (name.step d name_state.Start c)
begin d family.Other c = Dead

-- where one more character leads in a token: its family is settled by the first
abbrev pub step : Dialect → State → ℕ → State
step d Start c = begin d (sort_by ascii high c) c
step d (Iri s) c = Iri (iri.step s c)
step d (Label s) c = Label (label.step d s c)
step d (Text s) c = Text (text.step d s c)
step d (Tag s) c = Tag (tag.step s c)
step d (Number s) c = Number (number.step d s c)
step d (Name s) c = Name (name.step d s c)
step d Dead c = Dead

-- the kind of the token that has come, or none where it is not complete
abbrev pub kind_at : State → Option Kind
kind_at Start = None
kind_at (Iri s) = cond (iri.accepts s) (Some IriRef) None
kind_at (Label s) = cond (label.accepts s) (Some LabelNode) None
kind_at (Text s) = text.kind_at s
kind_at (Tag s) = cond (tag.accepts s) (Some LangTag) None
kind_at (Number s) = number.kind_at s
kind_at (Name s) = name.kind_at s
kind_at Dead = None

-- some longer token of the family begins so
abbrev pub goes_on : Dialect → State → Bool
goes_on d Start = true
goes_on d (Iri s) = iri.goes_on s
goes_on d (Label s) = label.goes_on s
goes_on d (Text s) = text.goes_on d s
goes_on d (Tag s) = tag.goes_on s
goes_on d (Number s) = number.goes_on d s
goes_on d (Name s) = name.goes_on d s
goes_on d Dead = false

-- What a run asks of its reader about an unexpected token.
use Rattle.std.specs.Prelude.{◌≡◌, ℕ, Bool, List, Option, Result, Ok, Err}
use Rattle.rdf_terms.specs.declared.kind.Kind.{Kind}
use Rattle.rdf_terms.specs.declared.reason.Reason.{Reason}
use Rattle.rdf_terms.specs.declared.reason.Reason.TheVariants.{Unexpected}
use Rattle.rdf_terms.specs.Terms.{Quad}
use Rattle.rdf_tokens.specs.Tokens.{Place, Token}
use Rattle.rdf_tokens.specs.Scans.{place_of}
use Rattle.rdf_tokens.specs.Grammars.{RefusedIn, reading_of}
use Rattle.rdf_driver.specs.declared.summary.Summary.{Summary}
use Rattle.rdf_driver.specs.Kinds.{has}
use Rattle.rdf_driver.specs.Readers.{Driven, StandsAt}
use Rattle.rdf_driver.specs.Words.{KnowsNext, Words, in_words}
use Rattle.rdf_stream.specs.declared.expected.Details.{Details}
use Rattle.rdf_stream.specs.declared.fault.StreamFault.{StreamFault}
use Rattle.rdf_stream.specs.declared.fault.StreamFault.TheVariants.{Refused}
use Rattle.rdf_stream.specs.Devices.{Reading}
use Rattle.rdf_stream.specs.Jobs.{JobRead}
use Rattle.rdf_stream.specs.Languages.{language_of}
use Rattle.rdf_stream.specs.Expected.{Trees, trees_of, NoDetails, ExpectsFor}

-- what is handed out beside an outcome
abbrev pub Expects : Result Summary StreamFault → JobRead → Option (List ℕ) → Reading → Details → Type 0
Expects (Ok summary) job known left details = NoDetails details
Expects (Err fault) job known left details = ExpectsFor fault (language_of job) (trees_of job) known left details

-- The token at the place is unexpected, and the reader has accepted the tokens before it, and no more, and has found its kind.
pub record StandsBefore {G X : Type 0} (w : Words G X Quad) (x : X) (limit : ℕ) (bytes : List ℕ) (is_end : Bool) (at : Place) (now : Driven G) : Type 0 where
  pub ahead : List Token
  pub refused : RefusedIn (in_words w x limit) (reading_of (in_words w x limit) bytes is_end) Unexpected at ahead
  pub quads : List Quad
  pub reached : w.reached now.grammar x ahead quads
  pub finds : StandsAt (reading_of (in_words w x limit) bytes is_end) ahead at now.found

-- where the bytes are refused for an unexpected token the reader stands before it
abbrev pub StandsFor : {G X : Type 0} → Words G X Quad → X → ℕ → StreamFault → List ℕ → Bool → Driven G → Type 0
StandsFor w x limit (Refused f) bytes is_end now = f.reason ≡ Unexpected → StandsBefore w x limit bytes is_end (place_of f) now
StandsFor w x limit fault bytes is_end now = Unit

-- so it is, whatever a run began with
abbrev pub Stands : {G X : Type 0} → Words G X Quad → (X → Type 0) → ℕ → StreamFault → List ℕ → Bool → Driven G → Type 0
Stands {G} {X} w begun limit fault bytes is_end now = (x : X) → begun x → StandsFor w x limit fault bytes is_end now

-- what a reader, as it stands, says of a fault
abbrev pub AsksAt : {G X : Type 0} → Words G X Quad → (X → Trees) → Driven G → Reason → Details → Type 0
AsksAt w trees now Unexpected details =
    ((kind : Kind) → KnowsNext w trees now.grammar kind (has details.expected kind)) × (details.found ≡ now.found)
AsksAt w trees now reason details = NoDetails details

abbrev pub AsksFor : {G X : Type 0} → Words G X Quad → (X → Trees) → Driven G → StreamFault → Details → Type 0
AsksFor w trees now (Refused f) details = AsksAt w trees now f.reason details
AsksFor w trees now fault details = NoDetails details

abbrev pub Asks : {G X : Type 0} → Words G X Quad → (X → Trees) → Driven G → Result Summary StreamFault → Details → Type 0
Asks w trees now (Ok summary) details = NoDetails details
Asks w trees now (Err fault) details = AsksFor w trees now fault details

-- Whatever a run began with, this is what it hands out.
abbrev pub RunExpects : {G X : Type 0} → Words G X Quad → (X → Trees) → (X → Type 0) → ℕ → Result Summary StreamFault → Option (List ℕ) → Reading → Details → Type 0
RunExpects {G} {X} w trees begun limit (Ok summary) known left details = NoDetails details
RunExpects {G} {X} w trees begun limit (Err fault) known left details =
    (x : X) → begun x → ExpectsFor fault (in_words w x limit) (trees x) known left details

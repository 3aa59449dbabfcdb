-- What is known of a token that was unexpected: its kind, and which kinds of tokens could have stood in its place.
use Rattle.std.specs.Prelude.{◌≡◌, ℕ, Bool, true, false, List, Option, None, IfSome}
use Rattle.rdf_terms.specs.declared.kind.Kind.{Kind}
use Rattle.rdf_terms.specs.declared.reason.Reason.{Reason}
use Rattle.rdf_terms.specs.declared.reason.Reason.TheVariants.{Unexpected}
use Rattle.rdf_tokens.specs.Tokens.{Place, Token}
use Rattle.rdf_tokens.specs.Scans.{place_of}
use Rattle.rdf_tokens.specs.Grammars.{Language, Marked, RefusedIn, reading_of}
use Rattle.rdf_driver.specs.Kinds.{has}
use Rattle.rdf_driver.specs.Readers.{StandsAt}
use Rattle.rdf_driver.specs.Words.{CanFollow}
use Rattle.rdf_lines.specs.Lines as lines
use Rattle.rdf_trig.specs.Documents as documents
use Rattle.rdf_stream.specs.declared.expected.Details.{Details}
use Rattle.rdf_stream.specs.declared.fault.StreamFault.{StreamFault}
use Rattle.rdf_stream.specs.declared.fault.StreamFault.TheVariants.{Refused}
use Rattle.rdf_stream.specs.declared.form.Kind.{Kind as FormKind}
use Rattle.rdf_stream.specs.declared.form.Kind.TheVariants.{Line, Tree}
use Rattle.rdf_stream.specs.Devices.{HasGiven, Reading}
use Rattle.rdf_stream.specs.Jobs.{JobRead}
use Rattle.rdf_stream.specs.Kinds.{kind_of}
use Rattle.rdf_stream.specs.Languages.{tree_job}

-- The trees of a format's productions, each with its quads: its documents, but for limits, and for names and references that stand for nothing.
abbrev pub Trees : Type 1
Trees = List Token → List Marked → Type 0

abbrev pub trees_by : FormKind → JobRead → Trees
trees_by (Line form) job = lines.trees form
trees_by (Tree form) job = documents.trees form (tree_job form job).start

-- those of the format that a job reads
abbrev pub trees_of : JobRead → Trees
trees_of job = trees_by (kind_of job.form) job

-- no kind is in the set, and none was found
pub record NoDetails (details : Details) : Type 0 where
  pub expected : (kind : Kind) → has details.expected kind ≡ false
  pub found : details.found ≡ None

-- The token at the place is unexpected after the tokens before it, and its kind was found. A kind is in the set exactly if some tree begins with those
-- tokens and then a token of the kind, whatever it spells.
pub record CouldStand (language : Language) (trees : Trees) (bytes : List ℕ) (is_end : Bool) (at : Place) (details : Details) : Type 0 where
  pub ahead : List Token
  pub refused : RefusedIn language (reading_of language bytes is_end) Unexpected at ahead
  pub exact : (kind : Kind) → CanFollow trees ahead kind (has details.expected kind)
  pub finds : StandsAt (reading_of language bytes is_end) ahead at details.found

-- What is known where the bytes of a source are refused for a reason: of an unexpected token its kind and the kinds that could have stood there, by all
-- bytes and by those that the source gave. For another reason nothing is.
abbrev pub ExpectsAt : Reason → Language → Trees → Option (List ℕ) → Reading → Place → Details → Type 0
ExpectsAt Unexpected language trees known left at details =
    IfSome known (λ bytes. CouldStand language trees bytes true at details)
    × (given : HasGiven known left) × CouldStand language trees given.bytes left.has_ended at details
ExpectsAt reason language trees known left at details = NoDetails details

-- the same of a fault: nothing is known but where the document is refused
abbrev pub ExpectsFor : StreamFault → Language → Trees → Option (List ℕ) → Reading → Details → Type 0
ExpectsFor (Refused f) language trees known left details = ExpectsAt f.reason language trees known left (place_of f) details
ExpectsFor fault language trees known left details = NoDetails details

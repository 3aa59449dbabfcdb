-- What the steps from words to a task find.
use Rattle.std.specs.Prelude.{◌≡◌, ◌⊎◌, ◌∷◌, ◌++◌, ◌^◌, ℕ, List, Option, Some, codes}
use Rattle.std.specs.String.{string_bytes}
use Rattle.clap.specs.Words.{IsUnsignedIn, Row, Text, first_of}
use Rattle.clap.specs.declared.error.Error.{Error}
use Rattle.clap.specs.declared.error.kind.ErrorKind.{ErrorKind}
use Rattle.clap.specs.declared.error.kind.ErrorKind.TheVariants.{OutOfMemory}
use Rattle.rdf_stream.specs.declared.form.Form.{Form}
use Rattle.rdf_command.specs.declared.task.Action.{Action}
use Rattle.rdf_command.specs.declared.task.WordsFault.{WordsFault}
use Rattle.rdf_command.specs.declared.task.WordsFault.TheVariants.{Usage, BadBase, BadNodePrefix, BadGraph, BadSkip, NoFormat, Memory}
use Rattle.rdf_command.specs.Words.{form_name, by_name, action_name, Entered, IsBase, IsWord, CanSkip, HasBadBase, HasBadNodePrefix, HasBadGraph, HasBadSkip, IsFormless, HasFormless}

-- there is a text for the option, and it is a number in the range
abbrev pub HasNumber : Text → ℕ → ℕ → List Row → Type 0
HasNumber id least most rows = (text : Text) × (first_of id rows ≡ Some text) × IsUnsignedIn least most text

-- there is a number in its range for each limit
pub record HasLimits (rows : List Row) : Type 0 where
  pub token : HasNumber (codes "token") 1 (2 ^ 28) rows
  pub depth : HasNumber (codes "depth") 0 (2 ^ 20) rows
  pub bindings : HasNumber (codes "bindings") 0 (2 ^ 24) rows
  pub iri : HasNumber (codes "iri") 1 (2 ^ 28) rows

-- a value that --format takes
abbrev pub IsFormatWord : Text → Type 0
IsFormatWord word = ((f : Form) × (form_name f ≡ word)) ⊎ (word ≡ by_name)

-- what holds of each parse that finds no fault
pub record IsEntered (p : Entered) : Type 0 where
  pub action : (a : Action) × (action_name a ≡ p.0)
  pub format : (word : Text) × (first_of (codes "format") p.1 ≡ Some word) × IsFormatWord word
  pub limits : HasLimits p.1

-- why a document of this name has no format
abbrev pub NoFormOf : Text → Text → WordsFault → Type 0
NoFormOf word name (NoFormat at) = (string_bytes at ≡ name) × IsFormless word name
NoFormOf word name Memory = Unit
NoFormOf word name fault = ⊥

-- why one of the documents of these names has no format
abbrev pub NoFormsOf : Text → List Text → WordsFault → Type 0
NoFormsOf word names (NoFormat at) = IsFormless word (string_bytes at) × ((front rest : List Text) × (names ≡ front ++ string_bytes at ∷ rest))
NoFormsOf word names Memory = Unit
NoFormsOf word names fault = ⊥

-- why a text gives no base
abbrev pub NoBaseOf : ℕ → Option Text → WordsFault → Type 0
NoBaseOf most base BadBase = (text : Text) × (base ≡ Some text) × (IsBase most text → ⊥)
NoBaseOf most base Memory = Unit
NoBaseOf most base fault = ⊥

-- why a text gives no word
abbrev pub NoWordOf : Option Text → WordsFault → Type 0
NoWordOf word BadNodePrefix = (text : Text) × (word ≡ Some text) × (IsWord text → ⊥)
NoWordOf word Memory = Unit
NoWordOf word fault = ⊥

-- why a text gives no graph
abbrev pub NoGraphOf : ℕ → Option Text → WordsFault → Type 0
NoGraphOf most graph BadGraph = (text : Text) × (graph ≡ Some text) × (IsBase most text → ⊥)
NoGraphOf most graph Memory = Unit
NoGraphOf most graph fault = ⊥

-- why a file for bad lines is none, where the document has this format and these are the names of those after it
abbrev pub NoSkipOf : Form → List Text → Option Text → WordsFault → Type 0
NoSkipOf f further skip BadSkip = ((text : Text) × (skip ≡ Some text)) × (CanSkip f further → ⊥)
NoSkipOf f further skip Memory = Unit
NoSkipOf f further skip fault = ⊥

-- why matches give no task
abbrev pub NoTaskBy : Entered → WordsFault → Type 0
NoTaskBy p (Usage e) = ⊥
NoTaskBy p BadBase = HasBadBase p
NoTaskBy p BadNodePrefix = HasBadNodePrefix p
NoTaskBy p BadGraph = HasBadGraph p
NoTaskBy p BadSkip = HasBadSkip p
NoTaskBy p (NoFormat name) = HasFormless p (string_bytes name)
NoTaskBy p Memory = Unit

-- the fault of an error of clap, by its kind
abbrev pub fault_by : ErrorKind → Error → WordsFault
fault_by OutOfMemory e = Memory
fault_by kind e = Usage e

-- The task that the words of the command line ask for.
use Rattle.std.specs.Prelude.{◌≡◌, ◌≢◌, ◌⊎◌, ◌∷◌, ◌++◌, ◌≤◌, ℕ, Bool, false, List, [], Option, Some, None, bytes_eq, codes, cond, drop, length, map, option_map, unwrap_or, IfSome}
use Rattle.std.specs.Borrow.{Bor}
use Rattle.std.specs.Str.{chars}
use Rattle.std.specs.Str.Parse.{digits_value, without_leading_plus}
use Rattle.std.specs.String.{string_bytes}
use Rattle.clap.specs.Words.{App, IsAmong, Row, Text, all_of, fault_of, first_of, kind_of, subcommand_of}
use Rattle.clap.specs.Walk.{texts}
use Rattle.clap.specs.declared.builder.value_parser.ValueParser.{ValueParser}
use Rattle.clap.specs.declared.builder.value_parser.ValueParser.TheVariants.{Names}
use Rattle.clap.specs.declared.error.kind.ErrorKind.{ErrorKind}
use Rattle.clap.specs.declared.error.kind.ErrorKind.TheVariants.{OutOfMemory}
use Rattle.rdf_terms.specs.Terms.{IsIri}
use Rattle.rdf_iri.specs.Limits.{Sizes}
use Rattle.rdf_lines.specs.NodePrefixes.{IsNodePrefix}
use Rattle.rdf_lines.specs.declared.form.Escapes.{Escapes}
use Rattle.rdf_lines.specs.declared.form.Escapes.TheVariants.{Plain, Ascii}
use Rattle.rdf_stream.specs.declared.form.Form.{Form}
use Rattle.rdf_stream.specs.declared.form.Form.TheVariants.{NTriples, NQuads, Turtle, TriG}
use Rattle.rdf_stream.specs.Skips.{HasLines}
use Rattle.rdf_command.specs.declared.task.Action.{Action}
use Rattle.rdf_command.specs.declared.task.Action.TheVariants.{Check, Show, Convert}
use Rattle.rdf_command.specs.declared.task.Document.{Document}
use Rattle.rdf_command.specs.declared.task.Task.{Task}
use Rattle.rdf_command.specs.declared.task.WordsFault.{WordsFault}
use Rattle.rdf_command.specs.declared.task.WordsFault.TheVariants.{Usage, BadBase, BadNodePrefix, BadGraph, BadSkip, NoFormat, Memory}

-- ---- names

-- the value of --format that names a format
abbrev pub form_name : Form → Text
form_name NTriples = codes "nt"
form_name NQuads = codes "nq"
form_name Turtle = codes "ttl"
form_name TriG = codes "trig"

-- the formats that can be read
abbrev pub forms : List Form
forms = NTriples ∷ NQuads ∷ Turtle ∷ TriG ∷ []

-- the value of --format that asks for the format that a file's name ends in
abbrev pub by_name : Text
by_name = codes "name"

-- the values that --format takes, in the order in which help lists them
abbrev pub format_names : List Text
format_names = map form_name forms ++ by_name ∷ []

-- the subcommand that asks for an action
abbrev pub action_name : Action → Text
action_name Check = codes "check"
action_name Show = codes "show"
action_name Convert = codes "convert"

-- ---- what a parse gives

-- a subcommand's name and matches
abbrev pub Entered : Type 0
Entered = Text × List Row

-- the number that a text in decimal digits reads as
abbrev pub number_in : Text → ℕ
number_in text = digits_value 10 (without_leading_plus text)

-- the number of an option
abbrev pub number_of : Text → List Row → Option ℕ
number_of id rows = option_map number_in (first_of id rows)

-- ---- the task

-- the text is an IRI of at most so many bytes
pub record IsBase (most : ℕ) (text : Text) : Type 0 where
  pub iri : IsIri (chars text)
  pub within : length text ≤ most

-- the text is a word that may stand in front of the names of nodes, and not the empty one
pub record IsWord (text : Text) : Type 0 where
  pub word : IsNodePrefix (chars text)
  pub some : text ≢ []

-- the name ends in a dot and the name of the format
abbrev pub EndsIn : Text → Form → Type 0
EndsIn name f = (front : Text) × (name ≡ front ++ codes "." ++ form_name f)

-- the format of a document of this name, by the value of --format: the one that it names, or the one that the document's name ends in
abbrev pub IsFormBy : Text → Text → Form → Type 0
IsFormBy word name f = (form_name f ≡ word) ⊎ ((word ≡ by_name) × EndsIn name f)

-- the value of --base that asks for each document's own address
abbrev pub by_address : Text
by_address = codes "file"

-- whether a value of --base asks for that
abbrev pub is_addressed : Option Text → Bool
is_addressed None = false
is_addressed (Some text) = bytes_eq text by_address

-- the base that a value of --base names, the same for all documents; none where it asks for their addresses
abbrev pub base_by : Option Text → Option Text
base_by None = None
base_by (Some text) = cond (bytes_eq text by_address) None (Some text)

-- the limits are the numbers of their options
pub record HasSizes (rows : List Row) (sizes : Sizes) : Type 0 where
  pub token : number_of (codes "token") rows ≡ Some sizes.token
  pub depth : number_of (codes "depth") rows ≡ Some sizes.depth
  pub bindings : number_of (codes "bindings") rows ≡ Some sizes.bindings
  pub iri : number_of (codes "iri") rows ≡ Some sizes.iri

-- whether a flag is given, by its text; a subcommand that does not take it has none
abbrev pub is_given : Option Text → Bool
is_given None = false
is_given (Some text) = bytes_eq text (codes "true")

-- the lines are in ASCII where that is asked for
abbrev pub escapes_by : Bool → Escapes
escapes_by ascii = cond ascii Ascii Plain

-- the file that a word names; none where there is no word, or where it is a hyphen, which stands for standard input, or for standard output
abbrev pub file_by : Option Text → Option Text
file_by None = None
file_by (Some text) = cond (bytes_eq text (codes "-")) None (Some text)

-- the name of a document by the word for it: the word, or a hyphen where there is none
abbrev pub name_by : Option Text → Text
name_by word = unwrap_or word (codes "-")

-- the name of the first document of a task: the name of its file, or a hyphen where it is standard input
abbrev pub name_of : Task → Text
name_of t = name_by (option_map string_bytes t.file)

-- the words for the documents of a subcommand after the first; `check` alone takes more than one
abbrev pub further_by : Text → Option (List Text) → List Text
further_by name words = cond (bytes_eq name (codes "check")) (drop 1 (unwrap_or words [])) []

-- a document that is checked after the first: its format, and the word for it
abbrev pub further_of : List Document → List (Form × Text)
further_of = map (λ d. (d.form, string_bytes d.name))

-- each word is the name of the document at its place, whose format is that of its name by the value of --format
abbrev pub AreDocuments : Text → List Text → List (Form × Text) → Type 0
AreDocuments word [] [] = Unit {0}
AreDocuments word (name ∷ names) (d ∷ ds) = (IsFormBy word name d.0 × (d.1 ≡ name)) × AreDocuments word names ds
AreDocuments word names ds = ⊥

-- the formats are those of the documents by the value of --format
pub record HasForms (p : Entered) (t : Task) : Type 0 where
  pub word : Text
  pub given : first_of (codes "format") p.1 ≡ Some word
  pub form : IsFormBy word (name_by (first_of (codes "file") p.1)) t.form
  pub more : AreDocuments word (further_by p.0 (all_of (codes "file") p.1)) (further_of t.more.items)

-- Bad lines can be put aside of a document in this format, where these are the names of the documents after it: it is read line by line, and the only
-- one.
abbrev pub CanSkip : Form → List Text → Type 0
CanSkip f further = HasLines f × (further ≡ [])

-- where the task puts bad lines aside, its document is read line by line
abbrev pub SkipFits : Task → Type 0
SkipFits t = IfSome t.skip (λ _. HasLines t.form)

-- each field of the task is what the subcommand's name and matches give
pub record IsTaskBy (p : Entered) (t : Task) : Type 0 where
  pub action : action_name t.action ≡ p.0
  pub forms : HasForms p t
  pub base : t.base ≡ option_map chars (base_by (first_of (codes "base") p.1))
  pub good_base : IfSome (base_by (first_of (codes "base") p.1)) (IsBase t.limits.iri)
  pub addressed : t.addressed ≡ is_addressed (first_of (codes "base") p.1)
  pub limits : HasSizes p.1 t.limits
  pub explain : t.explain ≡ is_given (first_of (codes "explain") p.1)
  pub escapes : t.escapes ≡ escapes_by (is_given (first_of (codes "ascii") p.1))
  pub node_prefix : t.node_prefix ≡ option_map chars (first_of (codes "node-prefix") p.1)
  pub good_node_prefix : IfSome (first_of (codes "node-prefix") p.1) IsWord
  pub graph : t.graph ≡ option_map chars (first_of (codes "graph") p.1)
  pub good_graph : IfSome (first_of (codes "graph") p.1) (IsBase t.limits.iri)
  pub prefixes : option_map string_bytes t.prefixes ≡ first_of (codes "prefixes") p.1
  pub file : option_map string_bytes t.file ≡ file_by (first_of (codes "file") p.1)
  pub output : option_map string_bytes t.output ≡ file_by (first_of (codes "output") p.1)
  pub skip : option_map string_bytes t.skip ≡ first_of (codes "skip") p.1
  pub good_skip : IfSome (first_of (codes "skip") p.1) (λ _. CanSkip t.form (further_by p.0 (all_of (codes "file") p.1)))

-- the base among the matches is no IRI, or too long
abbrev pub HasBadBase : Entered → Type 0
HasBadBase p = (text : Text) × (most : ℕ) × (base_by (first_of (codes "base") p.1) ≡ Some text)
    × (number_of (codes "iri") p.1 ≡ Some most) × (IsBase most text → ⊥)

-- the text of --node-prefix among the matches is no such word
abbrev pub HasBadNodePrefix : Entered → Type 0
HasBadNodePrefix p = (text : Text) × (first_of (codes "node-prefix") p.1 ≡ Some text) × (IsWord text → ⊥)

-- the graph among the matches is no IRI, or too long
abbrev pub HasBadGraph : Entered → Type 0
HasBadGraph p = (text : Text) × (most : ℕ) × (first_of (codes "graph") p.1 ≡ Some text)
    × (number_of (codes "iri") p.1 ≡ Some most) × (IsBase most text → ⊥)

-- bad lines are to be put aside by the matches, but the document's format is not read line by line, or there are several
pub record HasBadSkip (p : Entered) : Type 0 where
  pub given : (text : Text) × (first_of (codes "skip") p.1 ≡ Some text)
  pub word : Text
  pub format : first_of (codes "format") p.1 ≡ Some word
  pub form : Form
  pub is_form : IsFormBy word (name_by (first_of (codes "file") p.1)) form
  pub bad : CanSkip form (further_by p.0 (all_of (codes "file") p.1)) → ⊥

-- a document of this name has no format by the value of --format: it is to be the one that the name ends in, and it ends in none
abbrev pub IsFormless : Text → Text → Type 0
IsFormless word name = (word ≡ by_name) × ((f : Form) → EndsIn name f → ⊥)

-- among the matches is a document of this name that has no format by the value of --format among them
pub record HasFormless (p : Entered) (name : Text) : Type 0 where
  pub word : Text
  pub given : first_of (codes "format") p.1 ≡ Some word
  pub formless : IsFormless word name
  pub named : (name ≡ name_by (first_of (codes "file") p.1))
      ⊎ ((front rest : List Text) × (further_by p.0 (all_of (codes "file") p.1) ≡ front ++ name ∷ rest))

-- the parser takes these words for formats and no others
abbrev pub TakesFormats : ValueParser → Type 0
TakesFormats parser = (names : Bor (List (Bor Text))) × (parser ≡ Names names) × (texts names.now ≡ format_names)

-- by clap's definition the command line takes the words, and this holds of what they give
pub record Gives (a : App) (words : List Text) (P : Entered → Type 0) : Type 0 where
  pub entered : Entered
  pub taken : fault_of a words ≡ []
  pub matches : subcommand_of a words ≡ Some entered
  pub holds : P entered

-- the command line takes the words, and they ask for this task
abbrev pub GivesTask : App → List Text → Task → Type 0
GivesTask a words t = Gives a words (λ p. IsTaskBy p t)

-- Why the words give no task: clap's definition refuses them, or asks for help, with a kind that it names; or the base, the word for names or the
-- graph is bad, a document has no format, or bad lines are to be put aside where that can't be done.
abbrev pub GivesNone : App → List Text → WordsFault → Type 0
GivesNone a words (Usage e) = (kind_of e ≢ OutOfMemory) × IsAmong (kind_of e) (fault_of a words)
GivesNone a words BadBase = Gives a words HasBadBase
GivesNone a words BadNodePrefix = Gives a words HasBadNodePrefix
GivesNone a words BadGraph = Gives a words HasBadGraph
GivesNone a words BadSkip = Gives a words HasBadSkip
GivesNone a words (NoFormat name) = Gives a words (λ p. HasFormless p (string_bytes name))
GivesNone a words Memory = Unit

-- a fault of clap's of this kind, or want of memory
abbrev pub IsUsageOf : ErrorKind → WordsFault → Type 0
IsUsageOf kind (Usage e) = kind_of e ≡ kind
IsUsageOf kind Memory = Unit
IsUsageOf kind fault = ⊥

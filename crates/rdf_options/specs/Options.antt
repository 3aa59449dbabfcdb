-- The program's command line, as `clap` defines one: its subcommands, their options, ranges and defaults.
use Rattle.std.specs.Prelude.{◌∷◌, ℕ, true, [], Some, codes}
use Rattle.clap.specs.Words.{App, Rule, Text, new_app, new_rule, with_rule, with_subcommand}
use Rattle.clap.specs.Simple.{on_top}
use Rattle.clap.specs.declared.builder.action.ArgAction.TheVariants.{Append, Set, SetTrue}
use Rattle.clap.specs.declared.builder.value_parser.ValueParser.{ValueParser}
use Rattle.clap.specs.declared.builder.value_parser.ValueParser.TheVariants.{Unsigned}

-- an option with one value, which help calls by one name
abbrev pub option_rule : Text → ValueParser → Rule
option_rule id parser = record (new_rule id) {
  long = Some id;
  action = Some Set;
  value_names = 1;
  parser = Some parser;
}

-- the format, or the word that asks for the one that a file's name ends in; it is TriG where nothing is said
abbrev pub format_rule : ValueParser → Rule
format_rule names = record (option_rule (codes "format") names) { defaults = codes "trig" ∷ [] }

-- the base IRI of relative references; there is none unless it is given
abbrev pub base_rule : Rule
base_rule = record (new_rule (codes "base")) { long = Some (codes "base"); action = Some Set; value_names = 1 }

-- a number in a range, with a default
abbrev pub limit_rule : Text → ℕ → ℕ → Text → Rule
limit_rule id least most default = record (option_rule id (Unsigned least most)) { defaults = default ∷ [] }

-- the most characters of a token: up to 2^28, and 2^24 unless given
abbrev pub token_rule : Rule
token_rule = limit_rule (codes "token") 1 268435456 (codes "16777216")

-- the most brackets and parentheses open at one time: up to 2^20, and 1024 unless given
abbrev pub depth_rule : Rule
depth_rule = limit_rule (codes "depth") 0 1048576 (codes "1024")

-- the most prefixes bound at one time: up to 2^24, and 2^16 unless given
abbrev pub bindings_rule : Rule
bindings_rule = limit_rule (codes "bindings") 0 16777216 (codes "65536")

-- the most bytes of an IRI: up to 2^28, and 2^20 unless given
abbrev pub iri_rule : Rule
iri_rule = limit_rule (codes "iri") 1 268435456 (codes "1048576")

-- the flag that asks for a line that explains a refusal
abbrev pub explain_rule : Rule
explain_rule = record (new_rule (codes "explain")) { long = Some (codes "explain"); action = Some SetTrue }

-- the file to read, given without an option; standard input is read where there is none
abbrev pub file_rule : Rule
file_rule = record (new_rule (codes "file")) { action = Some Set; value_names = 1 }

-- the files to read, each given by a word of its own; standard input is read where there is none
abbrev pub files_rule : Rule
files_rule = record (new_rule (codes "file")) { action = Some Append; value_names = 1 }

-- the file of bindings
abbrev pub prefixes_rule : Rule
prefixes_rule = record (new_rule (codes "prefixes")) { long = Some (codes "prefixes"); action = Some Set; value_names = 1 }

-- a subcommand with the options that all have, where the parser takes the words for formats, and what it reads
abbrev pub action_app : ValueParser → Rule → Text → App
action_app names reads action =
    with_rule (with_rule (with_rule (with_rule (with_rule (with_rule (with_rule (with_rule (new_app action)
    (format_rule names)) base_rule) token_rule) depth_rule) bindings_rule) iri_rule) explain_rule) reads

-- a subcommand that looks at prefixes
abbrev pub with_prefixes : App → App
with_prefixes a = with_rule a prefixes_rule

-- the flag that asks for lines in ASCII
abbrev pub ascii_rule : Rule
ascii_rule = record (new_rule (codes "ascii")) { long = Some (codes "ascii"); action = Some SetTrue }

-- a subcommand that writes lines in ASCII too
abbrev pub with_ascii : App → App
with_ascii a = with_rule a ascii_rule

-- the word in front of the names of nodes; there is none unless it is given
abbrev pub node_prefix_rule : Rule
node_prefix_rule = record (new_rule (codes "node-prefix")) { long = Some (codes "node-prefix"); action = Some Set; value_names = 1 }

-- a subcommand that writes names of nodes
abbrev pub with_node_prefix : App → App
with_node_prefix a = with_rule a node_prefix_rule

-- the graph of quads of the default graph; there is none unless it is given
abbrev pub graph_rule : Rule
graph_rule = record (new_rule (codes "graph")) { long = Some (codes "graph"); action = Some Set; value_names = 1 }

-- a subcommand that writes quads in a graph too
abbrev pub with_graph : App → App
with_graph a = with_rule a graph_rule

-- the file that the lines are written to; they go to standard output unless it is given
abbrev pub output_rule : Rule
output_rule = record (new_rule (codes "output")) { short = Some 111; long = Some (codes "output"); action = Some Set; value_names = 1 }

-- a subcommand that can write a file
abbrev pub with_output : App → App
with_output a = with_rule a output_rule

-- the file that bad lines are put into; they are refused unless it is given
abbrev pub skip_rule : Rule
skip_rule = record (new_rule (codes "skip")) { long = Some (codes "skip"); action = Some Set; value_names = 1 }

-- a subcommand that can go on after bad lines
abbrev pub with_skip : App → App
with_skip a = with_rule a skip_rule

-- the subcommand that counts what documents bring
abbrev pub check_app : ValueParser → App
check_app names = with_skip (with_prefixes (action_app names files_rule (codes "check")))

-- the subcommand that shows tokens
abbrev pub show_app : ValueParser → App
show_app names = action_app names file_rule (codes "show")

-- the subcommand that writes quads
abbrev pub convert_app : ValueParser → App
convert_app names = with_skip (with_output (with_graph (with_node_prefix (with_ascii (with_prefixes (action_app names file_rule (codes "convert")))))))

-- the program's command line
abbrev pub rdfconv : ValueParser → App
rdfconv names = with_subcommand (with_subcommand (with_subcommand
    (on_top (λ s. record s { subcommand_required = true; has_version = true }) (new_app (codes "rdfconv")))
    (check_app names).top)
    (show_app names).top)
    (convert_app names).top

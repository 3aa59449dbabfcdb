-- What the writer does with the nodes of a quad, part by part.
use Rattle.std.specs.Prelude.{ℕ, List, Option, option_map}
use Rattle.rdf_terms.specs.Terms.{Node, Subject, Term}
use Rattle.rdf_lines.specs.declared.form.Style.{Style}
use Rattle.rdf_lines.specs.Writing.{rename_node, map_subject, map_term, OfSubject, OfTerm, OfGraph, CanWriteNode, HasAsciiLabel}
use Rattle.rdf_lines.specs.NodePrefixes.{Form, prefix_node}

-- with their names in the style
abbrev pub rename_subject : Style → Subject → Subject
rename_subject s t = map_subject (rename_node s) t

abbrev pub rename_term : Style → Term → Term
rename_term s t = map_term (rename_node s) t

-- with a word in front of their labels
abbrev pub prefix_subject : List ℕ → Subject → Subject
prefix_subject p t = map_subject (prefix_node p) t

abbrev pub prefix_term : List ℕ → Term → Term
prefix_term p t = map_term (prefix_node p) t

abbrev pub prefix_graph : List ℕ → Option Subject → Option Subject
prefix_graph p g = option_map (prefix_subject p) g

-- as a form names them
abbrev pub name_node : Form → Node → Node
name_node f n = prefix_node f.prefix (rename_node f.style n)

abbrev pub name_subject : Form → Subject → Subject
name_subject f s = prefix_subject f.prefix (rename_subject f.style s)

abbrev pub name_term : Form → Term → Term
name_term f t = prefix_term f.prefix (rename_term f.style t)

abbrev pub name_graph : Form → Option Subject → Option Subject
name_graph f g = prefix_graph f.prefix (option_map (rename_subject f.style) g)

-- where the style can write them
abbrev pub CanWriteSubject : Style → Subject → Type 0
CanWriteSubject s t = OfSubject (CanWriteNode s) t

abbrev pub CanWriteTerm : Style → Term → Type 0
CanWriteTerm s t = OfTerm (CanWriteNode s) t

abbrev pub CanWriteGraph : Style → Option Subject → Type 0
CanWriteGraph s g = OfGraph (CanWriteNode s) g

-- where their labels have characters below 128 alone
abbrev pub SubjectHasAsciiLabel : Subject → Type 0
SubjectHasAsciiLabel s = OfSubject HasAsciiLabel s

abbrev pub TermHasAsciiLabel : Term → Type 0
TermHasAsciiLabel t = OfTerm HasAsciiLabel t

abbrev pub GraphHasAsciiLabel : Option Subject → Type 0
GraphHasAsciiLabel g = OfGraph HasAsciiLabel g

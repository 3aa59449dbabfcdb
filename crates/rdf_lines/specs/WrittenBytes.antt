-- The bytes that each part of a written line has, in UTF-8.
use Rattle.std.specs.Prelude.{◌≡◌, ◌∷◌, ◌++◌, ℕ, List, [], Option, option_map, flat_map, length, take, encode_utf8_all}
use Rattle.std.specs.Str.{chars}
use Rattle.rdf_terms.specs.declared.views.IriView.{IriView}
use Rattle.rdf_terms.specs.declared.views.LiteralRef.{LiteralRef}
use Rattle.rdf_terms.specs.declared.views.NodeRef.{NodeRef}
use Rattle.rdf_terms.specs.declared.views.TailRef.{TailRef}
use Rattle.rdf_terms.specs.declared.views.SubjectRef.{SubjectRef}
use Rattle.rdf_terms.specs.declared.views.TermRef.{TermRef}
use Rattle.rdf_terms.specs.declared.views.QuadRef.{QuadRef}
use Rattle.rdf_terms.specs.declared.runs.Run.{Run}
use Rattle.rdf_terms.specs.declared.runs.Run.TheVariants.{QuoteText, AsciiQuoteText}
use Rattle.rdf_terms.specs.Terms.{Label}
use Rattle.rdf_terms.specs.Views.{iri_chars, node_by, node_of, tail_by, subject_by, term_by, quad_of}
use Rattle.rdf_lines.specs.declared.form.Escapes.{Escapes}
use Rattle.rdf_lines.specs.declared.form.Escapes.TheVariants.{Plain, Ascii}
use Rattle.rdf_lines.specs.declared.form.Style.{Style}
use Rattle.rdf_lines.specs.declared.form.Style.TheVariants.{Tagged}
use Rattle.rdf_lines.specs.NodePrefixes.{Form, unprefixed, line_in}
use Rattle.rdf_lines.specs.Writing.{escaped, space, rename_node, node_text, iri_text, subject_text, string_text, tail_text, term_text, graph_text}
use Rattle.rdf_lines.specs.NodeNames.{name_node, name_subject, name_term, name_graph}

-- what stands in a string as it is
abbrev pub run_of : Escapes → Run
run_of Plain = QuoteText
run_of Ascii = AsciiQuoteText

-- those of a text with its escapes
abbrev pub escaped_bytes : Escapes → List ℕ → List ℕ
escaped_bytes e w = encode_utf8_all (flat_map (escaped e) (chars w))

-- those of a string
abbrev pub string_bytes_of : Escapes → List ℕ → List ℕ
string_bytes_of e w = encode_utf8_all (string_text e (chars w))

-- those of an IRI
abbrev pub iri_bytes : Escapes → IriView → List ℕ
iri_bytes e i = encode_utf8_all (iri_text e (iri_chars i))

-- those of a node
abbrev pub node_bytes : Form → NodeRef → List ℕ
node_bytes f n = encode_utf8_all (node_text (name_node f (node_of n)))

-- those of an IRI or a node
abbrev pub subject_bytes : Form → SubjectRef → List ℕ
subject_bytes f t = encode_utf8_all (subject_text f.escapes (name_subject f (subject_by chars t)))

-- those of what follows a string
abbrev pub tail_bytes : Escapes → TailRef → List ℕ
tail_bytes e t = encode_utf8_all (tail_text e (tail_by chars t))

-- those of an object
abbrev pub term_bytes : Form → TermRef → List ℕ
term_bytes f t = encode_utf8_all (term_text f.escapes (name_term f (term_by chars t)))

-- those of a graph label with its space
abbrev pub graph_bytes : Form → Option SubjectRef → List ℕ
graph_bytes f g = encode_utf8_all (graph_text f.escapes (name_graph f (option_map (subject_by chars) g)))

-- those of the line of a quad
abbrev pub line_bytes : Form → QuadRef → List ℕ
line_bytes f q = encode_utf8_all (line_in f (quad_of q))

-- those of a literal in the plain form
abbrev pub literal_bytes : LiteralRef → List ℕ
literal_bytes l = string_bytes_of Plain l.lexical.now ++ tail_bytes Plain l.tail

-- those of the line of three IRIs in the default graph, in the plain form, whatever names the nodes have
abbrev pub iris_bytes : IriView → IriView → IriView → List ℕ
iris_bytes s p o = (iri_bytes Plain s ++ space) ++ (iri_bytes Plain p ++ space) ++ (iri_bytes Plain o ++ space) ++ 46 ∷ 10 ∷ []

-- nodes by their letters, and characters as they are
abbrev pub usual : Form
usual = unprefixed Tagged Plain

-- The style names the node by a label of these bytes.
abbrev pub IsNamed : Style → NodeRef → List ℕ → Type 0
IsNamed s n w = rename_node s (node_by (λ v. v) n) ≡ Label w

-- what stood there still stands, in front
abbrev pub BeginsWith : List ℕ → List ℕ → Type 0
BeginsWith old new = take (length old) new ≡ old

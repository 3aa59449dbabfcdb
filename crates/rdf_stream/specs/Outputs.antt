-- What the code's values of an output mean.
use Rattle.std.specs.Prelude.{ℕ, List, Option, None, encode_utf8_all}
use Rattle.std.specs.List.{AllByRecursion}
use Rattle.rdf_terms.specs.Terms.{IsQuad, Quad}
use Rattle.rdf_terms.specs.Views.{quad_of}
use Rattle.rdf_terms.specs.declared.views.QuadRef.{QuadRef}
use Rattle.rdf_lines.specs.declared.form.WrittenForm.{WrittenForm}
use Rattle.rdf_lines.specs.Forms.{form_of}
use Rattle.rdf_lines.specs.NodePrefixes.{line_in, Form}
use Rattle.rdf_lines.specs.Writing.{CanWrite}
use Rattle.rdf_stream.specs.declared.output.GraphView.{GraphView}
use Rattle.rdf_stream.specs.declared.output.OutputView.{OutputView}
use Rattle.rdf_stream.specs.GraphTexts.{graph_in}
use Rattle.rdf_stream.specs.Graphs.{all_in_graph, in_graph}
use Rattle.rdf_stream.specs.Languages.{AreLines, ConversionOf, lines_of, written_form}
use Rattle.rdf_driver.specs.Words.{Words, in_words}
use Rattle.rdf_lines.specs.declared.form.Style.{Style}
use Rattle.rdf_stream.specs.Jobs.{JobRead}

-- how quads are written: the form of their lines, and the graph that those of the default graph get, or none
pub record Output : Type 0 where
  pub form : Form
  pub graph : Option (List ℕ)

-- so its form, and the job's graph
abbrev pub output : Style → JobRead → Output
output style job = record { form = written_form style job; graph = job.graph }

-- the graph that the code's value means
abbrev pub graph_of : GraphView → Option (List ℕ)
graph_of v = graph_in v.iri.now

-- the output that the code's value means
abbrev pub output_of : OutputView → Output
output_of v = record { form = form_of v.lines; graph = graph_of v.graph }

-- the bytes of a quad's line
abbrev pub line_by : Output → Quad → List ℕ
line_by o q = encode_utf8_all (line_in o.form (in_graph o.graph q))

-- the bytes of the quads' lines
abbrev pub lines_by : Output → List Quad → List ℕ
lines_by o qs = lines_of o.form (all_in_graph o.graph qs)

-- How a sink writes items, quads or others, in an output: the bytes of the line of one and of the lines of some, and what is known of these.
pub record Writer (I : Type 0) : Type 1 where
  pub line : Output → I → List ℕ
  pub lines : Output → List I → List ℕ
  pub known : Output → List I → Type 0
  -- what an item's type says
  pub formed : I → Type 0
  -- a style can write the item
  pub can : Style → I → Type 0

-- items whose lines can be written in a style
abbrev pub Able : {I : Type 0} → Writer I → Style → List I → Type 0
Able how s is = AllByRecursion (λ i. how.formed i × how.can s i) is

-- a line for each quad
abbrev pub of_quads : Writer Quad
of_quads = record {
  line = line_by;
  lines = lines_by;
  known = λ o qs. AreLines o.form (all_in_graph o.graph qs);
  formed = λ q. ∥ IsQuad q ∥₁;
  can = CanWrite;
}

-- the conversion of what a grammar reads from this start on, with this limit on its tokens
abbrev pub conversion : {G X I : Type 0} → Writer I → Words G X I → X → ℕ → Output → ConversionOf I
conversion how w x limit output = record { language = in_words w x limit; lines = how.lines output; known = how.known output }

-- the bytes of the line of a quad as it is
abbrev pub line_of : WrittenForm → QuadRef → List ℕ
line_of f q = line_by (record { form = form_of f; graph = None }) (quad_of q)

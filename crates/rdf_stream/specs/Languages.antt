-- What each format is to a run: its language, and how the quads of its documents are written.
use Rattle.std.specs.Prelude.{◌≡◌, ◌≤◌, ◌<◌, ℕ, List, length, Option, encode_utf8_all}
use Rattle.std.specs.List.{AllByRecursion}
use Rattle.rdf_terms.specs.Terms.{Quad}
use Rattle.rdf_tokens.specs.Grammars.{Language, LanguageOf}
use Rattle.rdf_lines.specs.declared.form.Escapes.TheVariants.{Ascii}
use Rattle.rdf_lines.specs.declared.form.Style.{Style}
use Rattle.rdf_lines.specs.declared.form.Style.TheVariants.{Kept, Tagged}
use Rattle.rdf_lines.specs.Documents.{in_lines}
use Rattle.rdf_lines.specs.Laws.{ReadsBack}
use Rattle.rdf_lines.specs.NodePrefixes.{Form, text_in}
use Rattle.rdf_lines.specs.Writing.{HasAsciiLabels}
use Rattle.rdf_trig.specs.declared.form.DocForm.{DocForm}
use Rattle.rdf_trig.specs.Language.{Chosen, language}
use Rattle.rdf_stream.specs.declared.form.Kind.{Kind}
use Rattle.rdf_stream.specs.declared.form.Kind.TheVariants.{Line, Tree}
use Rattle.rdf_stream.specs.Kinds.{kind_of}
use Rattle.rdf_stream.specs.Jobs.{JobRead}
use Rattle.rdf_stream.specs.Graphs.{all_in_graph}

-- what is read, and what is written of its items, quads or others: the bytes of the lines of some, of which this is known
pub record ConversionOf (I : Type 0) : Type 1 where
  pub language : LanguageOf I
  pub lines : List I → List ℕ
  pub known : List I → Type 0

-- a conversion of documents of quads
abbrev pub Conversion : Type 1
Conversion = ConversionOf Quad

-- the bytes of the quads' lines
abbrev pub lines_of : Form → List Quad → List ℕ
lines_of f qs = encode_utf8_all (text_in f qs)

-- What is known of lines of quads: they read back as these quads, and in ASCII each byte is below 128, where each label has such characters alone.
pub record AreLines (f : Form) (qs : List Quad) : Type 0 where
  pub reads_back : (limit : ℕ) → length (text_in f qs) ≤ limit → ReadsBack f qs limit
  pub ascii : f.escapes ≡ Ascii → AllByRecursion HasAsciiLabels qs → AllByRecursion (λ b. b < 128) (lines_of f qs)

-- The quads are written in a form, those of the default graph in the graph that was asked for.
abbrev pub written_in : Language → Form → Option (List ℕ) → Conversion
written_in l form graph =
    record { language = l; lines = λ qs. lines_of form (all_in_graph graph qs); known = λ qs. AreLines form (all_in_graph graph qs) }

-- what a job asks of the lines, with blank nodes named in a style
abbrev pub written_form : Style → JobRead → Form
written_form style job = record { style = style; escapes = job.escapes; prefix = job.node_prefix }

-- the base and the bindings of the job are in force before the first token
abbrev pub tree_job : DocForm → JobRead → Chosen
tree_job form job = record { form = form; start = record { base = job.base; bindings = job.bindings; limits = job.limits } }

-- The line formats have no relative references and no prefixes, and so no base and no bindings. Their labels are kept, those of the others are renamed.
abbrev pub conversion_by : Kind → JobRead → Conversion
conversion_by (Line form) job = written_in (in_lines form job.limits.token job.limits.iri) (written_form Kept job) job.graph
conversion_by (Tree form) job = written_in (language form (tree_job form job).start) (written_form Tagged job) job.graph

-- what a job asks of `convert`
abbrev pub conversion_of : JobRead → Conversion
conversion_of job = conversion_by (kind_of job.form) job

-- what a job reads: the documents of its format, from its base on and within its limits
abbrev pub language_of : JobRead → Language
language_of job = (conversion_of job).language

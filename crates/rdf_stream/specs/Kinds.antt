-- A format's kind says what it is to a run.
use Rattle.rdf_stream.specs.declared.form.Form.{Form}
use Rattle.rdf_stream.specs.declared.form.Kind.{Kind}
use Rattle.rdf_stream.specs.declared.form.Kind.TheVariants.{Line, Tree}
use Rattle.rdf_lines.specs.declared.form.LineForm.TheVariants as line
use Rattle.rdf_trig.specs.declared.form.DocForm.TheVariants as doc
use Rattle.rdf_stream.specs.declared.form.Form.TheVariants.{NTriples, NQuads, Turtle, TriG}

-- the two line formats are read line by line, Turtle and TriG as trees
abbrev pub kind_of : Form → Kind
kind_of NTriples = Line line.NTriples
kind_of NQuads = Line line.NQuads
kind_of Turtle = Tree doc.Turtle
kind_of TriG = Tree doc.TriG

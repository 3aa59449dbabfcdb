-- The form of lines that stand as they are read.
use Rattle.std.specs.Prelude.{Bool, true, false, ◌&&◌, ◌||◌, ◌==◌, length}
use Rattle.rdf_lines.specs.declared.form.Escapes.{Escapes}
use Rattle.rdf_lines.specs.declared.form.Escapes.TheVariants.{Plain, Ascii}
use Rattle.rdf_lines.specs.declared.form.Style.{Style}
use Rattle.rdf_stream.specs.declared.output.OutputView.{OutputView}
use Rattle.rdf_lines.specs.NodePrefixes.{Form, unprefixed}

-- each character above U+007F stands as it is, and no word is in front of the names
abbrev pub plain : Style → Form
plain style = unprefixed style Plain

-- whether each character above U+007F stands as it is
abbrev pub is_raw : Escapes → Bool
is_raw Plain = true
is_raw Ascii = false

-- whether plain lines stand in the form as they are: characters above U+007F do, or there are none, and no word is in front of the names, and no graph is
-- asked for
abbrev pub keeps_lines : OutputView → Bool → Bool
keeps_lines w are_ascii = ((are_ascii || is_raw w.lines.escapes) && (length w.lines.prefix.word.now == 0)) && (length w.graph.iri.now == 0)

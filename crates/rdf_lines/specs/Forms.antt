-- What the code's values of a form mean.
use Rattle.std.specs.Prelude.{ℕ, List}
use Rattle.std.specs.Str.{chars}
use Rattle.rdf_lines.specs.declared.form.WrittenForm.{WrittenForm}
use Rattle.rdf_lines.specs.declared.prefix.NodePrefixView.{NodePrefixView}
use Rattle.rdf_lines.specs.NodePrefixes.{Form}

-- the characters of a word
abbrev pub prefix_chars : NodePrefixView → List ℕ
prefix_chars p = chars p.word.now

-- the form that the code's value means
abbrev pub form_of : WrittenForm → Form
form_of w = record { style = w.style; escapes = w.escapes; prefix = prefix_chars w.prefix }

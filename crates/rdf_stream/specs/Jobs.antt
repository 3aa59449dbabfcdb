-- What a run is asked for.
use Rattle.std.specs.Prelude.{ℕ, List, [], Option, None, Some}
use Rattle.rdf_iri.specs.Limits.{Sizes}
use Rattle.rdf_lines.specs.declared.form.Escapes.{Escapes}
use Rattle.rdf_stream.specs.declared.form.Form.{Form}

-- the document's format, its base or none, the prefixes that are bound before it with their IRIs, the escapes of what is written, the word in front of the
-- names of nodes there, which may be empty, the graph that quads of the default graph get there or none, and the limits
pub record JobRead : Type 0 where
  pub form : Form
  pub base : Option (List ℕ)
  pub bindings : List (List ℕ × List ℕ)
  pub escapes : Escapes
  pub node_prefix : List ℕ
  pub graph : Option (List ℕ)
  pub limits : Sizes

-- the word that was given, or the empty one
abbrev pub word_of : Option (List ℕ) → List ℕ
word_of None = []
word_of (Some w) = w

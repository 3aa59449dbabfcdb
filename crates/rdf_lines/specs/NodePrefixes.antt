-- Names of nodes with a word in front, so that what was written for two documents can be joined.
use Rattle.std.specs.Prelude.{ℕ, Bool, true, List, [], ◌++◌, ◌||◌, ◌≡◌, flat_map}
use Rattle.rdf_terms.specs.Classes.{is_letter, is_digit}
use Rattle.rdf_terms.specs.Terms.{Node, Label, Quad, all_have}
use Rattle.rdf_lines.specs.declared.form.Escapes.{Escapes}
use Rattle.rdf_lines.specs.declared.form.Style.{Style}
use Rattle.rdf_lines.specs.Writing.{map_nodes, rename, quad_text}

-- a word has ASCII letters and digits alone
abbrev pub is_word_char : ℕ → Bool
is_word_char c = is_letter c || is_digit c

-- what may stand in front of the names; no character is no change
abbrev pub IsNodePrefix : List ℕ → Type 0
IsNodePrefix p = all_have is_word_char p ≡ true

-- the word stands in front of the label; a node without one has no name yet
abbrev pub prefix_node : List ℕ → Node → Node
prefix_node p (Label x) = Label (p ++ x)
prefix_node p n = n

-- the word stands in front of each name of the quad
abbrev pub put_prefix : List ℕ → Quad → Quad
put_prefix p q = map_nodes (prefix_node p) q

-- the form of what is written: how nodes are named, how characters above U+007F stand, and the word in front of the names
pub record Form : Type 0 where
  pub style : Style
  pub escapes : Escapes
  pub prefix : List ℕ

-- without a word
abbrev pub unprefixed : Style → Escapes → Form
unprefixed s e = record { style = s; escapes = e; prefix = [] }

-- a quad with its nodes named as the form says
abbrev pub named : Form → Quad → Quad
named f q = put_prefix f.prefix (rename f.style q)

-- the line of a quad in the form
abbrev pub line_in : Form → Quad → List ℕ
line_in f q = quad_text f.escapes (named f q)

-- the lines of some quads
abbrev pub text_in : Form → List Quad → List ℕ
text_in f qs = flat_map (line_in f) qs

-- The leaves of a grammar's trees: tokens without the kind, which the production names.
use Rattle.std.specs.Prelude.{ℕ, List, [], unwrap_or}
use Rattle.rdf_terms.specs.declared.kind.Kind.{Kind}
use Rattle.rdf_terms.specs.Values.{iri_value, inside}
use Rattle.rdf_tokens.specs.Tokens.{Token, Place}

-- a token of a tree: its text and its place
pub record Leaf : Type 0 where
  pub text : List ℕ
  pub at : Place

-- a token without its kind
abbrev pub leaf_of : Token → Leaf
leaf_of t = record { text = t.text; at = t.at }

-- the token of a leaf, by the kind that its production names
abbrev pub token : Kind → Leaf → Token
token k l = record { kind = k; text = l.text; at = l.at }

-- the characters that an IRIREF spells; each token is fit, so there are some
abbrev pub iri_of : Leaf → List ℕ
iri_of l = unwrap_or (iri_value (inside 1 l.text)) []

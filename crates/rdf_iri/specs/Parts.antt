-- The parts of a reference as a function of its text. That this is how it splits is a law.
use Prim.Native.Char.{code}
use Rattle.std.specs.Prelude.{codes, ℕ, cond, List, [], ◌∷◌, ◌++◌, drop, Option, Some, None}
use Rattle.std.specs.Option.{unwrap_or}
use Rattle.rdf_iri.specs.Cuts.{begins, before, after, from}
use Rattle.rdf_terms.specs.Terms.{has_scheme}
pub use Rattle.rdf_iri.specs.Reference.{Parts, with_scheme, with_authority, suffix, recompose, IsAuthority, Splits}

-- what is written before the path
abbrev pub scheme_text : Option (List ℕ) → List ℕ
scheme_text None = []
scheme_text (Some s) = s ++ code ":" ∷ []

-- an authority with the "//" before it, or nothing where there is none
abbrev pub authority_text : Option (List ℕ) → List ℕ
authority_text None = []
authority_text (Some a) = code "/" ∷ code "/" ∷ a

-- the parts, from the end to the front
abbrev pub hierarchy_parts : Option (List ℕ) → Option (List ℕ) → Option (List ℕ) → List ℕ → Parts
hierarchy_parts scheme query fragment w = record {
  scheme = scheme;
  authority = cond (begins (codes "//") w) (Some (before (code "/") (drop 2 w))) None;
  path = cond (begins (codes "//") w) (from (code "/") (drop 2 w)) w;
  query = query;
  fragment = fragment;
}

-- the parts of what is left without a scheme and a fragment: the query stands after the first '?'
abbrev pub query_parts : Option (List ℕ) → Option (List ℕ) → List ℕ → Parts
query_parts scheme fragment w = hierarchy_parts scheme (after (code "?") w) fragment (before (code "?") w)

-- the parts of what is left without a scheme: the fragment stands after the first '#', and the query after the first '?' before it
abbrev pub fragment_parts : Option (List ℕ) → List ℕ → Parts
fragment_parts scheme w = hierarchy_parts scheme (after (code "?") (before (code "#") w)) (after (code "#") w) (before (code "?") (before (code "#") w))

-- the five parts of a reference, the scheme before the first ':' if the text begins with one
unfoldable pub parts_of : List ℕ → Parts
parts_of w = cond (has_scheme w) (fragment_parts (Some (before (code ":") w)) (unwrap_or (after (code ":") w) [])) (fragment_parts None w)

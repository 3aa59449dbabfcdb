-- Bases whose path begins with '/', and references that are paths.
use Rattle.std.specs.Prelude.{◌≡◌, ◌≢◌, ℕ, ◌+◌, ◌≤◌, List, [], ◌∷◌, ◌++◌, take, length, false}
use Rattle.std.specs.Str.{IsCharBoundary}
use Rattle.rdf_iri.specs.declared.base.Root.{Root}
use Rattle.rdf_iri.specs.Texts.{BeginsWith, begins}
use Rattle.rdf_iri.specs.Parts.{Parts, parts_of, scheme_text, authority_text, suffix}
use Rattle.rdf_iri.specs.Resolve.{directory}
use Rattle.rdf_iri.specs.Directory.{has_dots}
use Rattle.rdf_iri.specs.Steps.{path_in}

-- what stands in front of the path
abbrev pub front_text : Parts → List ℕ
front_text p = scheme_text p.scheme ++ authority_text p.authority

-- the base's path begins with '/', its directory has no dot segments, and these are the bytes up to that '/', up to the last one, and up to
-- the ends of the path and of the query
pub record HasRoot (base : List ℕ) (root : Root) : Type 0 where
  pub path : BeginsWith (47 ∷ []) (parts_of base).path
  pub dots : has_dots (directory (parts_of base).path) ≡ false
  pub at_first : root.first ≡ length (front_text (parts_of base)) + 1
  pub first : take root.first base ≡ front_text (parts_of base) ++ 47 ∷ []
  pub last : take root.last base ≡ front_text (parts_of base) ++ directory (parts_of base).path
  pub path_end : take root.path base ≡ front_text (parts_of base) ++ (parts_of base).path
  pub query_end : take root.query base ≡ front_text (parts_of base) ++ ((parts_of base).path ++ suffix 63 (parts_of base).query)
  pub path_cut : IsCharBoundary base root.path
  pub query_cut : IsCharBoundary base root.query
  pub within_first : root.first ≤ length base
  pub within_last : root.last ≤ length base

-- a reference without a scheme that has a path and no authority
pub record HasOwnPath (reference : List ℕ) : Type 0 where
  pub some : path_in reference ≢ []
  pub no_authority : begins (47 ∷ 47 ∷ []) (path_in reference) ≡ false

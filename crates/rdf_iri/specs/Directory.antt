-- Bases after which a path is written as it is: what such a base and such a path resolve to is the one with the other after it.
use Prim.Native.Char.{code}
use Rattle.std.specs.Prelude.{◌≡◌, ℕ, Bool, true, false, List, [], ◌∷◌, ◌++◌, ◌==◌, ◌&&◌, ◌||◌, None, is_some, codes}
use Rattle.rdf_iri.specs.Cuts.{before}
use Rattle.rdf_iri.specs.Dots.{fits_D}
use Rattle.rdf_iri.specs.Parts.{Parts, parts_of}

-- a segment that follows a '/' is "." or ".."
abbrev pub dots_after_slash : List ℕ → Bool
dots_after_slash [] = false
dots_after_slash (c ∷ w) = (c == code "/" && fits_D (before (code "/") w)) || dots_after_slash w

-- a segment of the path is "." or ".."
abbrev pub has_dots : List ℕ → Bool
has_dots w = fits_D (before (code "/") w) || dots_after_slash w

-- the path ends in '/'
abbrev pub EndsInSlash : List ℕ → Type 0
EndsInSlash w = (front : List ℕ) × (w ≡ front ++ codes "/")

-- the path begins, and not with '/'
abbrev pub BeginsSegment : List ℕ → Type 0
BeginsSegment [] = ⊥
BeginsSegment (c ∷ w) = (c == code "/") ≡ false

-- the path has no dot segments, and nothing stands after it
pub record EndsInPath (p : Parts) : Type 0 where
  pub dots : has_dots p.path ≡ false
  pub query : p.query ≡ None
  pub fragment : p.fragment ≡ None

-- the parts of a base that ends in a directory
pub record HasDirectory (p : Parts) : Type 0 where
  pub scheme : is_some p.scheme ≡ true
  pub path : EndsInSlash p.path
  pub end : EndsInPath p

-- the parts of a reference that is a path from a directory
pub record HasPath (p : Parts) : Type 0 where
  pub scheme : p.scheme ≡ None
  pub authority : p.authority ≡ None
  pub path : BeginsSegment p.path
  pub end : EndsInPath p

-- the base has a directory for the reference, each given as its bytes
abbrev pub GrowsBy : List ℕ → List ℕ → Type 0
GrowsBy base reference = HasDirectory (parts_of base) × HasPath (parts_of reference)

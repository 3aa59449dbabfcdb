-- The five parts of a reference (RFC 3986, section 3).
use Prim.Native.Char.{code}
use Rattle.std.specs.Prelude.{◌≡◌, ℕ, true, false, List, [], ◌∷◌, ◌++◌, ◌⊎◌, Option, Some, None, MatchOption, ⊤, codes}
use Rattle.rdf_iri.specs.Texts.{Lacks, BeginsWith}
use Rattle.rdf_terms.specs.Terms.{has_scheme}

-- a reference without its delimiters; a path may be empty, any other part may be missing, and an empty part is not a missing one
pub record Parts : Type 0 where
  pub scheme : Option (List ℕ)
  pub authority : Option (List ℕ)
  pub path : List ℕ
  pub query : Option (List ℕ)
  pub fragment : Option (List ℕ)

-- Recomposition (RFC 3986, section 5.3): a scheme has ':' after it
abbrev pub with_scheme : Option (List ℕ) → List ℕ → List ℕ
with_scheme None rest = rest
with_scheme (Some s) rest = s ++ code ":" ∷ rest

-- an authority has "//" before it
abbrev pub with_authority : Option (List ℕ) → List ℕ → List ℕ
with_authority None path = path
with_authority (Some a) path = code "/" ∷ code "/" ∷ (a ++ path)

-- a query or a fragment, with the character before it
abbrev pub suffix : ℕ → Option (List ℕ) → List ℕ
suffix c None = []
suffix c (Some w) = c ∷ w

-- the text of the parts
abbrev pub recompose : Parts → List ℕ
recompose p = with_scheme p.scheme ((with_authority p.authority p.path ++ suffix (code "?") p.query) ++ suffix (code "#") p.fragment)

-- the authority has no '/', '?' and '#'
abbrev pub IsAuthority : List ℕ → Type 0
IsAuthority a = Lacks (code "/") a × Lacks (code "?") a × Lacks (code "#") a

-- the parts split the text
pub record Splits (text : List ℕ) (p : Parts) : Type 0 where
  pub whole : recompose p ≡ text
  pub scheme : MatchOption p.scheme (has_scheme text ≡ false) (λ s. (has_scheme text ≡ true) × Lacks (code ":") s)
  pub authority : MatchOption p.authority (BeginsWith (codes "//") p.path → ⊥) (λ a. IsAuthority a × ((p.path ≡ []) ⊎ BeginsWith (codes "/") p.path))
  pub path : Lacks (code "?") p.path × Lacks (code "#") p.path
  pub query : MatchOption p.query ⊤ (λ q. Lacks (code "#") q)

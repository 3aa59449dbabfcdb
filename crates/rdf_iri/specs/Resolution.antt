-- Resolution of a reference against a base (RFC 3986, section 5.2).
use Prim.Native.Char.{code}
use Rattle.std.specs.Prelude.{◌≡◌, ℕ, true, false, cond, List, [], ◌∷◌, ◌++◌, ◌==◌, ◌⊎◌, Option, Some, None, MatchOption, codes}
use Rattle.rdf_iri.specs.Texts.{has_slash, parent}
use Rattle.rdf_iri.specs.Reference.{Parts, Splits, recompose}
use Rattle.rdf_iri.specs.DotSegments.{DotsRemoved}
use Rattle.rdf_terms.specs.Terms.{has_scheme}

-- the text up to and with its last '/', or nothing
abbrev pub directory : List ℕ → List ℕ
directory path = cond (has_slash path) (parent path ++ codes "/") []

-- Merge (5.2.3).
abbrev pub merge_onto : Option (List ℕ) → List ℕ → List ℕ → List ℕ
merge_onto (Some a) [] path = code "/" ∷ path
merge_onto authority base_path path = directory base_path ++ path

-- the first of two that is there
abbrev pub or_else : Option (List ℕ) → Option (List ℕ) → Option (List ℕ)
or_else (Some q) r = Some q
or_else None r = r

-- the path before its dots are removed
abbrev pub joined : Parts → List ℕ → List ℕ
joined b [] = []
joined b (c ∷ w) = cond (c == code "/") (c ∷ w) (merge_onto b.authority b.path (c ∷ w))

-- Transform (5.2.2) where the reference has no scheme: by its path, where it has no authority either.
abbrev pub ByPath : Parts → List ℕ → Option (List ℕ) → Parts → Type 0
ByPath b [] query t = (t.path ≡ b.path) × (t.query ≡ or_else query b.query)
ByPath b (c ∷ w) query t = DotsRemoved (joined b (c ∷ w)) t.path × (t.query ≡ query)

-- by its authority, if it has one
abbrev pub ByAuthority : Parts → Parts → Parts → Type 0
ByAuthority b r t = MatchOption r.authority
    ((t.authority ≡ b.authority) × ByPath b r.path r.query t)
    (λ a. (t.authority ≡ Some a) × DotsRemoved r.path t.path × (t.query ≡ r.query))

-- the parts of the target
pub record Transforms (b r t : Parts) : Type 0 where
  pub scheme : t.scheme ≡ b.scheme
  pub middle : ByAuthority b r t
  pub fragment : t.fragment ≡ r.fragment

-- the result of a reference and a base, where one is needed
abbrev pub Resolves : Option (List ℕ) → List ℕ → List ℕ → Type 0
Resolves base reference result =
    ((has_scheme reference ≡ true) × (result ≡ reference))
    ⊎ ((has_scheme reference ≡ false) × MatchOption base ⊥ (λ text.
    (b r t : Parts) × Splits text b × Splits reference r × Transforms b r t × (result ≡ recompose t)))

-- Resolution as a function. That it gives the one result of the relation is a law.
use Rattle.std.specs.Prelude.{codes, ℕ, cond, List, [], ◌∷◌, Option, Some, None}
use Rattle.rdf_iri.specs.Cuts.{begins}
use Rattle.rdf_iri.specs.Dots.{remove_dots}
use Rattle.rdf_iri.specs.Parts.{Parts, recompose, parts_of}
use Rattle.rdf_terms.specs.Terms.{has_scheme}
pub use Rattle.rdf_iri.specs.Resolution.{directory, merge_onto, or_else, joined, ByPath, ByAuthority, Transforms, Resolves}

-- what merge puts before the reference's path
abbrev pub base_front : Option (List ℕ) → List ℕ → List ℕ
base_front (Some a) [] = codes "/"
base_front authority base_path = directory base_path

-- what stands before the reference's path in the target: nothing if that begins with '/', otherwise what merge puts there
abbrev pub merged_front : Option (List ℕ) → List ℕ → List ℕ → List ℕ
merged_front authority base_path path = cond (begins (codes "/") path) [] (base_front authority base_path)

-- the target's parts
abbrev pub path_target : Parts → Parts → List ℕ → Parts
path_target b r [] = record { scheme = b.scheme; authority = b.authority; path = b.path; query = or_else r.query b.query; fragment = r.fragment }
path_target b r (c ∷ w) = record { scheme = b.scheme; authority = b.authority; path = remove_dots (joined b (c ∷ w)); query = r.query; fragment = r.fragment }

-- the target's parts: a reference with an authority takes the scheme alone from the base
abbrev pub authority_target : Parts → Parts → Option (List ℕ) → Parts
authority_target b r (Some a) = record { scheme = b.scheme; authority = Some a; path = remove_dots r.path; query = r.query; fragment = r.fragment }
authority_target b r None = path_target b r r.path

-- the parts of the target (RFC 3986, 5.2.2), for a reference without a scheme
abbrev pub target : Parts → Parts → Parts
target b r = authority_target b r r.authority

-- the result against a base, which a reference without a scheme needs
abbrev pub based : Option (List ℕ) → List ℕ → Option (List ℕ)
based None reference = None
based (Some text) reference = Some (recompose (target (parts_of text) (parts_of reference)))

-- the IRI that a reference stands for: itself if it has a scheme, otherwise its target; none if it needs a base and there is none
unfoldable pub resolved : Option (List ℕ) → List ℕ → Option (List ℕ)
resolved base reference = cond (has_scheme reference) (Some reference) (based base reference)

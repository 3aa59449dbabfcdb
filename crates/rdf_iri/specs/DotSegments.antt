-- Removal of dot segments (RFC 3986, section 5.2.4).
use Prim.Native.Char.{code}
use Rattle.std.specs.Prelude.{◌≡◌, ℕ, zero, suc, List, [], ◌∷◌, ◌++◌, ◌⊎◌, codes}
use Rattle.rdf_iri.specs.Texts.{Lacks, BeginsWith}

-- what is left of the path, and what was given out
pub record Walk : Type 0 where
  pub input : List ℕ
  pub output : List ℕ

-- the output without its last segment and the '/' before it, if any
abbrev pub LastSegmentRemoved : List ℕ → List ℕ → Type 0
LastSegmentRemoved out shorter =
    ((segment : List ℕ) × Lacks (code "/") segment × (out ≡ shorter ++ code "/" ∷ segment)) ⊎ (Lacks (code "/") out × (shorter ≡ []))

-- A: a front "../" or "./" is removed
abbrev pub RuleA : Walk → Walk → Type 0
RuleA s t = ((s.input ≡ codes "../" ++ t.input) ⊎ (s.input ≡ codes "./" ++ t.input)) × (t.output ≡ s.output)

-- the front, or the last text where it is all of the input, is replaced by "/"
abbrev pub ReplacedBySlash : List ℕ → List ℕ → Walk → Walk → Type 0
ReplacedBySlash front last s t =
    ((rest : List ℕ) × (s.input ≡ front ++ rest) × (t.input ≡ code "/" ∷ rest)) ⊎ ((s.input ≡ last) × (t.input ≡ codes "/"))

-- B: "/./", or the last "/.", is replaced by "/"
abbrev pub RuleB : Walk → Walk → Type 0
RuleB s t = ReplacedBySlash (codes "/./") (codes "/.") s t × (t.output ≡ s.output)

-- C: "/../", or the last "/..", is replaced by "/", and the last segment of the output is removed
abbrev pub RuleC : Walk → Walk → Type 0
RuleC s t = ReplacedBySlash (codes "/../") (codes "/..") s t × LastSegmentRemoved s.output t.output

-- D: a last "." or ".." is removed
abbrev pub RuleD : Walk → Walk → Type 0
RuleD s t = ((s.input ≡ codes ".") ⊎ (s.input ≡ codes "..")) × (t.input ≡ []) × (t.output ≡ s.output)

-- E: the first segment, with the '/' before it, up to the next '/', moves to the output
abbrev pub RuleE : Walk → Walk → Type 0
RuleE s t = (c : ℕ) × (segment : List ℕ) × (s.input ≡ c ∷ (segment ++ t.input)) × Lacks (code "/") segment
    × ((t.input ≡ []) ⊎ BeginsWith (codes "/") t.input) × (t.output ≡ s.output ++ c ∷ segment)

-- the first of the rules that fits
abbrev pub FirstOf : List (Walk → Walk → Type 0) → Walk → Walk → Type 0
FirstOf [] s t = ⊥
FirstOf (rule ∷ rules) s t = rule s t ⊎ (((t : Walk) × rule s t → ⊥) × FirstOf rules s t)

-- a step is by the first of the five rules that fits
abbrev pub Step : Walk → Walk → Type 0
Step = FirstOf (RuleA ∷ RuleB ∷ RuleC ∷ RuleD ∷ RuleE ∷ [])

-- after so many steps the input is empty, and the output is the result
abbrev pub Ends : ℕ → Walk → List ℕ → Type 0
Ends zero s result = (s.input ≡ []) × (s.output ≡ result)
Ends (suc n) s result = (t : Walk) × Step s t × Ends n t result

-- the path without its dot segments
abbrev pub DotsRemoved : List ℕ → List ℕ → Type 0
DotsRemoved path result = (n : ℕ) × Ends n (record { input = path; output = [] }) result

-- Removal of dot segments as a function. That it gives the one result of the rules is a law.
use Prim.Native.Char.{code}
use Rattle.std.specs.Prelude.{ℕ, zero, suc, Bool, cond, List, [], ◌∷◌, ◌++◌, ◌||◌, take, drop, length, codes}
use Rattle.rdf_iri.specs.Cuts.{begins, before, from}
use Rattle.rdf_iri.specs.Texts.{equal}
pub use Rattle.rdf_iri.specs.Texts.{has_slash, parent}
pub use Rattle.rdf_iri.specs.DotSegments.{Walk, LastSegmentRemoved, RuleA, ReplacedBySlash, RuleB, RuleC, RuleD, RuleE, FirstOf, Step, Ends, DotsRemoved}

-- the first segment, with the '/' before it, and what follows
abbrev pub first_segment : List ℕ → List ℕ
first_segment [] = []
first_segment (c ∷ w) = c ∷ before (code "/") w

-- the path from the '/' that ends its first segment, or nothing where the segment is the last
abbrev pub after_segment : List ℕ → List ℕ
after_segment [] = []
after_segment (c ∷ w) = from (code "/") w

-- a state of the removal: the path still to read, and the result so far
abbrev pub walk : List ℕ → List ℕ → Walk
walk input output = record { input = input; output = output }

-- A step by the first of the five rules that fits. A: a front "../" or "./" is dropped. B: "/./", or a last "/.", has become "/". C: "/../", or a last
-- "/..", has become "/", and the output has lost its last segment. D: of "." or ".." nothing is left. E: the first segment has moved to the output.
unfoldable pub step : Walk → Walk
step s =
    cond (begins (codes "../") s.input || begins (codes "./") s.input) (walk (cond (begins (codes "../") s.input) (drop 3 s.input) (drop 2 s.input)) s.output)
    (cond (begins (codes "/./") s.input || equal s.input (codes "/.")) (walk (code "/" ∷ drop 3 s.input) s.output)
    (cond (begins (codes "/../") s.input || equal s.input (codes "/..")) (walk (code "/" ∷ drop 4 s.input) (parent s.output))
    (cond (equal s.input (codes ".") || equal s.input (codes "..")) (walk [] s.output) (walk (after_segment s.input) (s.output ++ first_segment s.input)))))

-- the state after so many steps
abbrev pub steps : ℕ → Walk → Walk
steps zero s = s
steps (suc n) s = steps n (step s)

-- the output at the end; each step shortens the input
unfoldable pub finish : Walk → List ℕ
finish s = (steps (length s.input) s).output

-- the path without its dot segments (RFC 3986, 5.2.4)
unfoldable pub remove_dots : List ℕ → List ℕ
remove_dots path = finish (walk path [])

-- The rules one by one.
-- whether a rule fits, and what it gives
abbrev pub fits_A : List ℕ → Bool
fits_A w = begins (codes "../") w || begins (codes "./") w

-- the input after rule A: without its front "../" or "./"
abbrev pub by_A : Walk → Walk
by_A s = walk (cond (begins (codes "../") s.input) (drop 3 s.input) (drop 2 s.input)) s.output

-- rule B fits: the input begins with "/./" or is "/."
abbrev pub fits_B : List ℕ → Bool
fits_B w = begins (codes "/./") w || equal w (codes "/.")

-- the input after rule B: "/./", or a last "/.", has become "/"
abbrev pub by_B : Walk → Walk
by_B s = walk (code "/" ∷ drop 3 s.input) s.output

-- rule C fits: the input begins with "/../" or is "/.."
abbrev pub fits_C : List ℕ → Bool
fits_C w = begins (codes "/../") w || equal w (codes "/..")

-- the state after rule C: "/../", or a last "/..", has become "/", and the output has lost its last segment
abbrev pub by_C : Walk → Walk
by_C s = walk (code "/" ∷ drop 4 s.input) (parent s.output)

-- rule D fits: the input is "." or ".."
abbrev pub fits_D : List ℕ → Bool
fits_D w = equal w (codes ".") || equal w (codes "..")

-- the state after rule D: nothing is left to read
abbrev pub by_D : Walk → Walk
by_D s = walk [] s.output

-- the state after rule E, which always fits: the first segment has moved to the output
abbrev pub by_E : Walk → Walk
by_E s = walk (after_segment s.input) (s.output ++ first_segment s.input)

-- Rules by the bytes that they take.
abbrev pub skip : ℕ → Walk → Walk
skip n s = walk (drop n s.input) s.output

-- rule B, with n bytes dropped and the next one, a '/' or a final '.', replaced by '/'
abbrev pub slash : ℕ → Walk → Walk
slash n s = walk (code "/" ∷ drop (suc n) s.input) s.output

-- rule C, by the same count of bytes, and the last segment of the output is removed
abbrev pub up : ℕ → Walk → Walk
up n s = walk (code "/" ∷ drop (suc n) s.input) (parent s.output)

-- rule E, with the n bytes of the first segment moved to the output
abbrev pub keep : ℕ → Walk → Walk
keep n s = walk (drop n s.input) (s.output ++ take n s.input)

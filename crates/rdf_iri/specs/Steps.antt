-- A path that is written after a directory, one segment at a time.
use Rattle.std.specs.Prelude.{◌≡◌, ◌≢◌, ℕ, ◌+◌, ◌-◌, ◌<◌, ◌≤◌, ◌⊎◌, List, [], ◌∷◌, ◌++◌, take, drop, length, false, get_or, slice_range}
use Rattle.rdf_iri.specs.declared.steps.Move.{Move}
use Rattle.rdf_iri.specs.declared.steps.Move.TheVariants.{Here, Up, Into, Last}
use Rattle.rdf_iri.specs.Texts.{BeginsWith, before, after}
use Rattle.rdf_iri.specs.Parts.{suffix}
use Rattle.rdf_iri.specs.Dots.{walk, finish, parent}
use Rattle.rdf_iri.specs.Directory.{has_dots}

-- the bytes of a reference without scheme and authority up to its query or its fragment
abbrev pub path_in : List ℕ → List ℕ
path_in w = before 63 (before 35 w)

-- the others
abbrev pub tail_in : List ℕ → List ℕ
tail_in w = suffix 63 (after 63 (before 35 w)) ++ suffix 35 (after 35 w)

-- what becomes of such a path after a directory, which is given without the '/' at its end
abbrev pub onward : List ℕ → List ℕ → List ℕ
onward directory w = finish (walk (47 ∷ path_in w) directory)

-- from here on the path comes to what that of a shorter text comes to after another directory
pub record Leads (other : List ℕ → List ℕ) (w v : List ℕ) : Type 0 where
  pub path : (directory : List ℕ) → onward directory w ≡ onward (other directory) v
  pub tail : tail_in w ≡ tail_in v

-- the path goes on at a place
pub record IsInPath (bytes : List ℕ) (at : ℕ) : Type 0 where
  pub within : at < length bytes
  pub no_query : get_or bytes at 0 ≢ 63
  pub no_fragment : get_or bytes at 0 ≢ 35

-- some bytes are passed, the last of them ASCII
pub record Passes (bytes : List ℕ) (at next : ℕ) : Type 0 where
  pub some : at < next
  pub within : next ≤ length bytes
  pub ascii : get_or bytes (next - 1) 0 < 128

-- what the segment at a place does to the directory
abbrev pub IsMove : List ℕ → ℕ → Move → Type 0
IsMove bytes at (Here next) = Passes bytes at next × Leads (λ o. o) (drop at bytes) (drop next bytes)
IsMove bytes at (Up next) = Passes bytes at next × Leads parent (drop at bytes) (drop next bytes)
IsMove bytes at (Into next) =
    Passes bytes at next × (segment : List ℕ) × (slice_range bytes at next ≡ segment ++ 47 ∷ [])
    × Leads (λ o. o ++ 47 ∷ segment) (drop at bytes) (drop next bytes)
IsMove bytes at Last = has_dots (path_in (drop at bytes)) ≡ false

-- the text is a directory: what stands in front of the path, and a path that ends in '/' and begins with one as the last of so many bytes
pub record IsDirectory (root : ℕ) (text : List ℕ) : Type 0 where
  pub front : List ℕ
  pub path : List ℕ
  pub whole : text ≡ front ++ (path ++ 47 ∷ [])
  pub rooted : (path ≡ []) ⊎ BeginsWith (47 ∷ []) path
  pub at_root : root ≡ length front + 1

-- what stands in front of the path of a directory
abbrev pub front_at : ℕ → List ℕ → List ℕ
front_at root text = take (root - 1) text

-- its path without the '/' at its end
abbrev pub path_at : ℕ → List ℕ → List ℕ
path_at root text = take (length text - root) (drop (root - 1) text)

-- a directory with a reference after it that is a path, without the dot segments of that
abbrev pub written_onward : ℕ → List ℕ → List ℕ → List ℕ
written_onward root text w = front_at root text ++ (onward (path_at root text) w ++ tail_in w)

-- Where a character stands in a text. What cuts a reference is ASCII, so the same words serve for the bytes of a text.
use Prim.Native.Char.{code}
use Rattle.std.specs.Prelude.{◌≡◌, ◌≢◌, ℕ, Bool, true, false, cond, List, [], ◌∷◌, ◌++◌, ◌==◌, ◌&&◌, ◌||◌, length, ⊤}
pub use Rattle.rdf_iri.specs.Cuts.{begins, before, after, from}
use Rattle.std.specs.Str.{encode_utf8_all}
use Rattle.rdf_terms.specs.Classes.{has}
use Rattle.rdf_terms.specs.Classes.Class.{iri_char}
use Rattle.rdf_terms.specs.Terms.{all_have}

-- each character is one that an IRIREF has as it is
abbrev pub IsIriText : List ℕ → Type 0
IsIriText w = all_have (has iri_char) w ≡ true

-- how many bytes the text has in UTF-8
abbrev pub byte_len : List ℕ → ℕ
byte_len w = length (encode_utf8_all w)

-- the character is not in the text
abbrev pub Lacks : ℕ → List ℕ → Type 0
Lacks c [] = ⊤
Lacks c (d ∷ w) = (d ≢ c) × Lacks c w

-- the text begins with the front
abbrev pub BeginsWith : List ℕ → List ℕ → Type 0
BeginsWith front w = (rest : List ℕ) × (w ≡ front ++ rest)

-- two texts are the same
abbrev pub equal : List ℕ → List ℕ → Bool
equal [] [] = true
equal [] (d ∷ w) = false
equal (c ∷ v) [] = false
equal (c ∷ v) (d ∷ w) = c == d && equal v w

-- a '/' is in the text
abbrev pub has_slash : List ℕ → Bool
has_slash [] = false
has_slash (c ∷ w) = c == code "/" || has_slash w

-- what stands before the last '/', or nothing where there is none
abbrev pub parent : List ℕ → List ℕ
parent [] = []
parent (c ∷ w) = cond (has_slash w) (c ∷ parent w) []

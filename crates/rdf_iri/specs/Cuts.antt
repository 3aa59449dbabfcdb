-- Where the functions that compute cut a text.
use Rattle.std.specs.Prelude.{ℕ, Bool, true, false, cond, List, [], ◌∷◌, ◌==◌, ◌&&◌, Option, Some, None}

-- the text begins with the front, as a test
abbrev pub begins : List ℕ → List ℕ → Bool
begins [] w = true
begins (c ∷ front) [] = false
begins (c ∷ front) (d ∷ w) = c == d && begins front w

-- what stands before the first c, and after it if it is there
abbrev pub before : ℕ → List ℕ → List ℕ
before c [] = []
before c (d ∷ w) = cond (d == c) [] (d ∷ before c w)

-- what stands after the first c, or none where there is no c
abbrev pub after : ℕ → List ℕ → Option (List ℕ)
after c [] = None
after c (d ∷ w) = cond (d == c) (Some w) (after c w)

-- the text from the first c on
abbrev pub from : ℕ → List ℕ → List ℕ
from c [] = []
from c (d ∷ w) = cond (d == c) (d ∷ w) (from c w)

-- the text without the characters at its beginning that pass the test
abbrev pub past : (ℕ → Bool) → List ℕ → List ℕ
past test [] = []
past test (c ∷ w) = cond (test c) (past test w) (c ∷ w)

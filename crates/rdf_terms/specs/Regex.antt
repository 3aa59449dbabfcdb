-- What is left to match of an expression after some characters. That this agrees with its texts is a law.
use Prim.Native.Char.{code}
use Rattle.std.specs.Prelude.{ℕ, Bool, true, false, cond, List, [], ◌∷◌, ◌&&◌, ◌||◌}
use Rattle.rdf_terms.specs.Classes.{Class, has}
use Rattle.rdf_terms.specs.Classes.Class.{the, digit, local_escape, escape_letter}
pub use Rattle.rdf_terms.specs.Expressions.{Regex, Matches, nothing, empty, one, ◌·◌, ◌∣◌, many}

-- a member of the class
abbrev pub sample : Class → ℕ
sample (the x) = x
sample digit = code "0"
sample local_escape = code "_"
sample escape_letter = code "t"
sample k = code "a"

-- whether it matches the empty text
abbrev pub nullable : Regex → Bool
nullable empty = true
nullable (r · s) = nullable r && nullable s
nullable (r ∣ s) = nullable r || nullable s
nullable (many r) = true
nullable r = false

-- what is left to match after the character c
abbrev pub after : Regex → ℕ → Regex
after (one k) c = cond (has k c) empty nothing
after (r · s) c = cond (nullable r) (after r c · s ∣ after s c) (after r c · s)
after (r ∣ s) c = after r c ∣ after s c
after (many r) c = after r c · many r
after r c = nothing

-- whether it matches some text
abbrev pub possible : Regex → Bool
possible nothing = false
possible (one k) = has k (sample k)
possible (r · s) = possible r && possible s
possible (r ∣ s) = possible r || possible s
possible r = true

-- whether it matches some text that is not empty
abbrev pub longer : Regex → Bool
longer (one k) = has k (sample k)
longer (r · s) = possible r && possible s && (longer r || longer s)
longer (r ∣ s) = longer r || longer s
longer (many r) = longer r
longer r = false

-- what is left to match after a text
abbrev pub after_all : Regex → List ℕ → Regex
after_all r [] = r
after_all r (c ∷ w) = after_all (after r c) w

-- White space and comments: whether a comment is open after them.
use Rattle.std.specs.Prelude.{◌≡◌, ◌<◌, take, count_by, ℕ, Bool, true, false, cond, List, [], ◌∷◌, ◌==◌, ◌&&◌, nat_lt, not, is_some, length, get_or, Option, Some, None}
use Rattle.rdf_terms.specs.declared.kind.Dialect.{Dialect}
use Rattle.rdf_terms.specs.declared.kind.Dialect.TheVariants.{Turtle}
use Rattle.rdf_terms.specs.Runs.{is_comment_byte}
use Rattle.rdf_tokens.specs.Tokens.{blank, is_line_end, is_space}

-- where a character of white space or of a comment leads: whether a comment is open after it
abbrev pub comment_step : Dialect → Bool → ℕ → Option Bool
comment_step d false c = cond (is_space d c) (Some false) (cond (c == 35) (Some true) None)
comment_step d true c = cond (is_line_end c) (cond (is_space d c) (Some false) None) (Some true)

-- all of the text is white space and comments, and a comment is open at its end; the test says that it begins in a comment
abbrev pub comment_after : Dialect → Bool → List ℕ → Bool
comment_after d b [] = b
comment_after d false (c ∷ w) = cond (is_space d c) (comment_after d false w) (cond (c == 35) (comment_after d true w) false)
comment_after d true (c ∷ w) = cond (is_line_end c) (cond (is_space d c) (comment_after d false w) false) (comment_after d true w)

-- a byte that an open comment goes on with; none, where no comment is open
abbrev pub goes_on : Bool → ℕ → Bool
goes_on b c = b && is_comment_byte c

-- a comment is open up to the end of the bytes
abbrev pub is_cut : Bool → List ℕ → ℕ → Bool
is_cut b bs end = b && end == length bs

-- neither white space of Turtle nor the beginning of a comment stands at a place, but some other byte
abbrev pub is_bare : List ℕ → ℕ → Bool
is_bare bs at = nat_lt at (length bs) && not (is_some (comment_step Turtle false (get_or bs at 0)))

-- '#' stands at a place
abbrev pub is_hash : List ℕ → ℕ → Bool
is_hash bs at = nat_lt at (length bs) && get_or bs at 0 == 35

-- where they are any, so many bytes are all the white space of Turtle that comes first, no comment comes after them, and so many are line feeds
abbrev pub IsIndentation : List ℕ → ℕ → ℕ → Type 0
IsIndentation bs n feeds = 0 < n → (blank Turtle false bs ≡ n) × (comment_after Turtle false bs ≡ false) × (count_by (λ b. b == 10) (take n bs) ≡ feeds)

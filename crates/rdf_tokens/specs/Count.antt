-- The bytes that begin a character in UTF-8.
use Rattle.std.specs.Prelude.{ℕ, Bool, ◌||◌, nat_lt, nat_le}

-- ASCII, and the first of several bytes
abbrev pub is_start : ℕ → Bool
is_start b = nat_lt b 128 || nat_le 192 b

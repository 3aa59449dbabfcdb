-- The sizes that a reader keeps to.
use Rattle.std.specs.Prelude.{ℕ, ◌≤◌, ◌^◌}

-- the limits that a user may set; a document that passes one of them is refused
pub record Sizes : Type 0 where
  -- the characters of one token
  pub token : ℕ
  -- the brackets and parentheses open at one time
  pub depth : ℕ
  -- the prefixes bound at one time
  pub bindings : ℕ
  -- the bytes of one IRI
  pub iri : ℕ

-- the sizes for which there are limits
pub record InRange (s : Sizes) : Type 0 where
  pub some_token : 1 ≤ s.token
  pub token : s.token ≤ 2 ^ 28
  pub depth : s.depth ≤ 2 ^ 20
  pub bindings : s.bindings ≤ 2 ^ 24
  pub some_iri : 1 ≤ s.iri
  pub iri : s.iri ≤ 2 ^ 28

-- the sizes where none are asked for
abbrev pub default_sizes : Sizes
default_sizes = record { token = 2 ^ 24; depth = 2 ^ 10; bindings = 2 ^ 16; iri = 2 ^ 20 }

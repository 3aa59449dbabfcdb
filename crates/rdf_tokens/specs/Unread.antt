-- A scanner as its callers see it: what it has still to read.
use Rattle.std.specs.Prelude.{ℕ, Bool, List}
use Rattle.rdf_terms.specs.declared.kind.Dialect.{Dialect}
use Rattle.rdf_tokens.specs.Tokens.{Place}

-- the state of a scanner without its buffers: what has come and is not read, where it stands, and what may still come
pub record Unread : Type 0 where
  pub dialect : Dialect
  pub limit : ℕ
  -- the place of the text
  pub place : Place
  -- the input's first character has been looked at
  pub begun : Bool
  -- the text begins in a comment
  pub comment : Bool
  -- the characters that came whole
  pub text : List ℕ
  -- the bytes after them, which begin a character
  pub pending : List ℕ
  -- bytes that can begin no character stand after the text
  pub broken : Bool
  -- the place after all bytes that were taken
  pub taken : Place
  -- no more bytes come
  pub ended : Bool
  -- a fault was reported, or the end was given
  pub stopped : Bool
  -- how many bytes the texts have that are held, also the text that was read, which stays until the next piece comes
  pub held : ℕ

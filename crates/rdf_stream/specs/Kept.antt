-- What is kept of the bytes of a document, to tell of a place.
use Rattle.std.specs.Prelude.{◌≡◌, ℕ, List, ◌++◌, length}
use Rattle.rdf_stream.specs.Places.{column_after}

-- the bytes that are kept, how many came before them, and the column of the first of them
pub record Kept : Type 0 where
  pub offset : ℕ
  pub column : ℕ
  pub bytes : List ℕ

-- These bytes came. The last of them are kept, and the column after the others is known.
pub record Watches (kept : Kept) (bytes : List ℕ) : Type 0 where
  pub gone : List ℕ
  pub whole : bytes ≡ gone ++ kept.bytes
  pub offset : kept.offset ≡ length gone
  pub column : kept.column ≡ column_after 1 gone

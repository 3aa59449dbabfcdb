-- Bytes that a reader passes, since it is known how they are read.
use Rattle.std.specs.Prelude.{◌≡◌, ◌+◌, ◌&&◌, ℕ, Bool, not, nat_le, List, ◌++◌, length}
use Rattle.std.specs.Str.{chars, IsUtf8}
use Rattle.rdf_tokens.specs.Tokens.{Token}
use Rattle.rdf_tokens.specs.Scans.{most_bytes}
use Rattle.rdf_tokens.specs.Passing as Scan
use Rattle.rdf_tokens.specs.Passing.{is_idle, Spells}
use Rattle.rdf_driver.specs.Words.{Words}
use Rattle.rdf_driver.specs.Readers.{Driven, HasRead}

-- The reader goes on, stands between two tokens, and so many bytes more are not too many.
abbrev pub can_pass : {G : Type 0} → Driven G → ℕ → Bool
can_pass r len = not r.done && (is_idle r.scanner && nat_le (r.scanner.taken.offset + len) most_bytes)

-- the reader after bytes of so many quads and tokens, at which its grammar did not look
abbrev pub passed : {G : Type 0} → Driven G → List ℕ → ℕ → ℕ → Driven G
passed r bytes quads tokens = record {
  scanner = Scan.passed r.scanner bytes;
  grammar = r.grammar;
  so_far = record { quads = r.so_far.quads + quads; tokens = r.so_far.tokens + tokens; bytes = r.so_far.bytes + length bytes };
  done = r.done;
  found = r.found;
}

-- The bytes spell so many tokens, which give these quads and lead the grammar back to where it is.
pub record LeadsBack {G X I : Type 0} (w : Words G X I) (r : Driven G) (bytes : List ℕ) (quads : List I) (tokens : ℕ) : Type 0 where
  pub utf8 : IsUtf8 bytes
  pub spelled : List Token
  pub count : tokens ≡ length spelled
  pub spells : Spells w.dialect r.scanner.limit r.scanner.place (chars bytes) spelled
  pub reached : (x : X) (ts : List Token) (qs : List I) → w.reached r.grammar x ts qs → w.reached r.grammar x (ts ++ spelled) (qs ++ quads)

-- Whatever the reader has read, it has read these bytes too, which spell so many tokens and give so many quads.
abbrev pub IsReadOn : {G X I : Type 0} → Words G X I → Driven G → List ℕ → ℕ → ℕ → Driven G → Type 0
IsReadOn {G} {X} {I} w old bytes quads tokens new = (more : List I) → quads ≡ length more → LeadsBack w old bytes more tokens →
    (x : X) (before : List ℕ) (given : List I) → HasRead w old x before given → HasRead w new x (before ++ bytes) (given ++ more)

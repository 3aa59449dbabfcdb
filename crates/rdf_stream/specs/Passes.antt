-- What passing text does to a reader.
use Rattle.std.specs.Prelude.{◌≡◌, List, ◌++◌, ℕ}
use Rattle.rdf_terms.specs.Terms.{Quad}
use Rattle.rdf_driver.specs.Readers.{Driven, HasRead}
use Rattle.rdf_driver.specs.Words.{Words}
use Rattle.rdf_lines.specs.declared.form.Style.{Style}
use Rattle.rdf_lines.specs.Writing.{Writable}
use Rattle.rdf_stream.specs.Languages.{lines_of}
use Rattle.rdf_stream.specs.WrittenForms.{plain}

-- A reader has passed some bytes, for which others are written: these are the plain lines of some quads, and it has read the bytes and these quads.
pub record PassesText {G X : Type 0} (w : Words G X Quad) (style : Style) (written : List ℕ) (old : Driven G) (bytes : List ℕ) (new : Driven G) : Type 0 where
  pub given : List Quad
  pub is : written ≡ lines_of (plain style) given
  pub writable : Writable style given
  pub limit : new.scanner.limit ≡ old.scanner.limit
  pub read : (x : X) (before : List ℕ) (quads : List Quad) → HasRead w old x before quads → HasRead w new x (before ++ bytes) (quads ++ given)

-- The same, and what is written was appended.
pub record RewritesText {G X : Type 0} (w : Words G X Quad) (style : Style) (old : Driven G) (bytes : List ℕ) (new : Driven G) (before after : List ℕ) : Type 0 where
  pub written : List ℕ
  pub appended : after ≡ before ++ written
  pub passes : PassesText w style written old bytes new

-- The lines of a document in a line format, and what is left of it without its bad lines.
use Rattle.std.specs.Prelude.{◌≡◌, ◌↔◌, ◌⊎◌, ℕ, ◌≤◌, Bool, true, false, cond, List, [], ◌∷◌, ◌++◌, length}
use Rattle.std.specs.List.{concat}
use Rattle.rdf_terms.specs.Terms.{Quad}
use Rattle.rdf_tokens.specs.Tokens.{is_line_end}
use Rattle.rdf_tokens.specs.Good.{good, has_byte_order_mark, most_bytes}
use Rattle.rdf_tokens.specs.Grammars.{Language, IsDocumentOf, IsWithin}
use Rattle.rdf_lines.specs.declared.form.LineForm.{LineForm}
use Rattle.rdf_lines.specs.Documents.{in_lines}

-- a byte more, in front of the first of the lines
abbrev pub put_byte : ℕ → List (List ℕ) → List (List ℕ)
put_byte b [] = (b ∷ []) ∷ []
put_byte b (l ∷ ls) = (b ∷ l) ∷ ls

-- The lines of some bytes, each with its end: each CR and each LF ends one, so between CR and LF an empty one lies. What comes after the last
-- end is a line too, where it has a byte.
abbrev pub split_lines : List ℕ → List (List ℕ)
split_lines [] = []
split_lines (b ∷ w) = cond (is_line_end b) ((b ∷ []) ∷ split_lines w) (put_byte b (split_lines w))

-- The bytes are a document of the language within its limits, and these are its quads.
pub record IsDocumentWithin (l : Language) (bytes : List ℕ) (qs : List Quad) : Type 0 where
  pub document : IsDocumentOf l bytes qs
  pub within : IsWithin l bytes

-- A line is good where it is such a document by itself. Only the first line of a document may begin with a byte order mark.
pub record IsGoodLine (l : Language) (first : Bool) (line : List ℕ) (qs : List Quad) : Type 0 where
  pub accepted : IsDocumentWithin l line qs
  pub marked : first ≡ false → has_byte_order_mark (good line) ≡ false

-- any other is bad
abbrev pub IsBadLine : Language → Bool → List ℕ → Type 0
IsBadLine l first line = (qs : List Quad) → IsGoodLine l first line qs → ⊥

-- the lines are good, and these are their quads in order; the test says that the first of them is the first of the document
abbrev pub AreGoodLines : Language → Bool → List (List ℕ) → List Quad → Type 0
AreGoodLines l first [] qs = qs ≡ []
AreGoodLines l first (x ∷ xs) qs = (ps rs : List Quad) × IsGoodLine l first x ps × AreGoodLines l false xs rs × (qs ≡ ps ++ rs)

-- a good line and what is sifted after it
pub record SiftsGood (l : Language) (first : Bool) (line : List ℕ) (more : List (List ℕ) → List Quad → Type 0) (kept : List (List ℕ)) (qs : List Quad) : Type 0 where
  pub kept_after : List (List ℕ)
  pub quads : List Quad
  pub quads_after : List Quad
  pub is_good : IsGoodLine l first line quads
  pub after : more kept_after quads_after
  pub lines : kept ≡ line ∷ kept_after
  pub all : qs ≡ quads ++ quads_after

-- a bad line and what is sifted after it
pub record SiftsBad (l : Language) (first : Bool) (line : List ℕ) (more : List (List ℕ) → Type 0) (bad : List (List ℕ)) : Type 0 where
  pub bad_after : List (List ℕ)
  pub is_bad : IsBadLine l first line
  pub after : more bad_after
  pub lines : bad ≡ line ∷ bad_after

-- The lines are sifted: those that are good, and their quads; and those that are bad, each in the order in which they stand.
abbrev pub Sifts : Language → Bool → List (List ℕ) → List (List ℕ) → List (List ℕ) → List Quad → Type 0
Sifts l first [] kept bad qs = (kept ≡ []) × (bad ≡ []) × (qs ≡ [])
Sifts l first (x ∷ xs) kept bad qs =
    SiftsGood l first x (λ ks rs. Sifts l false xs ks bad rs) kept qs ⊎ SiftsBad l first x (λ bs. Sifts l false xs kept bs qs) bad

-- Some bytes are a document within the limits exactly where each of their lines is, and its quads are those of its lines in order.
abbrev pub DocumentsAreTheirLines : Type 0
DocumentsAreTheirLines = (form : LineForm) (limit iri : ℕ) (bytes : List ℕ) (qs : List Quad) → length bytes ≤ most_bytes →
    IsDocumentWithin (in_lines form limit iri) bytes qs ↔ AreGoodLines (in_lines form limit iri) true (split_lines bytes) qs

-- Without the bad lines of some bytes the others are a document within the limits, and its quads are theirs in order.
abbrev pub GoodLinesAreRead : Type 0
GoodLinesAreRead = (form : LineForm) (limit iri : ℕ) (bytes : List ℕ) (kept bad : List (List ℕ)) (qs : List Quad) → length bytes ≤ most_bytes →
    Sifts (in_lines form limit iri) true (split_lines bytes) kept bad qs → IsDocumentWithin (in_lines form limit iri) (concat kept) qs

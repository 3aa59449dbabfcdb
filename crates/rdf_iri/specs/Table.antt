-- The table of a row of many prefixes: slots by a hash of the prefix, each with a place of the row.
use Rattle.std.specs.Prelude.{◌≡◌, ℕ, ◌+◌, ◌*◌, ◌/◌, ◌%◌, ◌<◌, ◌≤◌, List, [], ◌∷◌, length, get_or, slice_index, String, None}
use Rattle.std.specs.String.{string_bytes}
use Rattle.std.specs.Str.{chars}
use Rattle.rdf_iri.specs.Scope.{bound_to}
use Rattle.rdf_iri.specs.Prefixes.{entries_of, KeptApart}

-- the hash of bytes, after others with this one
abbrev pub hash_of : ℕ → List ℕ → ℕ
hash_of h [] = h
hash_of h (c ∷ w) = hash_of ((h + c) * 2654435761 % 4294967296) w

-- the first of the slots that a prefix with this hash may have
abbrev pub first_slot : ℕ → ℕ
first_slot h = 4 * (h % 32768)

-- what a slot has beside its place
abbrev pub mark_of : ℕ → ℕ
mark_of h = h / 65536 * 65536

-- a slot has this mark and this place
pub record Names (slot mark place : ℕ) : Type 0 where
  pub small : place < 65536
  pub value : slot ≡ mark + place

-- one of the slots that the prefix may have names its place
pub record HasSlot (slots prefix : List ℕ) (place : ℕ) : Type 0 where
  pub way : ℕ
  pub near : way < 4
  pub sized : length slots ≡ 131072
  pub names : Names (slice_index slots (first_slot (hash_of 0 prefix) + way)) (mark_of (hash_of 0 prefix)) place

-- a slot names no place, and is one of four
pub record IsFree (slots : List ℕ) (first slot : ℕ) : Type 0 where
  pub way : ℕ
  pub near : way < 4
  pub there : slot ≡ first + way
  pub free : slice_index slots slot ≡ 0

-- the prefixes of a row, as bytes
abbrev pub keys_of : {Z : Type 0} → List (String Z × List ℕ) → List (List ℕ)
keys_of [] = []
keys_of (e ∷ row) = string_bytes e.0 ∷ keys_of row

-- the prefix stands at this place of the row
pub record IsKeyAt {Z : Type 0} (row : List (String Z × List ℕ)) (prefix : List ℕ) (place : ℕ) : Type 0 where
  pub within : place < length row
  pub same : get_or (keys_of row) place [] ≡ prefix

-- each prefix of the row but the first sixteen has a slot
abbrev pub HaveSlots : {Z : Type 0} → List ℕ → List (String Z × List ℕ) → Type 0
HaveSlots slots row = (place : ℕ) → 16 ≤ place → place < length row → HasSlot slots (get_or (keys_of row) place []) place

-- no slot is lost
abbrev pub KeepsSlots : List ℕ → List ℕ → Type 0
KeepsSlots old new = (prefix : List ℕ) (place : ℕ) → 0 < place → HasSlot old prefix place → HasSlot new prefix place

-- what is true of the slots, the row and the other entries
pub record Kept {Z : Type 0} (slots : List ℕ) (row others : List (String Z × List ℕ)) : Type 0 where
  pub apart : KeptApart (entries_of row) (entries_of others)
  pub placed : HaveSlots slots row

-- the prefix may come next in the row
pub record IsNext {Z : Type 0} (slots : List ℕ) (row others : List (String Z × List ℕ)) (prefix : List ℕ) : Type 0 where
  pub new : bound_to (entries_of others) (chars prefix) ≡ None
  pub slot : 16 ≤ length row → HasSlot slots prefix (length row)

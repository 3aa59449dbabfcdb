-- What the code's way from escape to escape in a token's inside means.
use Rattle.std.specs.Prelude.{◌≡◌, ℕ, ◌+◌, ◌≤◌, ◌==◌, ◌&&◌, ◌⊎◌, nat_le, Bool, true, cond, List, ◌++◌, length, get_or, drop, slice_range, Option, Some, None, option_map}
use Rattle.std.specs.Option.{MatchOption}
use Rattle.std.specs.Str.{chars, IsUtf8}
use Rattle.rdf_terms.specs.Classes.{has, scalar}
use Rattle.rdf_terms.specs.Classes.Class.{hex_digit, iri_char}
use Rattle.rdf_terms.specs.Pieces.{hex_number}
use Rattle.rdf_terms.specs.Runs.{PassBetween, is_unescaped}
use Rattle.rdf_terms.specs.declared.runs.Run.{Run}
use Rattle.rdf_terms.specs.declared.runs.Run.TheVariants.{Iri, Unescaped}
use Rattle.rdf_terms.specs.declared.values.Inside.{Inside as CodeInside}
use Rattle.rdf_terms.specs.declared.values.Inside.TheVariants.{OfString, OfIri}
use Rattle.rdf_terms.specs.Values.{Inside, of_string, of_iri, Move, outside, means, fails, go, hex_value, value}

-- the kind of text with escapes for which the code has this name
abbrev pub inside_of : CodeInside → Inside
inside_of OfString = of_string
inside_of OfIri = of_iri

-- the run of what stands between the escapes as it is
abbrev pub run_of : Inside → Run
run_of of_string = Unescaped
run_of of_iri = Iri

-- the characters that stand there as they are
abbrev pub stands : Inside → ℕ → Bool
stands of_string c = is_unescaped c
stands of_iri c = has iri_char c

-- a character may be meant
abbrev pub may_mean : Inside → ℕ → Bool
may_mean of_string c = true
may_mean of_iri c = has iri_char c

-- the character that an escape means and where it ends, where that may be meant
abbrev pub allowed_in : Inside → Option (ℕ × ℕ) → Option (ℕ × ℕ)
allowed_in i None = None
allowed_in i (Some x) = cond (may_mean i x.0) (Some x) None

-- the character that a move completes, where it completes one
abbrev pub completes : Option ℕ → Move
completes None = fails
completes (Some c) = means c

-- the value of a text from one of its bytes on, after this move
abbrev pub value_after : Inside → Move → List ℕ → ℕ → Option (List ℕ)
value_after i m bs at = go m (λ s. value i s (chars (drop at bs)))

-- after this move at a byte an escape goes on up to another, and means this character
pub record IsRead (i : Inside) (m : Move) (bs : List ℕ) (at c end : ℕ) : Type 0 where
  pub from : at ≤ end
  pub within : end ≤ length bs
  pub utf8 : IsUtf8 (drop end bs)
  pub character : scalar c ≡ true
  pub value : value_after i m bs at ≡ value_after i (means c) bs end

-- the rest of an escape was read, or it is bad
abbrev pub Reads : Inside → Move → List ℕ → ℕ → Option (ℕ × ℕ) → Type 0
Reads i m bs at r = MatchOption r (value_after i m bs at ≡ None) (λ x. IsRead i m bs at x.0 x.1)

-- what a byte counts as a hex digit, or more than four digits write where it is none
abbrev pub digit_or_none : ℕ → ℕ
digit_or_none b = cond (has hex_digit b) (hex_value b) 65536

-- a backslash and this letter stand at a place, in so many bytes from there on
abbrev pub begins : List ℕ → ℕ → ℕ → ℕ → Bool
begins bs at letter room = nat_le (at + room) (length bs) && (get_or bs at 0 == 92 && get_or bs (at + 1) 0 == letter)

-- so many hex digits stand between two places
pub record IsHexes (bs : List ℕ) (from count end : ℕ) : Type 0 where
  pub ends : end ≡ from + count
  pub within : end ≤ length bs
  pub hexes : PassBetween (has hex_digit) bs from end

-- a UCHAR with this letter and so many digits does: a backslash, the letter, and the number of a character
pub record IsUcharOf (u count : ℕ) (bs : List ℕ) (at end : ℕ) : Type 0 where
  pub slash : get_or bs at 0 ≡ 92
  pub letter : get_or bs (at + 1) 0 ≡ u
  pub digits : IsHexes bs (at + 2) count end
  pub character : scalar (hex_number (slice_range bs (at + 2) end)) ≡ true

-- one with four digits or with eight does
abbrev pub IsUchar : List ℕ → ℕ → ℕ → Type 0
IsUchar bs at end = IsUcharOf 117 4 bs at end ⊎ IsUcharOf 85 8 bs at end

-- the character of the UCHAR at a place, and where it ends, or none where none of this kind is there
abbrev pub UcharAt : (List ℕ → ℕ → ℕ → Type 0) → List ℕ → ℕ → Option (ℕ × ℕ) → Type 0
UcharAt is bs at r = MatchOption r ((end : ℕ) → is bs at end → ⊥) (λ x. is bs at x.1 × (x.0 ≡ hex_number (slice_range bs (at + 2) x.1)))

-- what was built before what is left
abbrev pub with_front : List ℕ → Option (List ℕ) → Option (List ℕ)
with_front out o = option_map (λ w. chars out ++ w) o

-- what stands from one place up to another was put after what was built before
pub record IsPutUpTo (i : Inside) (bs before after : List ℕ) (at end : ℕ) : Type 0 where
  pub from : at ≤ end
  pub within : end ≤ length bs
  pub utf8 : IsUtf8 (drop end bs)
  pub value : with_front before (value i outside (chars (drop at bs))) ≡ with_front after (value i outside (chars (drop end bs)))

-- that was done up to where escapes end, or one is bad
abbrev pub IsPut : Inside → List ℕ → List ℕ → List ℕ → ℕ → Option ℕ → Type 0
IsPut i bs before after at r = MatchOption r (value i outside (chars (drop at bs)) ≡ None) (λ end. IsPutUpTo i bs before after at end)

-- Labels, prefixes and tags, read character by character.
use Rattle.std.specs.Prelude.{ℕ, Bool, true, false, cond, List, [], ◌∷◌, ◌&&◌, ◌||◌, Option, Some, None}
use Rattle.rdf_terms.specs.Classes.{has}
use Rattle.rdf_terms.specs.Classes.Class.{the, digit, letter, letter_or_digit, pn_u, pn_char}
use Rattle.rdf_terms.specs.declared.kind.Dialect.{Dialect}
use Rattle.rdf_terms.specs.declared.kind.Dialect.TheVariants.{Lines}
use Rattle.rdf_terms.specs.declared.tags.Place.{Place as CodePlace}
use Rattle.rdf_terms.specs.declared.tags.Place.TheVariants.{Start, Letters, Hyphen, Part}

-- the first character of a blank node label, after `_:`, in the line formats: PN_CHARS_U | [0-9]
abbrev pub begins_label : ℕ → Bool
begins_label c = has (pn_u Lines) c || has digit c

-- the rest of a label or a prefix, where the characters before it may or may not be its end
abbrev pub name_goes_on : Dialect → Bool → List ℕ → Bool
name_goes_on d ends [] = ends
name_goes_on d ends (c ∷ w) = cond (has (pn_char d) c) (name_goes_on d true w) (has (the 46) c && name_goes_on d false w)

-- where a character of a tag stands: at the start, after letters of the first part, a hyphen, or what stands in a later part
pub data Place : Type 0 where
  start : Place
  letters : Place
  hyphen : Place
  part : Place

-- the place after one more character of a LANGTAG, or none where the character may not follow
abbrev pub after_tag : Place → ℕ → Option Place
after_tag start c = cond (has letter c) (Some letters) None
after_tag letters c = cond (has letter c) (Some letters) (cond (has (the 45) c) (Some hyphen) None)
after_tag hyphen c = cond (has letter_or_digit c) (Some part) None
after_tag part c = cond (has letter_or_digit c) (Some part) (cond (has (the 45) c) (Some hyphen) None)

-- a LANGTAG may end here: not where it is empty, and not right after a hyphen
abbrev pub ends_tag : Place → Bool
ends_tag start = false
ends_tag letters = true
ends_tag hyphen = false
ends_tag part = true

-- a place passes the test; where there is none, because a character may not follow, the tag is refused
abbrev pub if_some : Option Place → (Place → Bool) → Bool
if_some None test = false
if_some (Some p) test = test p

-- from this place on the text completes a LANGTAG, which is [a-zA-Z]+ ('-' [a-zA-Z0-9]+)*
abbrev pub tag_goes_on : Place → List ℕ → Bool
tag_goes_on p [] = ends_tag p
tag_goes_on p (c ∷ w) = if_some (after_tag p c) (λ q. tag_goes_on q w)

-- the place that the code's scan of a language tag has reached
abbrev pub place_of : CodePlace → Place
place_of Start = start
place_of Letters = letters
place_of Hyphen = hyphen
place_of Part = part

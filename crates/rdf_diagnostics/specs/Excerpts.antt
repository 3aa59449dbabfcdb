-- The line of a document near a place, as it is shown, with a caret under the place.
use Prim.Native.Char.{code}
use Rattle.std.specs.Prelude.{codes, ℕ, ◌-◌, Bool, cond, not, ◌&&◌, ◌||◌, ◌==◌, nat_eq, nat_lt, List, [], ◌∷◌, ◌++◌, map, length, take, drop, encode_utf8_all}
use Rattle.std.specs.Char.{is_control}
use Rattle.std.specs.Int.{is_in_range}
use Rattle.std.specs.List.{ends_with}
use Rattle.std.specs.Str.{chars}
use Rattle.std.specs.Str.Lossy.{utf8_lossy}

-- a character that turns the direction of text (ALM, LRM, RLM, LRE to RLO, LRI to PDI), separates lines or paragraphs, or is U+FEFF
abbrev pub is_unseen : ℕ → Bool
is_unseen c = c == 0x061C || (is_in_range 0x200E 0x200F c || (is_in_range 0x2028 0x202E c || (is_in_range 0x2066 0x2069 c || c == 0xFEFF)))

-- a character that a terminal could act upon: a control character that is no tab, or one of those
abbrev pub is_hidden : ℕ → Bool
is_hidden c = is_control c && not (c == 9) || is_unseen c

-- what is shown of a character: U+FFFD for one that is hidden
abbrev pub shown : ℕ → ℕ
shown c = cond (is_hidden c) 0xFFFD c

-- what stands under it: a tab under a tab, a space under any other
abbrev pub under : ℕ → ℕ
under c = cond (c == 9) 9 32

-- the characters that are shown of bytes: what is no UTF-8 is U+FFFD too
abbrev pub shown_of : List ℕ → List ℕ
shown_of bytes = map shown (chars (utf8_lossy bytes))

-- the last 60 of some characters, after `…` where there are more
abbrev pub last_60 : List ℕ → List ℕ
last_60 cs = cond (nat_lt 60 (length cs)) (0x2026 ∷ drop (length cs - 60) cs) cs

-- the first 60, before `…` where there are more
abbrev pub first_60 : List ℕ → List ℕ
first_60 cs = cond (nat_lt 60 (length cs)) (take 60 cs ++ 0x2026 ∷ []) cs

-- bytes without a CR at their end
abbrev pub without_cr : List ℕ → List ℕ
without_cr bytes = cond (ends_with nat_eq bytes (codes "\r")) (take (length bytes - 1) bytes) bytes

-- two lines: what is shown in front of the place and after it, and the caret (94) under the place
abbrev pub with_caret : List ℕ → List ℕ → List ℕ
with_caret front back = front ++ (back ++ (code "\n" ∷ (map under front ++ codes "^\n")))

-- The text of these lines, where a document's line has some bytes before the place and some from there on.
abbrev pub excerpt_text : List ℕ → List ℕ → List ℕ
excerpt_text before after = encode_utf8_all (with_caret (last_60 (shown_of before)) (first_60 (shown_of (without_cr after))))

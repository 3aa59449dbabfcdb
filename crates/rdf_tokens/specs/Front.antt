-- Fronts of a text: the longest that is a token, by characters and by bytes.
use Rattle.std.specs.Prelude.{ℕ, zero, suc, Bool, true, false, cond, ◌&&◌, ◌≡◌, ◌<◌, ◌≤◌, nat_lt, get_or, List, [], ◌∷◌, length, take, drop, encode_utf8, encode_utf8_all, Option, Some, None}
use Rattle.std.specs.Str.{chars, IsUtf8}
use Rattle.rdf_terms.specs.declared.kind.Dialect.{Dialect}
use Rattle.rdf_terms.specs.declared.kind.Kind.{Kind}
use Rattle.rdf_tokens.specs.declared.states.machine.State.{State}
use Rattle.rdf_tokens.specs.declared.states.machine.State.TheVariants.{Start}
use Rattle.rdf_tokens.specs.Machines.{run}
use Rattle.rdf_tokens.specs.Machine.{step, kind_at, goes_on}
use Rattle.rdf_tokens.specs.Tokens.{with_length, three_quotes, only_long}
use Rattle.rdf_tokens.specs.Fixed.{Row, fits}

-- how many bytes the first n characters have
abbrev pub bytes_of : ℕ → List ℕ → ℕ
bytes_of n w = length (encode_utf8_all (take n w))

-- a front with its length in bytes
abbrev pub in_bytes : List ℕ → Option (ℕ × Kind) → Option (ℕ × Kind)
in_bytes w None = None
in_bytes w (Some x) = Some (bytes_of x.0 w, x.1)

-- the longest front that has a kind, of at most n characters
abbrev pub longest_by : (List ℕ → Option Kind) → List ℕ → ℕ → Option (ℕ × Kind)
longest_by kind w zero = None
longest_by kind w (suc n) = with_length (suc n) (kind (take (suc n) w)) (longest_by kind w n)

-- the longer of two fronts, the first of two of one length
abbrev pub longer_front : Option (ℕ × Kind) → Option (ℕ × Kind) → Option (ℕ × Kind)
longer_front None o = o
longer_front (Some x) None = Some x
longer_front (Some x) (Some y) = cond (nat_lt x.0 y.0) (Some y) (Some x)

-- a spelling stands at the front of a text
abbrev pub begins : Bool → List ℕ → List ℕ → Bool
begins b [] w = true
begins b (c ∷ s) [] = false
begins b (c ∷ s) (x ∷ w) = fits b c x && begins b s w

-- the longest spelling that stands at the front
abbrev pub row_front : Row → List ℕ → Option (ℕ × Kind)
row_front r w = cond (begins r.any_case r.text w) (Some (length r.text, r.kind)) None

-- the longest of the spellings that stand at the front, with its kind
abbrev pub front_by : List Row → List ℕ → Option (ℕ × Kind)
front_by [] w = None
front_by (r ∷ rs) w = longer_front (row_front r w) (front_by rs w)

-- the spellings that begin with a character
abbrev pub at_first : ℕ → List Row → List Row
at_first x [] = []
at_first x (r ∷ rs) = cond (begins r.any_case (take 1 r.text) (x ∷ [])) (r ∷ at_first x rs) (at_first x rs)

-- the byte at which the character n of a text begins, or the text ends
pub record IsAt (bs : List ℕ) (at n : ℕ) : Type 0 where
  pub inside : at ≤ length bs
  pub count : n ≤ length (chars bs)
  pub utf8 : IsUtf8 (drop at bs)
  pub left : drop n (chars bs) ≡ chars (drop at bs)
  pub bytes : at ≡ bytes_of n (chars bs)

-- the state after a text
abbrev pub state_of : Dialect → List ℕ → State
state_of d u = run (step d) Start u

-- the kind of a front of a text by the states
abbrev pub kind_by_states : Dialect → List ℕ → List ℕ → Option Kind
kind_by_states d w u = only_long (three_quotes d w) (kind_at (state_of d u))

-- the same where the states have come to this one
abbrev pub kind_here : Dialect → List ℕ → State → Option Kind
kind_here d bs s = only_long (three_quotes d (chars bs)) (kind_at s)

-- a state after which more may come
abbrev pub open_state : Dialect → State → Option State
open_state d s = cond (goes_on d s) (Some s) None

-- the states have come to a byte: the state there, and the longest front so far
pub record Reached (d : Dialect) (bs : List ℕ) (at : ℕ) (s : State) (best : Option (ℕ × Kind)) : Type 0 where
  pub n : ℕ
  pub here : IsAt bs at n
  pub state : s ≡ state_of d (take n (chars bs))
  pub front : best ≡ in_bytes (chars bs) (longest_by (kind_by_states d (chars bs)) (chars bs) n)

-- The states have come to a byte that is past the first, and before it the longest front has this length and this kind.
abbrev pub HasBegun : Dialect → List ℕ → ℕ → State → ℕ → Option Kind → Type 0
HasBegun d bs at s len kind = Reached d bs at s (with_length at (kind_here d bs s) (with_length len kind None))

-- By the states, the longest front of the bytes that has a kind has this length and this kind; without a kind there is no such front.
abbrev pub IsLongestByStates : Dialect → List ℕ → ℕ → Option Kind → Type 0
IsLongestByStates d bs len kind =
    with_length len kind None ≡ in_bytes (chars bs) (longest_by (kind_by_states d (chars bs)) (chars bs) (length (chars bs)))

-- The bytes between two places lead from a state back to it, and no token ends between them: where the states have come to the one
-- place with it, they have come to the other, and the longest front so far is the same but for what ends where they are.
pub record Rests (s : State) (bs : List ℕ) (at end : ℕ) : Type 0 where
  pub from : at ≤ end
  pub within : end ≤ length bs
  pub on : (d : Dialect) (b : Option (ℕ × Kind)) → Reached d bs at s (with_length at (kind_here d bs s) b) →
      Reached d bs end s (with_length end (kind_here d bs s) b)

-- The bytes between two places leave a state as it is: whichever character begins with one of them, the state after it is the same.
-- The characters there are whole.
pub record Stays (s : State) (bs : List ℕ) (at end : ℕ) : Type 0 where
  pub from : at ≤ end
  pub within : end ≤ length bs
  pub stays : (d : Dialect) (k c : ℕ) → at ≤ k → k < end → get_or (encode_utf8 c) 0 0 ≡ get_or bs k 0 → step d s c ≡ s
  pub whole : (k : ℕ) → at ≤ k → k < end → 128 ≤ get_or bs k 0 → end < length bs → get_or bs end 0 < 128

-- What a look at the front of a text tells of the next step.
use Rattle.std.specs.Prelude.{◌≡◌, ◌≤◌, ℕ, false, cond, List, [], ◌∷◌, length, take, Option, Some, None}
use Rattle.std.specs.Str.{chars, IsCharBoundary}
use Rattle.rdf_terms.specs.declared.kind.Dialect.{Dialect}
use Rattle.rdf_terms.specs.declared.kind.Kind.{Kind}
use Rattle.rdf_terms.specs.Values.{is_fit}
use Rattle.rdf_terms.specs.declared.reason.Reason.TheVariants.{BadUtf8, NoToken, BadEscape, TokenTooLong}
use Rattle.rdf_tokens.specs.declared.look.Tail.{Tail as Following}
use Rattle.rdf_tokens.specs.declared.look.Tail.TheVariants.{GoesOn, Ended, Broken}
use Rattle.rdf_tokens.specs.declared.look.Look.{Look}
use Rattle.rdf_tokens.specs.declared.look.Look.TheVariants.{Undecided, Complete, Stop, Token}
use Rattle.rdf_tokens.specs.Tokens.{Tail, Step, over, step}
use Rattle.rdf_tokens.specs.Tokens.Tail.{goes_on, ended, broken}
use Rattle.rdf_tokens.specs.Tokens.Outcome.{undecided, complete, token_too_long, bad_utf8, no_token, bad_escape}
use Rattle.rdf_tokens.specs.Tokens.Step.{token, stop}
use Rattle.rdf_tokens.specs.Front.{bytes_of}

-- what comes after the text, by the code's name for it
abbrev pub tail_after : Following → Tail
tail_after GoesOn = goes_on
tail_after Ended = ended
tail_after Broken = broken

-- A look tells the step; that of a token has its length in bytes, which lies within the text.
abbrev pub IsLook : Look → Step → List ℕ → Type 0
IsLook Undecided s w = s ≡ stop undecided
IsLook Complete s w = s ≡ stop complete
IsLook (Stop TokenTooLong) s w = s ≡ stop token_too_long
IsLook (Stop BadUtf8) s w = s ≡ stop bad_utf8
IsLook (Stop NoToken) s w = s ≡ stop no_token
IsLook (Stop BadEscape) s w = s ≡ stop bad_escape
IsLook (Stop r) s w = ⊥
IsLook (Token m k) s w = (n : ℕ) × (s ≡ token n k) × (n ≤ length w) × (m ≡ bytes_of n w)

-- the look tells the step where the text is within the limit
abbrev pub IsLookWithin : Dialect → Tail → Look → List ℕ → Type 0
IsLookWithin d t l w = (limit : ℕ) → over d limit w ≡ false → IsLook l (step d limit t w) w

-- A look that tells the step whatever comes after the text. Without one no token is too long.
abbrev pub IsFirstLook : Dialect → ℕ → Option Look → List ℕ → Type 0
IsFirstLook d limit None bs = over d limit (chars bs) ≡ false
IsFirstLook d limit (Some l) bs = (t : Tail) → IsLook l (step d limit t (chars bs)) (chars bs)

-- what is decided by the longest front, in bytes
abbrev pub chosen_by : List ℕ → Option (ℕ × Kind) → Look
chosen_by bs None = Stop NoToken
chosen_by bs (Some x) = cond (is_fit x.1 (chars (take x.0 bs))) (Token x.0 x.1) (Stop BadEscape)

-- the step where no more can come to the front: the input ends where there are no bytes, and otherwise the longest front decides
abbrev pub decided_by : List ℕ → Option (ℕ × Kind) → Look
decided_by [] best = Complete
decided_by (b ∷ bs) best = chosen_by (b ∷ bs) best

-- a front ends where a character does
abbrev pub CutsAt : List ℕ → Option (ℕ × Kind) → Type 0
CutsAt bs None = Unit {0}
CutsAt bs (Some x) = IsCharBoundary bs x.0

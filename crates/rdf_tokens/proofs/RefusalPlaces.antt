-- The place of a refusal is one of the bytes.
use Rattle.rdf_tokens.proofs.Prelude.{◌≡◌, ℕ, ◌+◌, Bool, List, [], ◌∷◌, ◌++◌, length, take, sym, ap, subst, count_by, ◌==◌, arith, All, All-head, All-tail, length-take-le, Reason, BadUtf8, NoToken, BadEscape, TokenTooLong, DocumentTooLong, Memory, Ended, Sink, Place, Outcome, Token, IsPlaceIn, StandsIn, IsTooLong, LanguageOf, Refused, RefusedIn, StopsAt, most_bytes}
use Rattle.rdf_tokens.specs.Grammars.{reading_of}
use Rattle.rdf_tokens.proofs.LawLemmas.{places}

-- a token of a list
all_at : (P : Token → Type 0) (ahead later all : List Token) (t : Token) → all ≡ ahead ++ t ∷ later → All P all → P t
all_at P ahead later all t e h = at ahead (subst (All P) e h)
  where
    at : (ahead : List Token) → All P (ahead ++ t ∷ later) → P t
    at [] h = All-head P t later h
    at (x ∷ ahead) h = at ahead (All-tail P x (ahead ++ t ∷ later) h)

-- A document that is too long has its place in the bytes.
pub too_long_place : (bytes : List ℕ) (at : Place) → IsTooLong bytes at → IsPlaceIn bytes at
too_long_place bytes at x =
    let size : length (take most_bytes bytes) ≡ most_bytes = length-take-le most_bytes bytes (omega arith) in
    let same : take (length (take most_bytes bytes)) bytes ≡ take most_bytes bytes = ap (λ n. take n bytes) size in
    subst (IsPlaceIn bytes) (sym x.1) (record { within = omega arith; line = ap (λ w. 1 + count_by (λ b. b == 10) w) (sym same) })

-- And so has every other refusal.
pub refused_place : {I : Type 0} (l : LanguageOf I) (bytes : List ℕ) (e : Bool) (reason : Reason) (at : Place) →
    Refused l bytes e reason at → IsPlaceIn bytes at
refused_place l bytes e reason at (ahead, h) = by reason h
  where
    stop : (why : Outcome) → StopsAt l (reading_of l bytes e) why at ahead → IsPlaceIn bytes at
    stop why s = subst (IsPlaceIn bytes) s.place (places l.dialect l.limit bytes e).1

    token : (later : List Token) (t : Token) → (reading_of l bytes e).tokens ≡ ahead ++ t ∷ later → t.at ≡ at → IsPlaceIn bytes at
    token later t s p = subst (IsPlaceIn bytes) p
        (all_at (StandsIn bytes) ahead later (reading_of l bytes e).tokens t s (places l.dialect l.limit bytes e).0).place

    by : (reason : Reason) → RefusedIn l (reading_of l bytes e) reason at ahead → IsPlaceIn bytes at
    by BadUtf8 s = stop _ s
    by NoToken s = stop _ s
    by BadEscape s = stop _ s
    by TokenTooLong s = stop _ s
    by DocumentTooLong s = absurd s
    by Memory s = absurd s
    by Ended s = absurd s
    by Sink s = absurd s
    by reason y = token y.after y.token y.tokens y.place

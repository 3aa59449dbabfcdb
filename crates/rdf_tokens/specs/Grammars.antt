-- What belongs to every grammar over tokens whose documents have quads, or other items: which beginnings some document has, and which items are due in them.
use Rattle.std.specs.Prelude.{◌≡◌, ◌≢◌, ℕ, ◌≤◌, ◌<◌, ◌+◌, Bool, true, false, cond, List, [], ◌∷◌, ◌++◌, nat_lt, length, take}
use Rattle.std.specs.List.{All}
use Rattle.rdf_terms.specs.declared.kind.Dialect.{Dialect}
use Rattle.rdf_terms.specs.declared.reason.Reason.{Reason}
use Rattle.rdf_terms.specs.declared.reason.Reason.TheVariants.{BadUtf8, NoToken, BadEscape, TokenTooLong, DocumentTooLong, Memory, Ended, Sink}
use Rattle.rdf_terms.specs.Terms.{Quad}
use Rattle.rdf_tokens.specs.Tokens.{Place, Outcome, Token, Reading}
use Rattle.rdf_tokens.specs.Tokens.Outcome.{undecided, complete, token_too_long, bad_utf8, no_token, bad_escape}
use Rattle.rdf_tokens.specs.Good.{tokens_of, end_of}
use Rattle.rdf_tokens.specs.Scans.{most_bytes, is_end}

-- An item of a document, as a quad, with its mark: the item is due once more tokens than that have been accepted.
pub record MarkedItem (I : Type 0) : Type 0 where
  pub item : I
  pub mark : ℕ

-- a quad: its mark is the number of the last token of its head, where the first token of the document has the number 1
abbrev pub Marked : Type 0
Marked = MarkedItem Quad

-- the items alone
abbrev pub unmarked : {I : Type 0} → List (MarkedItem I) → List I
unmarked [] = []
unmarked (i ∷ is) = i.item ∷ unmarked is

-- the items whose mark is below n, in order
abbrev pub items_below : {I : Type 0} → ℕ → List (MarkedItem I) → List I
items_below n [] = []
items_below n (i ∷ is) = cond (nat_lt i.mark n) (i.item ∷ items_below n is) (items_below n is)

-- A grammar is a relation: the tokens are a document, and these are its items with their marks.
-- some document begins with the tokens
abbrev pub Viable : {I : Type 0} → (List Token → List (MarkedItem I) → Type 0) → List Token → Type 0
Viable {I} documents ts = (more : List Token) × (qs : List (MarkedItem I)) × documents (ts ++ more) qs

-- The items that are due when the tokens have been accepted, in a document that begins with them: of its quads those whose head ends
-- before the last of the tokens.
abbrev pub Due : {I : Type 0} → (List Token → List (MarkedItem I) → Type 0) → List Token → List I → Type 0
Due {I} documents ts is = (more : List Token) × (all : List (MarkedItem I)) × documents (ts ++ more) all × (items_below (length ts) all ≡ is)

-- the marks are at least n, and none is below the one before it
abbrev pub Rises : {I : Type 0} → ℕ → List (MarkedItem I) → Type 0
Rises n [] = Unit {0}
Rises n (i ∷ is) = (n ≤ i.mark) × Rises i.mark is

-- Some tokens that all pass a test complete others to a document.
abbrev pub CompletedWith : {I : Type 0} → (Token → Type 0) → (List Token → List (MarkedItem I) → Type 0) → List Token → Type 0
CompletedWith {I} closing documents ts = (more : List Token) × (is : List (MarkedItem I)) × All closing more × documents (ts ++ more) is

-- no token of the list passes a limit, where the relation says that a token does so after the tokens before it
abbrev pub PassesNone : (List Token → Token → Type 0) → List Token → Type 0
PassesNone passes ts = (ahead after : List Token) (t : Token) → ts ≡ ahead ++ t ∷ after → passes ahead t → ⊥

-- the longest beginning of some tokens that a document has and in which no token passes a limit
pub record IsFront {I : Type 0} (documents : List Token → List (MarkedItem I) → Type 0) (passes : List Token → Token → Type 0)
    (all front : List Token) : Type 0 where
  pub begins : (rest : List Token) × (all ≡ front ++ rest)
  pub viable : Viable documents front
  pub kept : PassesNone passes front
  pub longest : (longer rest : List Token) → all ≡ longer ++ rest → Viable documents longer → PassesNone passes longer → length longer ≤ length front

-- no limit is met: no place with viable tokens before it has a token that is too long, no token passes a limit, and there are not too many bytes
pub record Within {I : Type 0} (documents : List Token → List (MarkedItem I) → Type 0) (passes : List Token → Token → Type 0)
    (reading : Reading) (bytes : List ℕ) : Type 0 where
  pub tokens : Viable documents reading.tokens → reading.outcome ≢ token_too_long
  pub limits : PassesNone passes reading.tokens
  pub size : length bytes ≤ most_bytes

-- how many tokens there are without the end
abbrev pub counted : List Token → ℕ
counted [] = 0
counted (t ∷ ts) = cond (is_end t.kind) 0 1 + counted ts

-- What a format is to its readers, with the limits that it is read by: its documents bring such items.
pub record LanguageOf (I : Type 0) : Type 1 where
  pub dialect : Dialect
  -- the most characters of a token
  pub limit : ℕ
  pub documents : List Token → List (MarkedItem I) → Type 0
  -- the token passes a limit after these tokens
  pub passes : List Token → Token → Type 0
  -- the token is refused after these tokens, for this reason
  pub blames : Reason → List Token → Token → Type 0

-- documents of quads
abbrev pub Language : Type 1
Language = LanguageOf Quad

-- the tokens of the bytes, with their end or before more come
abbrev pub reading_of : {I : Type 0} → LanguageOf I → List ℕ → Bool → Reading
reading_of l bytes is_end = tokens_of l.dialect l.limit bytes is_end

-- The tokens of the bytes, with their end, are complete, and a document with these items.
abbrev pub IsDocumentOf : {I : Type 0} → LanguageOf I → List ℕ → List I → Type 0
IsDocumentOf {I} l bytes is =
    ((reading_of l bytes true).outcome ≡ complete) × (all : List (MarkedItem I)) × l.documents (reading_of l bytes true).tokens all × (unmarked all ≡ is)

-- The bytes meet no limit.
abbrev pub IsWithin : {I : Type 0} → LanguageOf I → List ℕ → Type 0
IsWithin l bytes = Within l.documents l.passes (reading_of l bytes true) bytes

-- the front of a reading's tokens: what a document has, up to the first token that passes a limit
abbrev pub IsFrontOf : {I : Type 0} → LanguageOf I → Reading → List Token → Type 0
IsFrontOf l reading ahead = IsFront l.documents l.passes reading.tokens ahead

-- All tokens of the reading are in the front, and it ends so.
pub record InFront {I : Type 0} (l : LanguageOf I) (reading : Reading) (end : Outcome) : Type 0 where
  pub ends : reading.outcome ≡ end
  pub front : IsFrontOf l reading reading.tokens

-- The bytes decide tokens that are all in the front, and leave the next one open.
abbrev pub GoesOn : {I : Type 0} → LanguageOf I → List ℕ → Type 0
GoesOn l bytes = InFront l (reading_of l bytes false) undecided

-- The tokens of the bytes come to their end, and are all in the front.
abbrev pub IsWhole : {I : Type 0} → LanguageOf I → List ℕ → Type 0
IsWhole l bytes = InFront l (reading_of l bytes true) complete

-- No token stands at the place, and all tokens before it are in the front.
pub record StopsAt {I : Type 0} (l : LanguageOf I) (reading : Reading) (why : Outcome) (at : Place) (ahead : List Token) : Type 0 where
  pub outcome : reading.outcome ≡ why
  pub place : reading.at ≡ at
  pub tokens : reading.tokens ≡ ahead
  pub front : IsFrontOf l reading ahead

-- The token at the place is the first after the front, and it is refused for the reason.
pub record RefusesAt {I : Type 0} (l : LanguageOf I) (reading : Reading) (reason : Reason) (at : Place) (ahead : List Token) : Type 0 where
  pub token : Token
  pub after : List Token
  pub tokens : reading.tokens ≡ ahead ++ token ∷ after
  pub place : token.at ≡ at
  pub front : IsFrontOf l reading ahead
  pub because : l.blames reason ahead token

-- Why and where a reading is refused, after these tokens. For the size of the document, memory, the sink or the end of reading none is.
abbrev pub RefusedIn : {I : Type 0} → LanguageOf I → Reading → Reason → Place → List Token → Type 0
RefusedIn l reading BadUtf8 at ahead = StopsAt l reading bad_utf8 at ahead
RefusedIn l reading NoToken at ahead = StopsAt l reading no_token at ahead
RefusedIn l reading BadEscape at ahead = StopsAt l reading bad_escape at ahead
RefusedIn l reading TokenTooLong at ahead = StopsAt l reading token_too_long at ahead
RefusedIn l reading DocumentTooLong at ahead = ⊥
RefusedIn l reading Memory at ahead = ⊥
RefusedIn l reading Ended at ahead = ⊥
RefusedIn l reading Sink at ahead = ⊥
RefusedIn l reading reason at ahead = RefusesAt l reading reason at ahead

-- The bytes, with their end or before more come, are refused for the reason at the place.
abbrev pub Refused : {I : Type 0} → LanguageOf I → List ℕ → Bool → Reason → Place → Type 0
Refused l bytes is_end reason at = (ahead : List Token) × RefusedIn l (reading_of l bytes is_end) reason at ahead

-- The items are the first of those that are due after some first tokens of the list, of which none passes a limit: so after tokens of the front.
pub record BeginsDue {I : Type 0} (documents : List Token → List (MarkedItem I) → Type 0) (passes : List Token → Token → Type 0)
    (ts : List Token) (items : List I) : Type 0 where
  pub ahead : List Token
  pub after : List Token
  pub tokens : ts ≡ ahead ++ after
  pub kept : PassesNone passes ahead
  pub rest : List I
  pub due : Due documents ahead (items ++ rest)

-- There are more bytes than a document has, and the place is after as many as one may have.
abbrev pub IsTooLong : List ℕ → Place → Type 0
IsTooLong bytes at = (most_bytes < length bytes) × (at ≡ end_of (take most_bytes bytes))

-- The bytes are read to their end, and each beginning of them goes on: no reader refuses them, however they are cut.
pub record IsReadToItsEnd {I : Type 0} (l : LanguageOf I) (bytes : List ℕ) : Type 0 where
  pub whole : IsWhole l bytes
  pub fronts : (front rest : List ℕ) → bytes ≡ front ++ rest → GoesOn l front

-- What a grammar says of its documents, and of what accepting their tokens does.
use Rattle.std.specs.Prelude.{◌≡◌, ◌≤◌, ◌*◌, ◌↔◌, ℕ, Bool, true, false, List, [], ◌∷◌, ◌++◌, length}
use Rattle.rdf_terms.specs.declared.kind.Dialect.{Dialect}
use Rattle.rdf_terms.specs.declared.kind.Kind.{Kind}
use Rattle.rdf_terms.specs.declared.kind.Kind.TheVariants.{End}
use Rattle.rdf_terms.specs.declared.reason.Reason.{Reason}
use Rattle.rdf_terms.specs.declared.reason.Reason.TheVariants.{BadUtf8, NoToken, BadEscape, TokenTooLong, DocumentTooLong, Memory, Ended, Sink}
use Rattle.rdf_terms.specs.Sinks.{Appends, Attempts}
use Rattle.rdf_tokens.specs.Tokens.{Token}
use Rattle.rdf_tokens.specs.Grammars.{MarkedItem, unmarked, Viable, Due, PassesNone, counted, LanguageOf, BeginsDue}

-- G is what accepts the tokens, X what the documents depend on, and I what they bring: quads, or other items.
pub record Words (G X I : Type 0) : Type 1 where
  pub dialect : Dialect
  -- the most characters of a token
  pub limit : G → ℕ
  -- the most bytes that the texts have that it may hold
  pub most : G → ℕ
  pub documents : X → List Token → List (MarkedItem I) → Type 0
  -- the token passes a limit after these tokens
  pub passes : X → List Token → Token → Type 0
  -- the token is refused after these tokens, for this reason
  pub blames : X → Reason → List Token → Token → Type 0
  -- these tokens were accepted from the beginning on, and these quads were put
  pub reached : G → X → List Token → List I → Type 0

-- what the words promise one another
pub record Lawful {G X I : Type 0} (w : Words G X I) : Type 0 where
  pub due : (g : G) (x : X) (ts : List Token) (qs : List I) → w.reached g x ts qs → Due (w.documents x) ts qs
  pub kept : (g : G) (x : X) (ts : List Token) (qs : List I) → w.reached g x ts qs → PassesNone (w.passes x) ts
  pub few : (g : G) (x : X) (ts : List Token) (qs : List I) → w.reached g x ts qs → length qs ≤ 2 * counted ts
  -- what was accepted up to the end is a document
  pub whole : (g : G) (x : X) (ts : List Token) (t : Token) (qs : List I) → w.reached g x (ts ++ t ∷ []) qs → t.kind ≡ End →
      (all : List (MarkedItem I)) × w.documents x (ts ++ t ∷ []) all × (unmarked all ≡ qs)
  -- no document within the limits goes on with a token that is refused
  pub ends : (x : X) (reason : Reason) (ts : List Token) (t : Token) → w.blames x reason ts t →
      Viable (w.documents x) (ts ++ t ∷ []) → PassesNone (w.passes x) (ts ++ t ∷ []) → ⊥

-- The limits stay: on the characters of a token, and on the bytes that are held.
pub record KeepsLimits {G X I : Type 0} (w : Words G X I) (old new : G) : Type 0 where
  pub token : w.limit new ≡ w.limit old
  pub most : w.most new ≡ w.most old

-- a token was accepted, and n quads were put
pub record Takes {G X I S : Type 0} (w : Words G X I) (takes : S → I → S → Type 0)
    (old : G) (t : Token) (n : ℕ) (before : S) (new : G) (after : S) : Type 0 where
  pub more : List I
  pub count : n ≡ length more
  pub puts : Appends takes before more after
  pub limit : w.limit new ≡ w.limit old
  pub reached : (x : X) (ts : List Token) (qs : List I) → w.reached old x ts qs → w.reached new x (ts ++ t ∷ []) (qs ++ more)

-- the language of a setting, with a limit on tokens
abbrev pub in_words : {G X I : Type 0} → Words G X I → X → ℕ → LanguageOf I
in_words w x limit = record { dialect = w.dialect; limit = limit; documents = w.documents x; passes = w.passes x; blames = w.blames x }

-- Some of the quads that are due with the token were put, or the put of the last was refused.
pub record GivesUp {G X I S : Type 0} (w : Words G X I) (takes leaves : S → I → S → Type 0) (old : G) (t : Token) (before after : S) : Type 0 where
  pub more : List I
  pub puts : Attempts takes leaves before more after
  pub due : (x : X) (ts : List Token) (qs : List I) → w.reached old x ts qs → BeginsDue (w.documents x) (w.passes x) (ts ++ t ∷ []) (qs ++ more)

-- The token is refused, and nothing was put.
pub record Blames {G X I S : Type 0} (w : Words G X I) (reason : Reason) (old : G) (t : Token) (before after : S) : Type 0 where
  pub sink : after ≡ before
  pub blames : (x : X) (ts : List Token) (qs : List I) → w.reached old x ts qs → w.blames x reason ts t

-- Why a token is not accepted. Want of memory is reported only where the sink has not failed.
abbrev pub Misses : {G X I S : Type 0} → Words G X I → (S → I → S → Type 0) → (S → I → S → Type 0) → (S → Bool) → Reason → G → Token → S → S → Type 0
Misses w takes leaves failed Memory old t before after = GivesUp w takes leaves old t before after × (failed after ≡ false)
Misses w takes leaves failed Sink old t before after = GivesUp w takes leaves old t before after × (failed after ≡ true)
Misses w takes leaves failed BadUtf8 old t before after = ⊥
Misses w takes leaves failed NoToken old t before after = ⊥
Misses w takes leaves failed BadEscape old t before after = ⊥
Misses w takes leaves failed TokenTooLong old t before after = ⊥
Misses w takes leaves failed DocumentTooLong old t before after = ⊥
Misses w takes leaves failed Ended old t before after = ⊥
Misses w takes leaves failed reason old t before after = Blames w reason old t before after

-- The answer is yes exactly if some tree begins with the tokens and then a token of the kind, whatever that token spells.
abbrev pub CanFollow : {I : Type 0} → (List Token → List (MarkedItem I) → Type 0) → List Token → Kind → Bool → Type 0
CanFollow trees ts kind answer = (t : Token) → t.kind ≡ kind → ((answer ≡ true) ↔ Viable trees (ts ++ t ∷ []))

-- The same of the tokens that were accepted, whatever they are.
abbrev pub KnowsNext : {G X I : Type 0} → Words G X I → (X → List Token → List (MarkedItem I) → Type 0) → G → Kind → Bool → Type 0
KnowsNext {G} {X} {I} w trees g kind answer = (x : X) (ts : List Token) (qs : List I) → w.reached g x ts qs → CanFollow (trees x) ts kind answer

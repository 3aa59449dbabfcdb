-- A document that is read in one piece.
use Rattle.rdf_trig.proofs.Prelude.{◌≡◌, ℕ, true, false, List, [], ◌∷◌, ◌++◌, sym, ap, ◌∙◌, subst, append_assoc, append-nil, Reason, DocumentTooLong, Ended, Quad, Appends, Language, reading_of, IsDocumentOf, IsWhole, RefusedIn, Words, Lawful, in_words, Driven, HasRead, Feeds, FeedFails, Finishes, FinishFails}
use Rattle.rdf_terms.specs.declared.reason.Reason.TheVariants.{Memory, Sink}
use Rattle.rdf_tokens.specs.Tokens.{Place}
use Rattle.rdf_tokens.proofs.LanguageLemmas.{refused_in_more}
use Rattle.rdf_driver.specs.declared.summary.Summary.{Summary}
use Rattle.rdf_trig.specs.ReadWhole.{NotRead}

-- what puts do to a list
abbrev pub Puts : List Quad → Quad → List Quad → Type 0
Puts before quad after = after ≡ before ++ quad ∷ []

-- Puts of some quads leave the list with them at its end.
pub put_all : (before qs after : List Quad) → Appends Puts before qs after → after ≡ before ++ qs
put_all before [] after e = e ∙ sym (append-nil before)
put_all before (q ∷ qs) after h = put_all h.0 qs after h.2 ∙ (ap (λ x. x ++ qs) h.1 ∙ append_assoc before (q ∷ []) qs)

module _ {G X : Type 0} (w : Words G X Quad) (law : Lawful w) (leaves : List Quad → Quad → List Quad → Type 0) (old : Driven G)
    (running : old.done ≡ false) (x : X) (h : HasRead w old x [] []) (bytes : List ℕ) where
  -- the language that the reader reads
  abbrev lang : Language
  lang = in_words w x old.scanner.limit

  -- What fails in the only piece fails for the whole bytes: more bytes, or the end, change nothing of a refusal.
  pub not_fed : (reason : Reason) (at : Place) (new : Driven G) (before after : List Quad) →
      FeedFails w Puts leaves (λ y. false) reason at old before bytes new after → NotRead lang bytes reason at
  not_fed Memory at new before after y = tt
  not_fed DocumentTooLong at new before after y = let f = y.full x [] [] h in (f.too_long, f.goes_on)
  not_fed Ended at new before after y = absurd (let z : true ≡ false = sym y.0 ∙ running in cc)
  not_fed Sink at new before after y = absurd (let z : false ≡ true = y.1 in cc)
  not_fed reason at new before after y =
      let r = y.refused x [] [] h in (
        r.0,
        subst (λ v. RefusedIn lang (reading_of lang v true) reason at r.0) (append-nil bytes)
            (refused_in_more lang (law.ends x) bytes [] true reason at r.0 r.1),
      )

  module _ (mid : Driven G) (going : mid.done ≡ false) (one two : List Quad) (empty : one ≡ []) (fed : Feeds w Puts old one bytes mid two) where
    -- What fails at the end fails for the whole bytes.
    pub not_finished : (reason : Reason) (at : Place) (new : Driven G) (after : List Quad) →
        FinishFails w Puts leaves (λ y. false) reason at mid two new after → NotRead lang bytes reason at
    not_finished Memory at new after y = tt
    not_finished DocumentTooLong at new after y = absurd (y.refused x bytes fed.more (fed.read x [] [] h)).1
    not_finished Ended at new after y = absurd (let z : true ≡ false = sym y.0 ∙ going in cc)
    not_finished Sink at new after y = absurd (let z : false ≡ true = y.1 in cc)
    not_finished reason at new after y =
        let r = y.refused x bytes fed.more (fed.read x [] [] h) in
        (r.0, subst (λ n. RefusedIn (in_words w x n) (reading_of (in_words w x n) bytes true) reason at r.0) fed.limit r.1)

    -- A list that was empty has the quads of the document.
    pub whole_read : (summary : Summary) (three : List Quad) → Finishes w Puts mid two summary three → IsDocumentOf lang bytes three × IsWhole lang bytes
    whole_read summary three f =
        let s = f.read x bytes fed.more (fed.read x [] [] h) in
        let quads : three ≡ fed.more ++ f.more =
        put_all two f.more three f.puts ∙ ap (λ y. y ++ f.more) (put_all one fed.more two fed.puts ∙ ap (λ y. y ++ fed.more) empty) in (
          subst (IsDocumentOf lang bytes) (sym quads) (subst (λ n. IsDocumentOf (in_words w x n) bytes (fed.more ++ f.more)) fed.limit
              s.document),
          subst (λ n. IsWhole (in_words w x n) bytes) fed.limit s.whole,
        )

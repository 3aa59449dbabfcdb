-- What is refused stays refused when more bytes come, and is no document within the limits; a document within them is read to its end.
use Rattle.rdf_tokens.proofs.Prelude.{◌≡◌, ◌≢◌, ℕ, Bool, true, false, List, [], ◌∷◌, ◌++◌, ◌⊎◌, inr, refl, sym, ap, ◌∙◌, subst, ⊎_elim, append_assoc, append-nil, Reason, BadUtf8, NoToken, BadEscape, TokenTooLong, DocumentTooLong, Memory, Ended, Sink, Place, Outcome, Token, Reading, undecided, complete, token_too_long, bad_utf8, no_token, bad_escape, Viable, PassesNone, LanguageOf, IsDocumentOf, InFront, GoesOn, IsWhole, StopsAt, RefusesAt, RefusedIn, Refused, BeginsDue, IsReadToItsEnd}
use Rattle.rdf_tokens.specs.Grammars.{reading_of, IsWithin}
use Rattle.rdf_tokens.proofs.LawLemmas.{lengthens}
use Rattle.rdf_tokens.proofs.GrammarsLemmas.{only_ended}
use Rattle.rdf_tokens.proofs.GrammarFronts.{viable_front, none_front, front_whole, front_before, not_whole}

-- No document within the limits goes on with a token that is refused.
abbrev pub EndsAtBlame : {I : Type 0} → LanguageOf I → Type 0
EndsAtBlame l = (reason : Reason) (ts : List Token) (t : Token) → l.blames reason ts t → Viable l.documents (ts ++ t ∷ []) →
    PassesNone l.passes (ts ++ t ∷ []) → ⊥

-- a beginning of what is read to its end goes on
front_goes_on : {I : Type 0} (l : LanguageOf I) (front rest : List ℕ) → IsWhole l (front ++ rest) → GoesOn l front
front_goes_on l front rest w = record {
  ends = by (reading_of l front false).outcome refl;
  front = front_whole l.documents l.passes ts (viable_front l.documents l.passes ts more.0 (subst (Viable l.documents) more.1 w.front.viable))
      (none_front l.documents l.passes ts more.0 (subst (PassesNone l.passes) more.1 w.front.kept));
}
  where
    ts : List Token
    ts = (reading_of l front false).tokens

    more : (us : List Token) × ((reading_of l (front ++ rest) true).tokens ≡ ts ++ us)
    more = (lengthens l.dialect l.limit front rest true).0

    by : (o : Outcome) → (reading_of l front false).outcome ≡ o → (reading_of l front false).outcome ≡ undecided
    by undecided e = e
    by complete e = absurd (only_ended l.dialect l.limit front e)
    by o e =
        absurd
        (let same = (lengthens l.dialect l.limit front rest true).1 (λ x. let z : o ≡ undecided = sym e ∙ x in cc) in
        let z : o ≡ complete = sym e ∙ (sym (ap (λ r. r.outcome) same) ∙ w.ends) in cc)

-- What is whole is read to its end, however it is cut.
pub read_to_its_end : {I : Type 0} (l : LanguageOf I) (bytes : List ℕ) → IsWhole l bytes → IsReadToItsEnd l bytes
read_to_its_end l bytes w = record { whole = w; fronts = λ front rest e. front_goes_on l front rest (subst (IsWhole l) e w) }

-- The tokens of a document of which none passes a limit are all in the front.
pub document_whole : {I : Type 0} (l : LanguageOf I) (bytes : List ℕ) (qs : List I) → IsDocumentOf l bytes qs →
    PassesNone l.passes (reading_of l bytes true).tokens → IsWhole l bytes
document_whole l bytes qs d k =
    let ts = (reading_of l bytes true).tokens in
    record { ends = d.0; front = front_whole l.documents l.passes ts ([], d.1, subst (λ us. l.documents us d.1) (sym (append-nil ts)) d.2) k }

-- A document within the limits is read to its end.
pub document_read : {I : Type 0} (l : LanguageOf I) (bytes : List ℕ) (qs : List I) → IsDocumentOf l bytes qs → IsWithin l bytes → IsReadToItsEnd l bytes
document_read l bytes qs d w = read_to_its_end l bytes (document_whole l bytes qs d w.limits)

module _ {I : Type 0} (l : LanguageOf I) (ends : EndsAtBlame l) where
  module _ (bytes more : List ℕ) (e : Bool) where
    -- where a reading has stopped it stays so
    stops_more : (why : Outcome) (at : Place) (ahead : List Token) → why ≢ undecided → StopsAt l (reading_of l bytes false) why at ahead →
        StopsAt l (reading_of l (bytes ++ more) e) why at ahead
    stops_more why at ahead d s = subst (λ r. StopsAt l r why at ahead) (sym ((lengthens l.dialect l.limit bytes more e).1 (λ z. d (sym s.outcome ∙ z)))) s

    -- a token that was refused stays so
    refuses_more : (reason : Reason) (at : Place) (ahead : List Token) → RefusesAt l (reading_of l bytes false) reason at ahead →
        RefusesAt l (reading_of l (bytes ++ more) e) reason at ahead
    refuses_more reason at ahead y =
        let m = (lengthens l.dialect l.limit bytes more e).0 in
        let rest = y.after ++ m.0 in
        let all : (reading_of l (bytes ++ more) e).tokens ≡ ahead ++ y.token ∷ rest =
        m.1 ∙ (ap (λ ts. ts ++ m.0) y.tokens ∙ append_assoc ahead (y.token ∷ y.after) m.0) in
        record {
          token = y.token;
          after = rest;
          tokens = all;
          place = y.place;
          front = front_before l.documents l.passes (reading_of l (bytes ++ more) e).tokens ahead rest y.token all y.front.viable
              y.front.kept (ends reason ahead y.token y.because);
          because = y.because;
        }

    -- More bytes, or the end, change nothing of a refusal.
    pub refused_in_more : (reason : Reason) (at : Place) (ahead : List Token) → RefusedIn l (reading_of l bytes false) reason at ahead →
        RefusedIn l (reading_of l (bytes ++ more) e) reason at ahead
    refused_in_more BadUtf8 at ahead s = stops_more bad_utf8 at ahead (λ x. cc) s
    refused_in_more NoToken at ahead s = stops_more no_token at ahead (λ x. cc) s
    refused_in_more BadEscape at ahead s = stops_more bad_escape at ahead (λ x. cc) s
    refused_in_more TokenTooLong at ahead s = stops_more token_too_long at ahead (λ x. cc) s
    refused_in_more DocumentTooLong at ahead s = absurd s
    refused_in_more Memory at ahead s = absurd s
    refused_in_more Ended at ahead s = absurd s
    refused_in_more Sink at ahead s = absurd s
    refused_in_more reason at ahead y = refuses_more reason at ahead y

    -- What begins what is due in the bytes does so in more.
    pub due_more : (qs : List I) → BeginsDue l.documents l.passes (reading_of l bytes false).tokens qs →
        BeginsDue l.documents l.passes (reading_of l (bytes ++ more) e).tokens qs
    due_more qs d =
        let m = (lengthens l.dialect l.limit bytes more e).0 in
        record {
          ahead = d.ahead;
          after = d.after ++ m.0;
          tokens = m.1 ∙ (ap (λ ts. ts ++ m.0) d.tokens ∙ append_assoc d.ahead d.after m.0);
          kept = d.kept;
          rest = d.rest;
          due = d.due;
        }

  -- Where all tokens are in the front, and the outcome is open or complete, nothing is refused.
  pub none_refused : (r : Reading) (o : Outcome) (reason : Reason) (at : Place) (ahead : List Token) → (o ≡ undecided) ⊎ (o ≡ complete) →
      InFront l r o → RefusedIn l r reason at ahead → ⊥
  none_refused r o reason at ahead k a y = by reason y
    where
      stopped : (why : Outcome) → why ≢ undecided → why ≢ complete → r.outcome ≡ why → ⊥
      stopped why u c h = ⊎_elim (λ z. u (sym h ∙ (a.ends ∙ z))) (λ z. c (sym h ∙ (a.ends ∙ z))) k

      by : (reason : Reason) → RefusedIn l r reason at ahead → ⊥
      by BadUtf8 s = stopped bad_utf8 (λ x. cc) (λ x. cc) s.outcome
      by NoToken s = stopped no_token (λ x. cc) (λ x. cc) s.outcome
      by BadEscape s = stopped bad_escape (λ x. cc) (λ x. cc) s.outcome
      by TokenTooLong s = stopped token_too_long (λ x. cc) (λ x. cc) s.outcome
      by DocumentTooLong s = s
      by Memory s = s
      by Ended s = s
      by Sink s = s
      by reason y = not_whole l.documents l.passes r.tokens ahead y.after y.token y.tokens (ends reason ahead y.token y.because) a.front

  -- What is refused is no document within the limits.
  pub refused_no_document : (bytes : List ℕ) (qs : List I) (reason : Reason) (at : Place) → Refused l bytes true reason at →
      IsDocumentOf l bytes qs → IsWithin l bytes → ⊥
  refused_no_document bytes qs reason at x d w =
      none_refused (reading_of l bytes true) complete reason at x.0 (inr refl) (document_whole l bytes qs d w.limits) x.1

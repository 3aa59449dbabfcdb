-- The front of some tokens: it ends before the first that no document has there or that passes a limit.
use Rattle.rdf_tokens.proofs.Prelude.{◌≡◌, ◌+◌, ◌-◌, ◌<◌, ◌≤◌, List, [], ◌∷◌, ◌++◌, length, take, sym, ap, ◌∙◌, subst, ⊎_elim, append_assoc, arith, length-append, cases_lt, append-nil, take-append-add, take-append_seam, Token, MarkedItem, Viable, PassesNone}
use Rattle.rdf_tokens.specs.Grammars.{IsFront}

-- of two beginnings of a list the longer begins with the other
longer_begins : (all us after longer rest : List Token) → all ≡ us ++ after → all ≡ longer ++ rest → length us ≤ length longer →
    (more : List Token) × (longer ≡ us ++ more)
longer_begins all us after longer rest e l size =
    let j = length longer - length us in
    let n : length longer ≡ length us + j = omega arith in (
      take j after,
      sym (take-append_seam longer rest) ∙ (ap (take (length longer)) (sym l ∙ e) ∙ (ap (λ k. take k (us ++ after)) n ∙ take-append-add us after j)),
    )

module _ {I : Type 0} (documents : List Token → List (MarkedItem I) → Type 0) (passes : List Token → Token → Type 0) where
  pub viable_front : (ts us : List Token) → Viable documents (ts ++ us) → Viable documents ts
  viable_front ts us v = (us ++ v.0, v.1, subst (λ x. documents x v.1) (append_assoc ts us v.0) v.2)

  pub none_front : (ts us : List Token) → PassesNone passes (ts ++ us) → PassesNone passes ts
  none_front ts us h ahead after t e p = h ahead (after ++ us) t (ap (λ x. x ++ us) e ∙ append_assoc ahead (t ∷ after) us) p

  -- all of them
  pub front_whole : (ts : List Token) → Viable documents ts → PassesNone passes ts → IsFront documents passes ts ts
  front_whole ts v n = record {
    begins = ([], sym (append-nil ts));
    viable = v;
    kept = n;
    longest = λ longer rest e w m. let z = ap length e ∙ length-append longer rest in omega arith;
  }

  -- those before a token
  pub front_before : (all ahead after : List Token) (t : Token) → all ≡ ahead ++ t ∷ after → Viable documents ahead → PassesNone passes ahead →
      (Viable documents (ahead ++ t ∷ []) → PassesNone passes (ahead ++ t ∷ []) → ⊥) → IsFront documents passes all ahead
  front_before all ahead after t e v n ends = record {
    begins = (t ∷ after, e);
    viable = v;
    kept = n;
    longest = λ longer rest l w m. ⊎_elim (λ h. absurd (too_long longer rest l w m h)) (λ h. h) (cases_lt (length ahead) (length longer));
  }
    where
      too_long : (longer rest : List Token) → all ≡ longer ++ rest → Viable documents longer → PassesNone passes longer → length ahead < length longer → ⊥
      too_long longer rest l w m h =
          let us = ahead ++ t ∷ [] in
          let size : length us ≡ length ahead + 1 = length-append ahead (t ∷ []) in
          let b = longer_begins all us after longer rest (e ∙ sym (append_assoc ahead (t ∷ []) after)) l (omega arith) in
          ends (viable_front us b.0 (subst (Viable documents) b.1 w)) (none_front us b.0 (subst (PassesNone passes) b.1 m))

  -- A front that is not all of the tokens: the next token begins no document, or passes a limit.
  pub not_whole : (all ahead after : List Token) (t : Token) → all ≡ ahead ++ t ∷ after →
      (Viable documents (ahead ++ t ∷ []) → PassesNone passes (ahead ++ t ∷ []) → ⊥) →
      IsFront documents passes all all → ⊥
  not_whole all ahead after t e ends f =
      let us = ahead ++ t ∷ [] in
      let whole : all ≡ us ++ after = e ∙ sym (append_assoc ahead (t ∷ []) after) in
      ends (viable_front us after (subst (Viable documents) whole f.viable)) (none_front us after (subst (PassesNone passes) whole f.kept))

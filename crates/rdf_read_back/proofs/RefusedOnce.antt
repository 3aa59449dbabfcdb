-- A reading is refused once: for one reason, at one place.
use Rattle.rdf_read_back.proofs.Prelude.{◌≡◌, List, [], ◌∷◌, ◌++◌, ◌⊎◌, inl, inr, ⊎_elim, length, take, drop, refl, sym, ap, subst, ◌∙◌, arith, length-append, Reason, BadUtf8, NoToken, BadEscape, TokenTooLong, DocumentTooLong, Memory, Ended, Sink, Outcome, Reading, Token, IsFront, LanguageOf, MarkedItem, RefusedIn, RefusesAt, StopsAt}
use Rattle.std.proofs.Math.Seq.{take-append_seam}
use Rattle.rdf_tokens.specs.Tokens.{Place}
use Rattle.rdf_tokens.specs.Tokens.Outcome.{undecided, complete, token_too_long, bad_utf8, no_token, bad_escape}

-- the reason of an outcome that is a stop
abbrev stop_reason : Outcome → Reason
stop_reason bad_utf8 = BadUtf8
stop_reason no_token = NoToken
stop_reason bad_escape = BadEscape
stop_reason token_too_long = TokenTooLong
stop_reason undecided = Memory
stop_reason complete = Memory

-- the first of some tokens, and the others
same_first : {t u : Token} {ts us : List Token} → t ∷ ts ≡ u ∷ us → t ≡ u
same_first e = cc

-- what comes after the same tokens is the same
same_after : (ahead ts us : List Token) → ahead ++ ts ≡ ahead ++ us → ts ≡ us
same_after [] ts us e = e
same_after (a ∷ ahead) ts us e = same_after ahead ts us (ap (drop 1) e)

-- some tokens have one front
same_front : {I : Type 0} (documents : List Token → List (MarkedItem I) → Type 0) (passes : List Token → Token → Type 0) (all a b : List Token) →
    IsFront documents passes all a → IsFront documents passes all b → a ≡ b
same_front documents passes all a b f g =
    let n : length a ≡ length b = omega (arith, f.longest b g.begins.0 g.begins.1 g.viable g.kept, g.longest a f.begins.0 f.begins.1 f.viable f.kept) in
    sym (take-append_seam a f.begins.0)
    ∙ (ap (take (length a)) (sym f.begins.1) ∙ (ap (λ k. take k all) n ∙ (ap (take (length b)) g.begins.1 ∙ take-append_seam b g.begins.0)))

module _ {I : Type 0} (l : LanguageOf I) (apart : (r s : Reason) (ts : List Token) (t : Token) → l.blames r ts t → l.blames s ts t → r ≡ s)
    (reading : Reading) where
  -- it stopped, or refused a token
  abbrev Halted : Reason → Place → List Token → Type 0
  Halted r p ahead = ((o : Outcome) × (r ≡ stop_reason o) × StopsAt l reading o p ahead) ⊎ RefusesAt l reading r p ahead

  halted : (r : Reason) (p : Place) (ahead : List Token) → RefusedIn l reading r p ahead → Halted r p ahead
  halted BadUtf8 p ahead x = inl (bad_utf8, refl, x)
  halted NoToken p ahead x = inl (no_token, refl, x)
  halted BadEscape p ahead x = inl (bad_escape, refl, x)
  halted TokenTooLong p ahead x = inl (token_too_long, refl, x)
  halted DocumentTooLong p ahead x = absurd x
  halted Memory p ahead x = absurd x
  halted Ended p ahead x = absurd x
  halted Sink p ahead x = absurd x
  halted r p ahead x = inr x

  -- where the tokens stop none of them is refused
  not_both : (r : Reason) (o : Outcome) (p q : Place) (a b : List Token) → StopsAt l reading o p a → RefusesAt l reading r q b → ⊥
  not_both r o p q a b x y =
      let same : a ≡ b = same_front l.documents l.passes reading.tokens a b x.front y.front in
      let n : length a ≡ length (b ++ y.token ∷ y.after) = ap length (sym x.tokens ∙ y.tokens) in
      let m : length a ≡ length b = ap length same in
      omega (arith, n, m, length-append b (y.token ∷ y.after))

  both_stop : (r s : Reason) (p q : Place) (a b : List Token) (o k : Outcome) → r ≡ stop_reason o → s ≡ stop_reason k →
      StopsAt l reading o p a → StopsAt l reading k q b → (r ≡ s) × (p ≡ q)
  both_stop r s p q a b o k e f x y = (e ∙ (ap stop_reason (sym x.outcome ∙ y.outcome) ∙ sym f), sym x.place ∙ y.place)

  both_refuse : (r s : Reason) (p q : Place) (a b : List Token) → RefusesAt l reading r p a → RefusesAt l reading s q b → (r ≡ s) × (p ≡ q)
  both_refuse r s p q a b x y =
      let same : b ≡ a = same_front l.documents l.passes reading.tokens b a y.front x.front in
      let t : x.token ≡ y.token = same_first
      (same_after a (x.token ∷ x.after) (y.token ∷ y.after) (sym x.tokens ∙ (y.tokens ∙ ap (λ us. us ++ y.token ∷ y.after) same))) in (
        apart r s a x.token x.because (subst (λ u. l.blames s a u) (sym t) (subst (λ us. l.blames s us y.token) same y.because)),
        sym x.place ∙ (ap (λ (u : Token). u.at) t ∙ y.place),
      )

  -- So a reading has one refusal at most.
  pub refused_once : (r s : Reason) (p q : Place) (a b : List Token) → RefusedIn l reading r p a → RefusedIn l reading s q b → (r ≡ s) × (p ≡ q)
  refused_once r s p q a b x y =
      ⊎_elim
      (λ u. ⊎_elim (λ v. both_stop r s p q a b u.0 v.0 u.1 v.1 u.2 v.2) (λ v. absurd (not_both s u.0 p q a b u.2 v)) (halted s q b y))
      (λ u. ⊎_elim (λ v. absurd (not_both r v.0 q p b a v.2 u)) (λ v. both_refuse r s p q a b u v) (halted s q b y))
      (halted r p a x)

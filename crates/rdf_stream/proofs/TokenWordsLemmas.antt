-- The tokens of a dialect as a grammar: its laws, and what accepting a token does.
use Rattle.rdf_stream.proofs.Prelude.{◌≡◌, ◌<◌, ◌≤◌, ◌+◌, ◌*◌, ℕ, Bool, true, false, cond, List, [], ◌∷◌, ◌++◌, length, ltb, refl, sym, ap, subst, ◌∙◌, inl, arith, Result, Err, ◌↔◌, append-nil, cond-false, cond-true, cond_both, le-ltb, lt-ltb, Dialect, Token, is_end, Due, MarkedItem, counted, items_below, unmarked, GivesUp, Lawful, marked_from, token_words, without_end}
use Rattle.rdf_terms.specs.declared.sink.PutFault.{PutFault}
use Rattle.rdf_terms.specs.declared.sink.PutFault.TheVariants as put
use Rattle.rdf_driver.specs.Words.{Takes}

-- what comes after the first n tokens is not due with them
none_below : (n m : ℕ) (ts : List Token) → m ≤ n → items_below m (marked_from n ts) ≡ []
none_below n m [] l = refl
none_below n m (t ∷ ts) l =
    cond_both (is_end t.kind) (marked_from (n + 1) ts) (record { item = t; mark = n } ∷ marked_from (n + 1) ts) (λ all. items_below m all ≡ [])
    (λ _. none_below (n + 1) m ts (omega (arith, l)))
    (λ _. cond-false (ltb n m) _ _ (le-ltb n m l) ∙ none_below (n + 1) m ts (omega (arith, l)))

-- the tokens but the end are due with the last of them
due_step : (b : Bool) (n m : ℕ) (t : Token) (rest : List (MarkedItem Token)) (ts : List Token) → n < m → items_below m rest ≡ ts →
    items_below m (cond b rest (record { item = t; mark = n } ∷ rest)) ≡ cond b ts (t ∷ ts)
due_step true n m t rest ts l e = e
due_step false n m t rest ts l e = cond-true (ltb n m) _ _ (lt-ltb n m l) ∙ ap (λ us. t ∷ us) e

-- so the tokens below a number are due, whatever comes after them
due_below : (n : ℕ) (ts more : List Token) → items_below (n + length ts) (marked_from n (ts ++ more)) ≡ without_end ts
due_below n [] more = none_below n (n + 0) more (omega arith)
due_below n (t ∷ ts) more =
    let m : n + length (t ∷ ts) ≡ (n + 1) + length ts = omega arith in
    due_step (is_end t.kind) n (n + length (t ∷ ts)) t (marked_from (n + 1) (ts ++ more)) (without_end ts) (omega arith)
    (ap (λ k. items_below k (marked_from (n + 1) (ts ++ more))) m ∙ due_below (n + 1) ts more)

-- so all tokens that were read are due at once, and none waits for the next
due_all : (ts more : List Token) → items_below (length ts) (marked_from 0 (ts ++ more)) ≡ without_end ts
due_all ts more = let n : 0 + length ts ≡ length ts = omega arith in
    subst (λ k. items_below k (marked_from 0 (ts ++ more)) ≡ without_end ts) n (due_below 0 ts more)

-- without their marks they are the tokens
unmarked_step : (b : Bool) (n : ℕ) (t : Token) (rest : List (MarkedItem Token)) (ts : List Token) → unmarked rest ≡ ts →
    unmarked (cond b rest (record { item = t; mark = n } ∷ rest)) ≡ cond b ts (t ∷ ts)
unmarked_step true n t rest ts e = e
unmarked_step false n t rest ts e = ap (λ us. t ∷ us) e

-- the items of a document are its tokens but the end
unmarked_all : (n : ℕ) (ts : List Token) → unmarked (marked_from n ts) ≡ without_end ts
unmarked_all n [] = refl
unmarked_all n (t ∷ ts) = unmarked_step (is_end t.kind) n t (marked_from (n + 1) ts) (without_end ts) (unmarked_all (n + 1) ts)

-- there are as many as are counted
few_step : (b : Bool) (t : Token) (ts : List Token) (n : ℕ) → length ts ≤ 2 * n → length (cond b ts (t ∷ ts)) ≤ 2 * (cond b 0 1 + n)
few_step true t ts n l = omega (arith, l)
few_step false t ts n l = omega (arith, l)

-- one for each token is within what the reader's counts have room for
few_all : (ts : List Token) → length (without_end ts) ≤ 2 * counted ts
few_all [] = omega arith
few_all (t ∷ ts) = few_step (is_end t.kind) t (without_end ts) (counted ts) (few_all ts)

-- those of two lists are those of the first and then the second
append_step : (b : Bool) (t : Token) (ts us : List Token) → cond b (ts ++ us) (t ∷ (ts ++ us)) ≡ cond b ts (t ∷ ts) ++ us
append_step true t ts us = refl
append_step false t ts us = refl

-- leaving out the end is done in each of two lists by itself, so the reader may do it piece by piece
pub without-append : (ts us : List Token) → without_end (ts ++ us) ≡ without_end ts ++ without_end us
without-append [] us = refl
without-append (t ∷ ts) us =
    ap (λ vs. cond (is_end t.kind) vs (t ∷ vs)) (without-append ts us) ∙ append_step (is_end t.kind) t (without_end ts) (without_end us)

-- and the other way round, as the reader's promise asks it
pub tokens_due : (d : Dialect) (ts is : List Token) → is ≡ without_end ts → Due ((token_words d).documents tt) ts is
tokens_due d ts is e = ([], marked_from 0 (ts ++ []), refl, due_all ts [] ∙ sym e)

-- the grammar's promises
pub lawful : (d : Dialect) → Lawful (token_words d)
lawful d = record {
  due = λ g x ts qs e. tokens_due d ts qs e;
  kept = λ g x ts qs e ahead later t s p. p;
  few = λ g x ts qs e. subst (λ l. length l ≤ 2 * counted ts) (sym e) (few_all ts);
  whole = λ g x ts t qs e k. (marked_from 0 (ts ++ t ∷ []), refl, unmarked_all 0 (ts ++ t ∷ []) ∙ sym e);
  ends = λ x reason ts t b v k. b;
}

module _ {S : Type 0} (takes leaves : S → Token → S → Type 0) (d : Dialect) (g : ℕ) (t : Token) (before : S) where
  -- the end brings nothing
  pub takes_end : is_end t.kind ≡ true → Takes (token_words d) takes g t 0 before g before
  takes_end e = record {
    more = [];
    count = refl;
    puts = refl;
    limit = refl;
    reached = λ x ts qs h. append-nil qs
        ∙ (h ∙ sym (without-append ts (t ∷ []) ∙ (ap (λ us. without_end ts ++ us) (cond-true (is_end t.kind) _ _ e) ∙ append-nil (without_end ts))));
  }

  -- another token brings itself
  one_more : (ts qs : List Token) → is_end t.kind ≡ false → qs ≡ without_end ts → qs ++ t ∷ [] ≡ without_end (ts ++ t ∷ [])
  one_more ts qs e h = ap (λ us. us ++ t ∷ []) h ∙ sym (without-append ts (t ∷ []) ∙ ap (λ us. without_end ts ++ us) (cond-false (is_end t.kind) _ _ e))

  -- a token that is not the end is one item, which is put at once
  pub takes_token : (after : S) → is_end t.kind ≡ false → takes before t after → Takes (token_words d) takes g t 1 before g after
  takes_token after e h = record { more = t ∷ []; count = refl; puts = (after, h, refl); limit = refl; reached = λ x ts qs r. one_more ts qs e r }

  -- its put was refused
  pub gives_up : (after : S) → is_end t.kind ≡ false → leaves before t after → GivesUp (token_words d) takes leaves g t before after
  gives_up after e h = record {
    more = t ∷ [];
    puts = inl (refl, h);
    due = λ x ts qs r. record {
      ahead = ts ++ t ∷ [];
      after = [];
      tokens = sym (append-nil (ts ++ t ∷ []));
      kept = λ ahead later u s p. p;
      rest = [];
      due = tokens_due d (ts ++ t ∷ []) ((qs ++ t ∷ []) ++ []) (append-nil (qs ++ t ∷ []) ∙ one_more ts qs e r);
    };
  }

-- a put that had no memory leaves a device that has not failed
pub not_failed : (failed : Bool) (r : Result Unit PutFault) → (failed ≡ true) ↔ (r ≡ Err put.Device) → r ≡ Err put.Memory → failed ≡ false
not_failed false r h e = refl
not_failed true r h e = absurd (let z : Err put.Memory ≡ Err put.Device = sym e ∙ h.0 refl in cc)

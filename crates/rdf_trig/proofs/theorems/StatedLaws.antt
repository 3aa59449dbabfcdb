-- The laws as they are stated.
use Rattle.rdf_trig.proofs.Prelude.{nat_lt, cond-true, cond-false, cases_lt, lt-ltb, le-ltb, Marked, unmarked, items_below, Due, Rises, documents, sym, ℕ, ◌∷◌, ◌++◌, ◌<◌, ◌≤◌, [], ap, refl, ◌∙◌, ⊎_elim, arith, length, ◌≡◌, List, subst, Quad, Reason, Token, InForce, leaf_of, DocForm, Document, document_tokens, document_quads, event_quads, document_events, refuses, accept, at_start, ran, accept_all, Reads, IsRefusedAfter}
use Rattle.rdf_trig.specs.Events.{tokens}
use Rattle.rdf_trig.specs.Machine.{State}
use Rattle.rdf_trig.proofs.trees.TokensOfEvents.{document_told}
use Rattle.rdf_trig.proofs.trees.MarksOfEvents.{document_marks}
use Rattle.rdf_trig.proofs.machine.DueQuads.{marked_rises}
use Rattle.rdf_trig.proofs.machine.RefusedTokens.{reached_start, refused_for}
use Rattle.rdf_trig.proofs.machine.ExactDocuments.{same_due, due_ran, front_all, front_to}

-- the law of events, by its two halves
pub tree_told : (form : DocForm) (start : InForce) (d : Document form) →
    (tokens (document_events start d) ≡ document_tokens d) × (event_quads 0 (document_events start d) ≡ document_quads start 0 d)
tree_told form start d = (document_told d start, document_marks d start 0)

-- the law of marks
pub never_fall : (form : DocForm) (start : InForce) (d : Document form) → Rises 0 (event_quads 0 (document_events start d))
never_fall form start d = marked_rises (document_events start d) 0

-- the law of accepted tokens
pub begins : (form : DocForm) (start : InForce) (ts : List Token) (s : State) (qs : List Quad) → accept_all form (at_start start) ts ≡ ran s qs →
    Reads form start ts qs
begins form start ts s qs e = record { front = front_all form start ts s qs e; due = due_ran form start ts s qs e }

-- the law of refused tokens
pub stops : (form : DocForm) (start : InForce) (ts : List Token) (t : Token) (more : List Token) (s : State) (qs : List Quad) (x : Reason) →
    accept_all form (at_start start) ts ≡ ran s qs →
    accept form s t.kind (leaf_of t) ≡ refuses x → IsRefusedAfter form start ts t more x
stops form start ts t more s qs x e a = record {
  reason = refused_for form start ts t s x (reached_start form start ts s qs e) a;
  front = front_to form start ts t more s qs x e a;
}

-- where marks rise, those below a number stand in front
none_below : (qs : List Marked) (m k : ℕ) → k ≤ m → Rises m qs → items_below k qs ≡ []
none_below [] m k l r = refl
none_below (q ∷ qs) m k l r = cond-false (nat_lt q.mark k) _ _ (le-ltb _ _ (omega (arith, l, r.0))) ∙ none_below qs q.mark k (omega (arith, l, r.0)) r.1

-- quads with rising marks: those below a number come first
front_below : (qs : List Marked) (m k : ℕ) → Rises m qs → (rest : List Quad) × (unmarked qs ≡ items_below k qs ++ rest)
front_below [] m k r = ([], refl)
front_below (q ∷ qs) m k r = ⊎_elim (below (front_below qs q.mark k r.1)) after (cases_lt q.mark k)
  where
    below : (rest : List Quad) × (unmarked qs ≡ items_below k qs ++ rest) → q.mark < k →
        (rest : List Quad) × (unmarked (q ∷ qs) ≡ items_below k (q ∷ qs) ++ rest)
    below ih l = (
      ih.0,
      ap (λ x. q.item ∷ x) ih.1
          ∙ sym (ap (λ x. x ++ ih.0) (cond-true (nat_lt q.mark k) (q.item ∷ items_below k qs) (items_below k qs) (lt-ltb _ _ l))),
    )

    after : k ≤ q.mark → (rest : List Quad) × (unmarked (q ∷ qs) ≡ items_below k (q ∷ qs) ++ rest)
    after l =
        let e : items_below k (q ∷ qs) ≡ [] = cond-false (nat_lt q.mark k) (q.item ∷ items_below k qs) (items_below k qs) (le-ltb _ _ l)
        ∙ none_below qs q.mark k l r.1 in
        (unmarked (q ∷ qs), sym (ap (λ x. x ++ unmarked (q ∷ qs)) e))

-- the law of due quads that begin a document's
pub due_front : (form : DocForm) (start : InForce) (ts more : List Token) (qs : List Quad) (all : List Marked) → Due (documents form start) ts qs →
    documents form start (ts ++ more) all →
    (rest : List Quad) × (unmarked all ≡ qs ++ rest)
due_front form start ts more qs all w d =
    let r = subst (Rises 0) d.3 (never_fall form start d.0) in
    let f = front_below all 0 (length ts) r in
    let e : items_below (length ts) all ≡ qs = same_due form start ts (items_below (length ts) all) qs (more, all, d, refl) w in
    (f.0, f.1 ∙ ap (λ x. x ++ f.0) e)

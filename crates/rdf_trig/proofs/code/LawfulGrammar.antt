-- What the machine of Turtle and TriG promises a reader.
use Rattle.rdf_trig.proofs.Prelude.{◌≡◌, ◌+◌, ◌≤◌, arith, ℕ, Bool, List, [], ◌∷◌, ◌++◌, length, refl, sym, ap, ◌∙◌, subst, append_assoc, append-nil, End, Reason, Quad, Attempts, Token, Marked, unmarked, Viable, Due, PassesNone, InForce, bytes_held, leaf_of, Lawful, Takes, GivesUp, Blames, Misses, DocForm, StepFault, documents, Passes, Answer, accepts, refuses, accept, at_start, mode_size, SameState, mode_in, reason_of, state_of, Accepts, answered, Fails, Chosen, Blamed, TreeAt, tree_words}
use Rattle.rdf_trig.specs.declared.fault.StepFault.TheVariants as fault
use Rattle.rdf_trig.specs.declared.state.State.{State as Code}
use Rattle.rdf_trig.specs.Machine.{State}
use Rattle.rdf_trig.specs.Steps.{Begins}
use Rattle.rdf_trig.proofs.machine.AlikeLemmas.{state_self}
use Rattle.rdf_trig.proofs.machine.ExactDocuments.{due_ran, accepted_document, not_both}
use Rattle.rdf_trig.proofs.machine.EndOfInput.{ends_over}
use Rattle.rdf_trig.proofs.theorems.StatedLaws.{begins, stops}
use Rattle.rdf_trig.proofs.machine.RefusedTokens.{passes_none}
use Rattle.rdf_trig.proofs.machine.OneTokenMore.{runs_one, runs_refused, runs_few}

-- The words of Turtle and TriG keep what the driver asks of a grammar.
pub lawful : Lawful tree_words
lawful = record {
  due = λ g x ts qs r. due_ran x.form x.start ts r.2.machine qs r.2.accepted;
  kept = λ g x ts qs r. passes_none x.form x.start ts r.2.machine qs r.2.accepted;
  few = λ g x ts qs r. runs_few x.form x.start ts qs g.state r.2;
  whole = whole;
  ends = ends;
}
  where
    whole : (g : TreeAt) (x : Chosen) (ts : List Token) (t : Token) (qs : List Quad) → tree_words.reached g x (ts ++ t ∷ []) qs → t.kind ≡ End →
        (all : List Marked) × documents x.form x.start (ts ++ t ∷ []) all × (unmarked all ≡ qs)
    whole g x ts t qs r k =
        let m = r.2.machine in
        accepted_document x.form x.start (ts ++ t ∷ []) m qs r.2.accepted (ends_over x.form ts t (at_start x.start) m qs r.2.accepted k)

    ends : (x : Chosen) (why : Reason) (ts : List Token) (t : Token) → Blamed x.form x.start why ts t →
        Viable (documents x.form x.start) (ts ++ t ∷ []) → PassesNone (Passes x.form x.start) (ts ++ t ∷ []) → ⊥
    ends x why ts t b v n = not_both x.form x.start ts t why b v (n ts [] t refl)

-- Before the first token nothing was accepted.
pub begins_here : (g : TreeAt) (x : Chosen) → g ≡ record { form = x.form; limit = x.start.limits.token; state = at_start x.start; held = bytes_held x.start } →
    tree_words.reached g x [] []
begins_here g x e = subst (λ y. tree_words.reached y x [] []) (sym e)
    (refl, refl, record { machine = at_start x.start; accepted = refl; same = state_self (at_start x.start) }, omega arith)

-- what a token does by some form
abbrev answer : DocForm → TreeAt → Token → Answer
answer form g t = accept form g.state t.kind (leaf_of t)

module _ {S : Type 0} (takes : S → Quad → S → Type 0) (g : TreeAt) (t : Token) where
  -- what it does by another form that is the same
  by_form : (x : Chosen) (a : Answer) → g.form ≡ x.form → answer g.form g t ≡ a → answer x.form g t ≡ a
  by_form x a e h = sym (ap (λ y. answer y g t) e) ∙ h

  -- The machine accepts: the quads that it gives out were put, and it stands where the reader does.
  pub takes_token : {A : Type 0} (r : Code A) (scope : InForce) (n bytes : ℕ) (old new : S) →
      mode_size (mode_in g.form r) + bytes_held scope ≤ bytes → Accepts takes g.form (answer g.form g t) old r scope new →
      ((qs : List Quad) (m : State) → answer g.form g t ≡ accepts qs m → n ≡ length qs) →
      Takes tree_words takes g t n old (record { form = g.form; limit = g.limit; state = state_of g.form scope r; held = bytes }) new
  takes_token r scope n bytes old new enough h count = by (answer g.form g t) refl h
    where
      by : (a : Answer) → answer g.form g t ≡ a → Accepts takes g.form a old r scope new →
          Takes tree_words takes g t n old (record { form = g.form; limit = g.limit; state = state_of g.form scope r; held = bytes }) new
      by (refuses y) e h = absurd h
      by (accepts quads m) e h =
          let now = state_of g.form scope r in
          let same : SameState m now = subst (λ y. SameState y now) (sym h.1.2) (record { scope = h.1.1; graph = refl; mode = refl; ready = refl }) in
          record {
            more = quads;
            count = count quads m e;
            puts = h.0;
            limit = refl;
            reached = λ x ts qs reached. (
              reached.0,
              reached.1,
              runs_one x.form x.start ts t qs quads g.state m now reached.2
                  (by_form x (accepts quads m) reached.0 e) same,
              enough,
            );
          }

  module _ (leaves : S → Quad → S → Type 0) (failed : S → Bool) (old new : S) where
    -- a beginning of no quads
    begins_none : Begins takes leaves [] old new → new ≡ old
    begins_none h = by h.0 h.1 h.2 h.3
      where
        by : (front back : List Quad) → [] ≡ front ++ back → Attempts takes leaves old front new → new ≡ old
        by [] back e t = t
        by (q ∷ front) back e t = absurd (let z : [] ≡ q ∷ (front ++ back) = e in cc)

    -- Nothing was put, and nothing is due but what was due before.
    nothing : new ≡ old → GivesUp tree_words takes leaves g t old new
    nothing same = record {
      more = [];
      puts = same;
      due = λ x ts qs r.
          let reads = begins x.form x.start ts r.2.machine qs r.2.accepted in
          let none : qs ≡ (qs ++ []) ++ [] = sym (append-nil (qs ++ []) ∙ append-nil qs) in
          record {
            ahead = ts;
            after = t ∷ [];
            tokens = refl;
            kept = reads.front.kept;
            rest = [];
            due = subst (Due (documents x.form x.start) ts) none reads.due;
          };
    }

    -- Some of what the machine gives out was put, from the first quad on.
    tried : Begins takes leaves (answered (answer g.form g t)) old new → GivesUp tree_words takes leaves g t old new
    tried h = by (answer g.form g t) refl h
      where
        by : (a : Answer) → answer g.form g t ≡ a → Begins takes leaves (answered a) old new → GivesUp tree_words takes leaves g t old new
        by (refuses y) e h = nothing (begins_none h)
        by (accepts all n) e h = record {
          more = h.0;
          puts = h.3;
          due = λ x ts qs r.
              let us = ts ++ t ∷ [] in
              let next = runs_one x.form x.start ts t qs all g.state n n r.2 (by_form x (accepts all n) r.0 e) (state_self n) in
              let reads = begins x.form x.start us next.machine (qs ++ all) next.accepted in
              let split : qs ++ all ≡ (qs ++ h.0) ++ h.1 = ap (λ y. qs ++ y) h.2 ∙ sym (append_assoc qs h.0 h.1) in
              record {
                ahead = us;
                after = [];
                tokens = sym (append-nil us);
                kept = reads.front.kept;
                rest = h.1;
                due = subst (Due (documents x.form x.start) us) split reads.due;
              };
        }

    -- The machine refuses, and nothing was put.
    refused : (why : Reason) → (answer g.form g t ≡ refuses why) × (new ≡ old) → Blames tree_words why g t old new
    refused why f = record {
      sink = f.1;
      blames = λ x ts qs r.
          (stops x.form x.start ts t [] r.2.machine qs why r.2.accepted
          (runs_refused x.form x.start ts t qs g.state why r.2 (by_form x (refuses why) r.0 f.0))).reason;
    }

    -- The step fails for its reason, as the driver asks.
    pub misses_token : (why : StepFault) → Fails takes leaves failed why (answer g.form g t) old new →
        Misses tree_words takes leaves failed (reason_of why) g t old new
    misses_token fault.Memory f = (tried f.0, f.1)
    misses_token fault.Sink f = (tried f.0, f.1)
    misses_token why f = refused (reason_of why) f

-- A run over one token more.
use Rattle.rdf_trig.proofs.Prelude.{◌≡◌, ◌≤◌, ◌*◌, List, [], ◌∷◌, ◌++◌, length, sym, ap, ◌∙◌, subst, append_assoc, append-nil, Quad, Reason, Token, counted, InForce, leaf_of, DocForm, Answer, refuses, accepts, accept, at_start, ran, refused, with_quads, accept_all, SameState, RunsTo}
use Rattle.rdf_trig.specs.Machine.{State, go}
use Rattle.rdf_trig.proofs.machine.AcceptedTokens.{first_ran}
use Rattle.rdf_trig.proofs.machine.AlikeLemmas.{state_trans, accept_same, SameAnswer, accepts_same, refuses_same}
use Rattle.rdf_trig.proofs.machine.TwoQuadsAToken.{ran_few}

-- one token more
pub ran_one : (form : DocForm) (ts : List Token) (t : Token) (s m n : State) (rs qs : List Quad) → accept_all form s ts ≡ ran m rs →
    accept form m t.kind (leaf_of t) ≡ accepts qs n →
    accept_all form s (ts ++ t ∷ []) ≡ ran n (rs ++ qs)
ran_one form [] t s m n rs qs e a =
    let z : ran s [] ≡ ran m rs = e in
    let same : s ≡ m = cc in
    let none : [] ≡ rs = cc in
    ap (λ x. go (accept form x t.kind (leaf_of t)) (λ y. ran y [])) same
    ∙ (ap (λ x. go x (λ y. ran y [])) a ∙ (ap (ran n) (append-nil qs) ∙ ap (λ x. ran n (x ++ qs)) none))
ran_one form (u ∷ ts) t s m n rs qs e a = by (λ x gs h. ran_one form ts t x m n gs qs h a) (accept form s u.kind (leaf_of u)) e
  where
    by : ((x : State) (gs : List Quad) → accept_all form x ts ≡ ran m gs → accept_all form x (ts ++ t ∷ []) ≡ ran n (gs ++ qs)) →
        (b : Answer) → go b (λ x. accept_all form x ts) ≡ ran m rs → go b (λ x. accept_all form x (ts ++ t ∷ [])) ≡ ran n (rs ++ qs)
    by ih (refuses r) h = absurd (let z : refused r ≡ ran m rs = h in cc)
    by ih (accepts gs x) h =
        let f = first_ran gs (accept_all form x ts) m rs h in
        ap (with_quads gs) (ih x f.0 f.1) ∙ ap (ran n) (sym (append_assoc gs f.0 qs) ∙ ap (λ y. y ++ qs) (sym f.2))

-- the same from where a reader stands
pub runs_one : (form : DocForm) (start : InForce) (ts : List Token) (t : Token) (rs qs : List Quad) (old machine new : State) → RunsTo form start ts rs old →
    accept form old t.kind (leaf_of t) ≡ accepts qs machine → SameState machine new → RunsTo form start (ts ++ t ∷ []) (rs ++ qs) new
runs_one form start ts t rs qs old machine new r a s =
    let h = subst (SameAnswer (accept form r.machine t.kind (leaf_of t))) a (accept_same form r.machine old t.kind (leaf_of t) r.same) in
    let x = accepts_same (accept form r.machine t.kind (leaf_of t)) qs machine h in
    record {
      machine = x.0;
      accepted = ran_one form ts t (at_start start) r.machine x.0 rs qs r.accepted x.1;
      same = state_trans x.0 machine new x.2 s;
    }

-- what the machine refuses there
pub runs_refused : (form : DocForm) (start : InForce) (ts : List Token) (t : Token) (rs : List Quad) (old : State) (x : Reason)
    (r : RunsTo form start ts rs old) →
    accept form old t.kind (leaf_of t) ≡ refuses x → accept form r.machine t.kind (leaf_of t) ≡ refuses x
runs_refused form start ts t rs old x r a =
    let h = subst (SameAnswer (accept form r.machine t.kind (leaf_of t))) a (accept_same form r.machine old t.kind (leaf_of t) r.same) in
    refuses_same (accept form r.machine t.kind (leaf_of t)) x h

-- a reader has put at most two quads for each token, so its count of quads does not overflow
pub runs_few : (form : DocForm) (start : InForce) (ts : List Token) (qs : List Quad) (s : State) → RunsTo form start ts qs s → length qs ≤ 2 * counted ts
runs_few form start ts qs s r = ran_few form start ts r.machine qs r.accepted

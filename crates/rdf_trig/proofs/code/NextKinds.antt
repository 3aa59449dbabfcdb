-- Which kinds of tokens can come next in Turtle and TriG: those to which the machine has a reply, whatever their names stand for.
use Rattle.rdf_trig.proofs.Prelude.{◌≡◌, ◌≢◌, ◌↔◌, ◌⊎◌, inl, inr, Bool, true, false, List, [], ◌∷◌, ◌++◌, Option, Some, None, refl, sym, ap, ◌∙◌, subst, ⊎_elim, is_some, IfErr, IsErrAnd, Result, Ok, Err, Kind, Token, Viable, Sizes, InForce, Leaf, leaf_of, KnowsNext, DocForm, StepFault, Turn, in_default, trees, Start, Reply, No, Go, graph_at, is_go, mode_at, setting, Decides, reason_of, Keeps, TreeAt, tree_words}
use Rattle.rdf_terms.specs.declared.reason.Reason.TheVariants as reason
use Rattle.rdf_trig.specs.declared.fault.StepFault.TheVariants as fault
use Rattle.rdf_trig.specs.declared.state.State.{State as Code}
use Rattle.rdf_trig.specs.declared.state.Mode.{Mode as Stands}
use Rattle.rdf_trig.specs.Machine.{step}
use Rattle.rdf_trig.proofs.machine.ViableTokens.{Stand, stand, reach, reached_shaped, reach-snoc, and_on, lax, on_reply, unexpected}
use Rattle.rdf_trig.proofs.machine.RefusedTokens.{reached_start}
use Rattle.rdf_trig.proofs.code.TurnsLemmas.{turn_goes}

-- What is decided of a kind is whether the machine has a reply to it.
pub decides_goes : {A : Type 0} (form : DocForm) (r : Code A) (m : Stands) (k : Kind) (x : Option Turn) → Decides form r m k x → (s : InForce) (l : Leaf) →
    is_some x ≡ is_go (step form (setting s (graph_at r m)) (mode_at form r m) k l)
decides_goes form r m k None h s l = sym (ap is_go (h s l))
decides_goes form r m k (Some t) h s l = sym (turn_goes form r m k t h s l)

-- after tokens that were accepted, those with one more begin a tree exactly if the machine has a reply to it
one_more : (form : DocForm) (start : InForce) (ts : List Token) (t : Token) (s : Stand) → reach true form (in_default start) Start ts ≡ Some s →
    (is_go (step form s.setting s.mode t.kind (leaf_of t)) ≡ true) ↔ Viable (trees form start) (ts ++ t ∷ [])
one_more form start ts t s e = by (step form s.setting s.mode t.kind (leaf_of t)) refl
  where
    by : (y : Reply) → step form s.setting s.mode t.kind (leaf_of t) ≡ y → (is_go y ≡ true) ↔ Viable (trees form start) (ts ++ t ∷ [])
    by No h = (λ z. absurd (let y : false ≡ true = z in cc), λ v. absurd ((unexpected form start ts t s e h).1 v))
    by (Go u early now c m) h = (
      λ z.
          reached_shaped form start (ts ++ t ∷ []) (stand c m)
          (reach-snoc false form ts t (in_default start) Start ∙ ap (λ o. and_on false form o t) (lax form ts (in_default start) Start s e)
          ∙ ap (λ y. on_reply false y (λ c' m'. Some (stand c' m'))) h),
      λ v. refl,
    )

-- So the reader's answer of a kind is right after whatever tokens it has accepted.
pub knows_next : (g : TreeAt) (kind : Kind) (answer : Bool) →
    ((s : InForce) (l : Leaf) → answer ≡ is_go (step g.form (record { scope = s; graph = g.state.setting.graph }) g.state.mode kind l)) →
    KnowsNext tree_words (λ x. trees x.form x.start) g kind answer
knows_next g kind answer is x ts qs r t k =
    let m = r.2.machine in
    let l = leaf_of t in
    let same : answer ≡ is_go (step x.form m.setting m.mode t.kind l) =
    is m.setting.scope l
    ∙ ap (λ f. is_go (step f (record { scope = m.setting.scope; graph = g.state.setting.graph }) g.state.mode kind l)) r.0
    ∙ ap (λ y. is_go (step x.form (record { scope = m.setting.scope; graph = g.state.setting.graph }) y kind l)) (sym r.2.same.mode)
    ∙ ap (λ y. is_go (step x.form (record { scope = m.setting.scope; graph = y }) m.mode kind l)) (sym r.2.same.graph)
    ∙ ap (λ y. is_go (step x.form m.setting m.mode y l)) (sym k) in
    subst (λ b. (b ≡ true) ↔ Viable (trees x.form x.start) (ts ++ t ∷ [])) (sym same)
    (one_more x.form x.start ts t (stand m.setting m.mode) (reached_start x.form x.start ts m qs r.2.accepted))

-- A fault that is passed up and is not for an unexpected token says nothing of one.
pub other_fault : {T : Type 0} (r : Result T StepFault) (told : StepFault) (P : Type 0) → IsErrAnd r (λ e. e ≡ told) → (told ≡ fault.Unexpected → ⊥) →
    IfErr r (λ e. e ≡ fault.Unexpected → P)
other_fault (Ok x) told P h n = tt
other_fault (Err e) told P h n = λ u. absurd (n (sym h ∙ u))

-- a fault is that of an unexpected token, or is not
is_unexpected : (f : StepFault) → (f ≡ fault.Unexpected) ⊎ (f ≢ fault.Unexpected)
is_unexpected fault.Unexpected = inl refl
is_unexpected f = inr (λ e. cc)

-- and a reader reports it as such only where it is
pub reason_unexpected : (f : StepFault) → reason_of f ≡ reason.Unexpected → f ≡ fault.Unexpected
reason_unexpected fault.Unexpected e = refl
reason_unexpected f e = absurd (let z : reason_of f ≡ reason.Unexpected = e in cc)

-- After a fault the state and the scope are as they were, or begin anew: what a state keeps holds.
pub kept_after : {A : Type 0} (f : StepFault) (form : DocForm) (limits : Sizes) (was mid new : Code A) (before between after : InForce) →
    (f ≡ fault.Unexpected → (mid ≡ was) × (between ≡ before)) → (f ≡ fault.Unexpected → (new ≡ mid) × (after ≡ between)) →
    (f ≢ fault.Unexpected → ((form : DocForm) (sizes : Sizes) → Keeps form sizes new) × (after.limits ≡ limits)) →
    (before.limits ≡ limits) × Keeps form limits was → (after.limits ≡ limits) × Keeps form limits new
kept_after f form limits was mid new before between after one two anew i =
    ⊎_elim
    (λ u. (ap (λ (s : InForce). s.limits) ((two u).1 ∙ (one u).1) ∙ i.0, subst (Keeps form limits) (sym ((two u).0 ∙ (one u).0)) i.1))
    (λ o. ((anew o).1, (anew o).0 form limits))
    (is_unexpected f)

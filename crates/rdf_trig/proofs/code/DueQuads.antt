-- The quad that is due at a token: of the object whose quad is ready, or that the token decides.
use Rattle.rdf_trig.proofs.Prelude.{◌≡◌, ℕ, List, [], ◌++◌, Option, Some, None, length, ◌-◌, ◌⊎◌, inl, inr, refl, sym, ap, subst, ◌∙◌, ⊤, is_some, option_map, slice_get, false≢true, append-nil, Kind, LangTag, AtBase, AtPrefix, Carets, CloseParen, Quad, Leaf, InForce, DocForm, TriG, Outer, Frame, stated, kept, leaf, mode_at, level_of, place_at, place_in, up_in, outer_of, after_semicolon_at, setting, graph_of, graph_at, graph_in, mode_in, text_in, object_of, rest_of, ready_of, given, last_of, plain_term, collection_term, due_term, due_quad, IsQuadAt, IsListed, HasCome, IsAfterObject}
use Rattle.rdf_terms.specs.Terms as term
use Rattle.rdf_tokens.specs.declared.token.Token.{Token as Given}
use Rattle.rdf_trig.specs.declared.form.DocForm.TheVariants.{Turtle}
use Rattle.rdf_trig.specs.declared.state.Mode.{Mode}
use Rattle.rdf_trig.specs.declared.state.Mode.TheVariants as mode
use Rattle.rdf_trig.specs.declared.state.Outer.TheVariants as outer
use Rattle.rdf_trig.specs.declared.state.Ready.{Ready}
use Rattle.rdf_trig.specs.declared.state.Ready.TheVariants as ready
use Rattle.rdf_trig.specs.declared.state.Container.{Container}
use Rattle.rdf_trig.specs.declared.state.Container.TheVariants as container
use Rattle.rdf_trig.specs.declared.state.State.{State}
use Rattle.rdf_trig.specs.Machine as M
use Rattle.rdf_trig.specs.States.{verb_of, object_quad}
use Rattle.rdf_trig.proofs.code.FrameStack.{up_last}

-- without an object there is no quad
stated_none : (g : Option (Option term.Subject)) (s : Option term.Subject) (p : Option (List ℕ)) → stated g s p None ≡ None
stated_none (Some g) (Some s) (Some p) = refl
stated_none g s p = refl

-- nor without one that has come
object_none : (g : Option term.Subject) (m : M.Mode) → object_quad g m None ≡ None
object_none g (M.After p) = stated_none (Some g) (M.subject_at p) (M.verb_at p)
object_none g (M.PropertyListStart n (M.At p)) = stated_none (Some g) (M.subject_at p) (M.verb_at p)
object_none g m = refl

-- what is ready is the end of a collection, or the quad of an object
ready_apart : {A : Type 0} (g : Option term.Subject) (m : M.Mode) (n : State A) (h : Ready) →
    kept (ready_of g m n h) [] ≡ kept (last_of g h) [] ++ kept (object_quad g m (object_of n h)) []
ready_apart g m n ready.Nothing = sym (ap (λ x. kept x []) (object_none g m))
ready_apart g m n (ready.Nil cell) = sym (ap (λ x. kept (last_of g (ready.Nil cell)) [] ++ kept x []) (object_none g m))
ready_apart g m n ready.Resource = refl
ready_apart g m n ready.WithType = refl
ready_apart g m n ready.WithTag = refl
ready_apart g m n (ready.OfKnown k) = refl

-- in a mode without an object the last rdf:rest is all that is ready
ready_last : {A : Type 0} (g : Option term.Subject) (m : M.Mode) (n : State A) (h : Ready) → object_quad g m (object_of n h) ≡ None →
    kept (ready_of g m n h) [] ≡ kept (last_of g h) []
ready_last g m n h e = ready_apart g m n h ∙ (ap (λ x. kept (last_of g h) [] ++ kept x []) e ∙ append-nil (kept (last_of g h) []))

-- a string that the token ends
text_due : (s : InForce) (g : Option term.Subject) (w : List ℕ) (p : M.Place) (k : Kind) (l : Leaf) →
    M.waiting (setting s g) (M.AfterText w p) k l ≡ due_quad g (M.AfterText w p) (plain_term w k)
text_due s g w p LangTag l = sym (stated_none (Some g) (M.subject_at p) (M.verb_at p))
text_due s g w p AtBase l = sym (stated_none (Some g) (M.subject_at p) (M.verb_at p))
text_due s g w p AtPrefix l = sym (stated_none (Some g) (M.subject_at p) (M.verb_at p))
text_due s g w p Carets l = sym (stated_none (Some g) (M.subject_at p) (M.verb_at p))
text_due s g w p k l = refl

-- a collection whose first token has come
collection_due : (s : InForce) (g : Option term.Subject) (u : M.Up) (k : Kind) (l : Leaf) →
    M.waiting (setting s g) (M.CollectionStart u) k l ≡ due_quad g (M.CollectionStart u) (Some (collection_term k l.at.offset))
collection_due s g (M.Subject v) CloseParen l = refl
collection_due s g (M.At p) CloseParen l = refl
collection_due s g (M.Subject v) k l = refl
collection_due s g (M.At p) k l = refl

-- a mode in which no object has come
abbrev HasNone : M.Mode → Type 0
HasNone (M.After p) = ⊥
HasNone (M.AfterText w p) = ⊥
HasNone (M.PropertyListStart n u) = ⊥
HasNone (M.CollectionStart u) = ⊥
HasNone m = ⊤

-- what is ready and what waits, where the object that waits is known
joined : {A : Type 0} (g : Option term.Subject) (m : M.Mode) (n : State A) (h : Ready) (a b : Option Quad) → object_quad g m (object_of n h) ≡ None → a ≡ b →
    kept (ready_of g m n h) [] ++ kept a [] ≡ kept (last_of g h) [] ++ kept b []
joined g m n h a b e f = ap (λ x. x ++ kept a []) (ready_last g m n h e) ∙ ap (λ x. kept (last_of g h) [] ++ kept x []) f

-- so in such a mode the last rdf:rest is all
none_due : {A : Type 0} (s : InForce) (g : Option term.Subject) (m : M.Mode) (n : State A) (h : Ready) (k : Kind) (l : Leaf) → HasNone m →
    kept (ready_of g m n h) [] ++ kept (M.waiting (setting s g) m k l) [] ≡ kept (last_of g h) [] ++ kept (due_quad g m None) []
none_due s g (M.After p) n h k l e = absurd e
none_due s g (M.AfterText w p) n h k l e = absurd e
none_due s g (M.PropertyListStart b u) n h k l e = absurd e
none_due s g (M.CollectionStart u) n h k l e = absurd e
none_due s g m n h k l e = joined g m n h None None refl refl

-- outside of statements no object has come
outer_none : (o : Outer) (n : ℕ) (p : List ℕ) (g : M.Topic) → HasNone (outer_of o n p g)
outer_none outer.Start n p g = tt
outer_none o n p g = tt

-- nor after a subject
subject_none : (form : DocForm) (v : M.Level) (s : M.Topic) → HasNone (M.after_subject form v s)
subject_none form M.InBlock s = tt
subject_none Turtle M.Top s = tt
subject_none TriG M.Top s = tt

-- nor after a `;`
semicolon_none : (p : M.Place) → HasNone (after_semicolon_at p)
semicolon_none (M.Listed s p a) = tt
semicolon_none (M.InCollection first cell u) = tt

-- what is ready and what waits is the end of a collection and the quad that is due
due_apart : {A : Type 0} (form : DocForm) (s : InForce) (g : Option term.Subject) (n : State A) (m : Mode) (t : Given) →
    kept (ready_of g (mode_at form n m) n n.ready) [] ++ kept (M.waiting (setting s g) (mode_at form n m) t.kind (leaf t)) []
    ≡ kept (last_of g n.ready) [] ++ kept (due_quad g (mode_at form n m) (due_term n m t)) []
due_apart form s g n mode.After t = append-nil _ ∙ ready_apart g (M.After (place_in n)) n n.ready
due_apart form s g n mode.PropertyListStart t = append-nil _ ∙ ready_apart g (M.PropertyListStart n.bracket (up_in n)) n n.ready
due_apart form s g n mode.AfterText t =
    let m = M.AfterText (text_in n) (place_in n) in joined g m n n.ready _ _ refl (text_due s g (text_in n) (place_in n) t.kind (leaf t))
due_apart form s g n mode.CollectionStart t =
    let m = M.CollectionStart (up_in n) in joined g m n n.ready _ _ refl (collection_due s g (up_in n) t.kind (leaf t))
due_apart form s g n (mode.Outer o) t =
    let m = outer_of o n.bracket (text_in n) n.graph in none_due s g m n n.ready t.kind (leaf t) (outer_none o n.bracket (text_in n) n.graph)
due_apart form s g n mode.AfterSubject t =
    let v = level_of n.level in
    none_due s g (M.after_subject form v n.frame.subject) n n.ready t.kind (leaf t) (subject_none form v n.frame.subject)
due_apart form s g n mode.AfterSemicolon t = none_due s g (after_semicolon_at (place_in n)) n n.ready t.kind (leaf t) (semicolon_none (place_in n))
due_apart form s g n m t = none_due s g (mode_at form n m) n n.ready t.kind (leaf t) tt

-- the quads that a token determines, one by one
kept_apart : (q r w : Option Quad) → kept q (kept r []) ++ kept w [] ≡ kept q [] ++ (kept r [] ++ kept w [])
kept_apart None None w = refl
kept_apart None (Some r) w = refl
kept_apart (Some q) None w = refl
kept_apart (Some q) (Some r) w = refl

-- the three quads that a token may give out, in the words of the reader's state
given_apart : {A : Type 0} (form : DocForm) (s : InForce) (n : State A) (t : Given) → let g = graph_in n in
    given form s n t ≡ kept (rest_of g n.rest) [] ++ (kept (last_of g n.ready) [] ++ kept (due_quad g (mode_in form n) (due_term n n.mode t)) [])
given_apart form s n t =
    let g = graph_in n in
    kept_apart (rest_of g n.rest) (ready_of g (mode_in form n) n n.ready) _ ∙ ap (λ x. kept (rest_of g n.rest) [] ++ x) (due_apart form s g n n.mode t)

-- for equal quads
in_row : (q a r b w c : Option Quad) → q ≡ a → r ≡ b → w ≡ c → kept a [] ++ (kept b [] ++ kept c []) ≡ kept q [] ++ (kept r [] ++ kept w [])
in_row q a r b w c e f g =
    sym (ap (λ x. kept x [] ++ (kept b [] ++ kept c [])) e)
    ∙ (sym (ap (λ x. kept q [] ++ (kept x [] ++ kept c [])) f) ∙ sym (ap (λ x. kept q [] ++ (kept r [] ++ kept x [])) g))

-- so the quads that the code makes are what the token gives out
pub given_in : {A : Type 0} (form : DocForm) (s : InForce) (n : State A) (t : Given) (g : Option term.Subject) (q r w : Option Quad) →
    g ≡ graph_in n → q ≡ rest_of g n.rest → r ≡ last_of g n.ready → w ≡ due_quad g (mode_in form n) (due_term n n.mode t) →
    given form s n t ≡ kept q [] ++ (kept r [] ++ kept w [])
given_in form s n t g q r w e a b c =
    given_apart form s n t
    ∙ in_row q _ r _ w _
    (a ∙ ap (λ x. rest_of x n.rest) e)
    (b ∙ ap (λ x. last_of x n.ready) e)
    (c ∙ ap (λ x. due_quad x (mode_in form n) (due_term n n.mode t)) e)

-- the quad that is due at the place in hand
pub due_here : {A : Type 0} (form : DocForm) (n : State A) (m : Mode) (t : Given) (g : Option term.Subject) (o : term.Term) (q : Option Quad) →
    (m ≡ mode.After) ⊎ (m ≡ mode.AfterText) → Some o ≡ due_term n m t → IsQuadAt n.frame g o q → q ≡ due_quad g (mode_at form n m) (due_term n m t)
due_here form n m t g o q (inl e) d at =
    at (level_of n.level) (up_in n) ∙ (sym (ap (λ x. due_quad g (mode_at form n x) (Some o)) e) ∙ ap (due_quad g (mode_at form n m)) d)
due_here form n m t g o q (inr e) d at =
    at (level_of n.level) (up_in n) ∙ (sym (ap (λ x. due_quad g (mode_at form n x) (Some o)) e) ∙ ap (due_quad g (mode_at form n m)) d)

-- the quad that is due at the place of the last frame, which is what a bracket stands for
pub due_above : {A : Type 0} (form : DocForm) (n : State A) (m : Mode) (t : Given) (g : Option term.Subject) (o : term.Term) (f : Frame A) (q : Option Quad) →
    (m ≡ mode.After → ⊥) → (m ≡ mode.AfterText → ⊥) → Some o ≡ due_term n m t → Some f ≡ slice_get n.frames.items (length n.frames.items - 1) →
    IsQuadAt f g o q → q ≡ due_quad g (mode_at form n m) (due_term n m t)
due_above form n mode.After t g o f q a b d l at = absurd (a refl)
due_above form n mode.AfterText t g o f q a b d l at = absurd (b refl)
due_above form n mode.PropertyListStart t g o f q a b d l at =
    let v = level_of n.level in
    let u = up_last v n.frames.items (M.Subject v) f (sym l) in
    at v u.0 ∙ (sym (ap (λ x. due_quad g (M.PropertyListStart n.bracket x) (Some o)) u.1) ∙ ap (due_quad g (M.PropertyListStart n.bracket (up_in n))) d)
due_above form n mode.CollectionStart t g o f q a b d l at =
    let v = level_of n.level in
    let u = up_last v n.frames.items (M.Subject v) f (sym l) in
    at v u.0 ∙ (sym (ap (λ x. due_quad g (M.CollectionStart x) (Some o)) u.1) ∙ ap (due_quad g (M.CollectionStart (up_in n))) d)
due_above form n m t g o f q a b d l at = absurd (false≢true (sym (ap is_some d)))

-- after an object no collection has ended
last_none : (g : Option term.Subject) (m : Mode) (h : Ready) → HasCome m h → last_of g h ≡ None
last_none g mode.After (ready.Nil cell) e = absurd e
last_none g mode.AfterText (ready.Nil cell) e = absurd e
last_none g m (ready.Nil cell) e = absurd e
last_none g m h e = refl

-- after an object of a predicate list its quad is given out alone
given_alone : {A : Type 0} (form : DocForm) (s : InForce) (n : State A) (t : Given) (q : Option Quad) → IsAfterObject n →
    q ≡ due_quad (graph_in n) (mode_in form n) (due_term n n.mode t) → given form s n t ≡ kept q []
given_alone form s n t q after e =
    let g = graph_in n in given_in form s n t g None None q refl (sym (ap (rest_of g) after.0)) (sym (last_none g n.mode n.ready after.2)) e

-- where an object has come its place is that in hand, in the graph of the statement
come_here : (m : Mode) (h : Ready) → HasCome m h → (m ≡ mode.After) ⊎ (m ≡ mode.AfterText)
come_here mode.After h e = inl refl
come_here mode.AfterText h e = inr refl
come_here m h e = absurd e

come_graph : {A : Type 0} (n : State A) (m : Mode) (h : Ready) → HasCome m h → graph_of n.level n.graph ≡ graph_at n m
come_graph n mode.After h e = refl
come_graph n mode.AfterText h e = refl
come_graph n m h e = absurd e

-- so where the object is known
pub given_listed : {A : Type 0} (form : DocForm) (s : InForce) (n : State A) (t : Given) (o : term.Term) (q : Option Quad) → IsAfterObject n →
    Some o ≡ due_term n n.mode t → IsQuadAt n.frame (graph_of n.level n.graph) o q → given form s n t ≡ kept q []
given_listed form s n t o q after d at =
    given_alone form s n t q after
    (due_here form n n.mode t (graph_in n) o q (come_here n.mode n.ready after.2) d
    (subst (λ g. IsQuadAt n.frame g o q) (come_graph n n.mode n.ready after.2) at))

-- without an object there is no quad, whatever the mode is
due_none : (g : Option term.Subject) (m : M.Mode) → due_quad g m None ≡ None
due_none g (M.AfterText w p) = stated_none (Some g) (M.subject_at p) (M.verb_at p)
due_none g (M.CollectionStart (M.At p)) = stated_none (Some g) (M.subject_at p) (M.verb_at p)
due_none g m = object_none g m

-- so where no object has come nothing is given out
pub given_none : {A : Type 0} (form : DocForm) (s : InForce) (n : State A) (t : Given) → IsAfterObject n → None ≡ due_term n n.mode t → given form s n t ≡ []
given_none form s n t after d =
    let g = graph_in n in
    given_alone form s n t None after (sym (due_none g (mode_in form n)) ∙ ap (due_quad g (mode_in form n)) d)

-- an object whose quad is ready is the one that is due
come_due : {A : Type 0} (n : State A) (m : Mode) (t : Given) → HasCome m n.ready → n.ready ≡ ready.Resource → object_of n n.ready ≡ due_term n m t
come_due n mode.After t h e = refl
come_due n mode.AfterText t h e = absurd (subst (HasCome mode.AfterText) e h)
come_due n m t h e = absurd h

-- where it is an IRI its quad is given out, whatever the token is
pub given_iri : {A : Type 0} (form : DocForm) (s : InForce) (n : State A) (t : Given) (i : List ℕ) (q : Option Quad) → IsAfterObject n →
    n.ready ≡ ready.Resource → Some (term.Iri i) ≡ n.object.term → IsQuadAt n.frame (graph_of n.level n.graph) (term.Resource (term.Iri i)) q →
    given form s n t ≡ kept q []
given_iri form s n t i q after e o at =
    let due = ap (option_map term.Resource) o ∙ (sym (ap (object_of n) e) ∙ come_due n n.mode t after.2 e) in
    given_listed form s n t (term.Resource (term.Iri i)) q after due at

-- a quad of three IRIs is that of its object at the place of a predicate list in the default graph
pub iris_at : {A : Type 0} (f : Frame A) (g : Option term.Subject) (s p : List ℕ) (o : term.Term) → IsListed f.container → g ≡ None →
    Some (term.Iri s) ≡ f.subject.term → p ≡ verb_of f.verb → IsQuadAt f g o (Some (record { subject = term.Iri s; predicate = p; object = o; graph = None }))
iris_at {A} f g s p o listed none subject verb v u = by f.container listed
  where
    by : (c : Container) → IsListed c → let x = place_at v c f.subject f.verb u in
        Some (record { subject = term.Iri s; predicate = p; object = o; graph = None }) ≡ stated (Some g) (M.subject_at x) (M.verb_at x) (Some o)
    by (container.List a) l =
        ap (λ w. Some (record { subject = term.Iri s; predicate = w; object = o; graph = None })) verb
        ∙ (ap (λ x. stated (Some x) (Some (term.Iri s)) (Some (verb_of f.verb)) (Some o)) (sym none)
        ∙ ap (λ x. stated (Some g) x (Some (verb_of f.verb)) (Some o)) subject)
    by (container.Cells first cell) l = absurd l

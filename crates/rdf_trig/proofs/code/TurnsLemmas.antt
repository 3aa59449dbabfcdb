-- What parts of the table mean, and what is known of each turn and of the states after it.
use Rattle.rdf_trig.proofs.Prelude.{◌≡◌, ℕ, Option, None, List, Result, Ok, Err, true, Some, refl, sym, ap, subst, ◌∙◌, OnOk, IfOk, IfErr, IfSome, MatchOption, is_some, InForce, Kind, Quad, Leaf, DocForm, TriG, StepFault, Turn, Use, topic_at, Setting, cell_at, rest_quad, Reply, Go, IsNamedIn, NameIn, is_go, name_at, use_in, scope_in, cells_quad, first_of, after_semicolon_at, up_in, place_in, level_of, graph_of, graph_at, setting, setting_in, mode_at, moved, Means, Decides, IsTurn, IsSuited, Suits, begun, turned}
use Rattle.rdf_terms.specs.Terms as term
use Rattle.rdf_trig.specs.declared.form.DocForm.TheVariants.{Turtle}
use Rattle.rdf_trig.specs.declared.slots.SubjectKind.{SubjectKind}
use Rattle.rdf_trig.specs.declared.slots.SubjectKind.TheVariants as kind
use Rattle.rdf_trig.specs.declared.state.Block.{Block}
use Rattle.rdf_trig.specs.declared.state.Level.{Level}
use Rattle.rdf_trig.specs.declared.state.Level.TheVariants as level
use Rattle.rdf_trig.specs.declared.state.State.{State}
use Rattle.rdf_trig.specs.declared.state.Mode.{Mode}
use Rattle.rdf_trig.specs.declared.state.Ready.TheVariants as ready
use Rattle.rdf_trig.specs.declared.turn.ObjectStart.{ObjectStart}
use Rattle.rdf_trig.specs.declared.turn.ObjectStart.TheVariants as object
use Rattle.rdf_trig.specs.declared.turn.Turn.TheVariants as turn
use Rattle.rdf_trig.specs.Machine as M
use Rattle.rdf_trig.specs.States.{cell_of}

-- what a success brings leads on to what it is to bring
pub on_ok : {T E : Type 0} (r : Result T E) (P Q : Type 0) → (P → Q) → OnOk r P → OnOk r Q
on_ok (Ok x) P Q f h = f h
on_ok (Err e) P Q f h = tt

-- so too for what it answers
pub if_ok : {T E : Type 0} (r : Result T E) (P Q : T → Type 0) → ((x : T) → P x → Q x) → IfOk r P → IfOk r Q
if_ok (Ok x) P Q f h = f x h
if_ok (Err e) P Q f h = tt

-- so too for an error
pub if_err : {T : Type 0} (r : Result T StepFault) (P Q : StepFault → Type 0) → ((e : StepFault) → P e → Q e) → IfErr r P → IfErr r Q
if_err (Ok x) P Q f h = tt
if_err (Err e) P Q f h = f e h

-- what a part of the machine means, another part means that replies alike
pub means_at : {A : Type 0} (form : DocForm) (r : State A) (k : Kind) (x : Option Turn) (f g : InForce → Leaf → Reply) →
    ((s : InForce) (l : Leaf) → g s l ≡ f s l) → Means form r k x f → Means form r k x g
means_at form r k None f g e h = λ s l. e s l ∙ h s l
means_at form r k (Some t) f g e h = λ s l i n. e s l ∙ h s l i n

-- what is decided in a mode is decided in a state that stands in it
pub decides_at : {A : Type 0} (form : DocForm) (r : State A) (k : Kind) (x : Option Turn) (m : Mode) →
    r.mode ≡ m → Decides form r m k x → Decides form r r.mode k x
decides_at form r k x m e h = subst (λ m. Decides form r m k x) (sym e) h

-- the reply of a state that holds nothing
pub stands_at : {A : Type 0} (form : DocForm) (s : InForce) (u : Use) (old new : State A) (m : Mode) (g : Option term.Subject) (x : M.Mode) →
    new ≡ record old { rest = None; ready = ready.Nothing; mode = m } → graph_at old m ≡ g →
    mode_at form old m ≡ x → Go u None None (setting s g) x ≡ moved form s u new
stands_at form s u old new m g x is e f =
    subst (λ n. Go u None None (setting s g) x ≡ moved form s u n) (sym is)
    (let h = graph_at old m in
    subst (λ y. Go u None None (setting s y) x ≡ Go u None None (setting s h) (mode_at form old m)) e
    (ap (λ y. Go u None None (setting s h) y) (sym f)))

-- the subject of a kind and a text is some term
pub has_term : (k : SubjectKind) (w : List ℕ) → is_some (topic_at k w).term ≡ true
has_term kind.Iri w = refl
has_term kind.Label w = refl
has_term (kind.Anon n) w = refl
has_term (kind.Cell n) w = refl
has_term kind.Nil w = refl

-- the reply of a state after the end of a collection
pub ended_at : {A : Type 0} (form : DocForm) (s : InForce) (u : Use) (old : State A) (m : Mode) (g : Option term.Subject) (x : M.Mode)
    (n : ℕ) (y : Option (ℕ × ℕ)) →
    y ≡ None → graph_at old m ≡ g → mode_at form old m ≡ x →
    Go u None (cells_quad g n M.nil) (setting s g) x ≡ moved form s u (record old { rest = y; ready = ready.Nil n; mode = m })
ended_at form s u old m g x n y none e f =
    subst (λ z. Go u None (cells_quad g n M.nil) (setting s g) x ≡ moved form s u (record old { rest = z; ready = ready.Nil n; mode = m })) (sym none)
    (let h = graph_at old m in
    subst (λ z. Go u None (cells_quad z n M.nil) (setting s z) x ≡ Go u None (cells_quad h n M.nil) (setting s h) (mode_at form old m)) e
    (ap (λ z. Go u None (cells_quad h n M.nil) (setting s h) z) (sym f)))

-- after a subject each token's IRI is looked up as anywhere in a statement, so what its mode means decides the turn
pub subject_decides : {A : Type 0} (form : DocForm) (r : State A) (v : Level) (k : Kind) (x : Option Turn) →
    let m = M.after_subject form (level_of v) r.frame.subject in
    Means form r k x (λ s. M.step form (setting s (graph_of v r.graph)) m k) →
    MatchOption x ((s : InForce) (l : Leaf) → M.step form (setting s (graph_of v r.graph)) m k l ≡ M.No)
    (λ t. (s : InForce) (l : Leaf) (i : Option (List ℕ)) → NameIn s m k l i →
    M.step form (setting s (graph_of v r.graph)) m k l ≡ turned form r (scope_in s m k l) (use_in s m k l) i t l)
subject_decides TriG r level.Top k x h = h
subject_decides TriG r (level.Block b) k x h = h
subject_decides Turtle r level.Top k x h = h
subject_decides Turtle r (level.Block b) k x h = h

-- so too after a `;`
pub semicolon_decides : {A : Type 0} (form : DocForm) (r : State A) (p : M.Place) (k : Kind) (x : Option Turn) →
    Means form r k x (λ s. M.step form (setting_in s r) (after_semicolon_at p) k) →
    MatchOption x ((s : InForce) (l : Leaf) → M.step form (setting_in s r) (after_semicolon_at p) k l ≡ M.No)
    (λ t. (s : InForce) (l : Leaf) (i : Option (List ℕ)) → NameIn s (after_semicolon_at p) k l i →
    M.step form (setting_in s r) (after_semicolon_at p) k l ≡ turned form r (scope_in s (after_semicolon_at p) k l) (use_in s (after_semicolon_at p) k l) i t l)
semicolon_decides form r (M.Listed s p a) k x h = h
semicolon_decides form r (M.InCollection first cell u) k x h = h

-- tokens that suit a turn with their IRIs do so after a subject and after a `;`
pub subject_suits : {A : Type 0} (form : DocForm) (r : State A) (v : Level) (k : Kind) (x : Option Turn) → IfSome x (IsSuited k) →
    IfSome x (λ t. (i : Option (List ℕ)) → IsNamedIn (M.after_subject form (level_of v) r.frame.subject) k i → Suits t k i)
subject_suits TriG r level.Top k x h = h
subject_suits TriG r (level.Block b) k x h = h
subject_suits Turtle r level.Top k x h = h
subject_suits Turtle r (level.Block b) k x h = h

pub semicolon_suits : (p : M.Place) (k : Kind) (x : Option Turn) → IfSome x (IsSuited k) →
    IfSome x (λ t. (i : Option (List ℕ)) → IsNamedIn (after_semicolon_at p) k i → Suits t k i)
semicolon_suits (M.Listed s p a) k x h = h
semicolon_suits (M.InCollection first cell u) k x h = h

-- after a subject in a block a verb comes
pub block_verb : (form : DocForm) (c : Setting) (x : M.Topic) (k : Kind) (l : Leaf) (v : Level) (b : Block) → v ≡ level.Block b →
    M.step form c (M.after_subject form (level_of v) x) k l ≡ M.verb_start c x (M.Statement (level_of v)) k l
block_verb form c x k l v b e =
    subst (λ v. M.step form c (M.after_subject form (level_of v) x) k l ≡ M.verb_start c x (M.Statement (level_of v)) k l) (sym e) refl

-- so too in Turtle
pub turtle_verb : (form : DocForm) (c : Setting) (x : M.Topic) (k : Kind) (l : Leaf) (v : Level) → form ≡ Turtle →
    M.step form c (M.after_subject form (level_of v) x) k l ≡ M.verb_start c x (M.Statement (level_of v)) k l
turtle_verb form c x k l v e =
    subst (λ f. M.step f c (M.after_subject f (level_of v) x) k l ≡ M.verb_start c x (M.Statement (level_of v)) k l) (sym e) (by v)
  where
    by : (v : Level) → M.step Turtle c (M.after_subject Turtle (level_of v) x) k l ≡ M.verb_start c x (M.Statement (level_of v)) k l
    by level.Top = refl
    by (level.Block b) = refl

-- in TriG, outside of a block, it may be a graph's label
pub label_or_verb : (form : DocForm) (s : InForce) (g x : M.Topic) (k : Kind) (l : Leaf) (v : Level) → form ≡ TriG → v ≡ level.Top →
    M.step form (setting s (graph_of v g)) (M.after_subject form (level_of v) x) k l ≡ M.after_label (setting s None) x k l
label_or_verb form s g x k l v e f =
    subst (λ z. M.step z (setting s (graph_of v g)) (M.after_subject z (level_of v) x) k l ≡ M.after_label (setting s None) x k l) (sym e)
    (subst (λ z. M.step TriG (setting s (graph_of z g)) (M.after_subject TriG (level_of z) x) k l ≡ M.after_label (setting s None) x k l) (sym f) refl)

-- a turn is a reply that goes on
begun_goes : (c : Setting) (u : Use) (i : Option (List ℕ)) (p : M.Place) (early : Option Quad) (b : ObjectStart) (l : Leaf) →
    is_go (begun c u i p early b l) ≡ true
begun_goes c u i p early object.Name l = refl
begun_goes c u i p early b l = refl

turned_goes : {A : Type 0} (form : DocForm) (r : State A) (s : InForce) (u : Use) (i : Option (List ℕ)) (t : Turn) (l : Leaf) →
    is_go (turned form r s u i t l) ≡ true
turned_goes form r s u i (turn.Object b) l = begun_goes (setting_in s r) u i (place_in r) None b l
turned_goes form r s u i (turn.FirstItem b) l = begun_goes (setting_in s r) u i (M.InCollection l.at.offset l.at.offset (up_in r)) None b l
turned_goes form r s u i (turn.NextItem b) l =
    let c = setting_in s r in
    let here = r.frame.container in
    begun_goes c u i (M.InCollection (first_of here) l.at.offset (up_in r)) (rest_quad c (term.Cell (cell_of here)) (term.Blank (cell_at l))) b l
turned_goes form r s u i t l = refl

-- what a token stands for in a mode, if that matters
name_here : (s : InForce) (m : M.Mode) (k : Kind) (l : Leaf) → NameIn s m k l (name_at s k l)
name_here s (M.WantPrefix w) k l = tt
name_here s (M.WantPrefixIri w p) k l = tt
name_here s (M.WantBaseIri w) k l = tt
name_here s m k l = refl

-- where there is a turn the grammar allows the token
pub turn_goes : {A : Type 0} (form : DocForm) (r : State A) (m : Mode) (k : Kind) (t : Turn) → IsTurn form r m k t → (s : InForce) (l : Leaf) →
    is_go (M.step form (setting s (graph_at r m)) (mode_at form r m) k l) ≡ true
turn_goes form r m k t h s l =
    let n = mode_at form r m in
    ap is_go (h s l (name_at s k l) (name_here s n k l)) ∙ turned_goes form r (scope_in s n k l) (use_in s n k l) (name_at s k l) t l

-- a turn asks nothing of the name that the state has
pub turned_named : {A : Type 0} (form : DocForm) (r : State A) (x : Option (List ℕ)) (s : InForce) (u : Use) (i : Option (List ℕ)) (t : Turn) (l : Leaf) →
    turned form (record r { name = x }) s u i t l ≡ turned form r s u i t l
turned_named form r x s u i (turn.Lead o) l = refl
turned_named form r x s u i t l = refl

-- The machine answers alike where the look-ups of its scope do.
use Rattle.rdf_trig.proofs.Prelude.{◌≡◌, ℕ, Bool, true, false, cond, List, [], ◌&&◌, Option, Some, None, refl, ap, ◌∙◌, subst, nat_le, Kind, IriRef, LabelNode, ShortString, LongString, LangTag, Carets, Dot, Integer, Decimal, Double, True, False, A, AtPrefix, AtBase, Prefix, Base, Graph, PnameNs, PnameLn, Semicolon, Comma, OpenBracket, CloseBracket, OpenParen, CloseParen, OpenBrace, CloseBrace, End, Anon, Cell, Blank, Quad, Reason, TooDeep, IriTooLong, TooManyBindings, Sizes, InForce, Leaf, DocForm, TriG, reference_in, name_in, with_base, with_binding, is_full, SameNames, Setting, named, node, resource, typed_literal, cell_at, rest_quad, Use, itself, stands, binds, Topic, sized, spelt, Top, InBlock, Listed, InCollection, Around, Statement, InPropertyList, Up, At, Start, Over, WantPrefix, WantPrefixIri, WantBaseIri, WantDot, AfterLabel, GraphWord, GraphBracket, WantBrace, Inside, Want, After, AfterText, WantType, PropertyListStart, CollectionStart, WantVerb, AfterSemicolon, AfterPropertyList, Reply, No, Go, quad_at, object_start, want_type, verb_start, after_subject, predicate_list_end, after_semicolon, after_text, property_list_start, collection_start, after_property_list, subject_start, start, want_brace, after_label, graph_bracket, want_prefix, want_prefix_iri, want_base_iri, want_dot, waiting, depth, kept, Answer, refuses, accepts, too_long, by_use, deepens, answer, accept, SameState}
use Rattle.rdf_terms.specs.Terms as term
use Rattle.rdf_trig.specs.Machine.{Level, Place, Subject, Spelling, Mode, after, inside, graph_word, step}
use Rattle.rdf_trig.specs.Machine.{State}
use Rattle.rdf_trig.proofs.trees.NamesLemmas.{binds_prefix}
use Rattle.rdf_trig.proofs.trees.ScopeCalls.{same_itself, same_reference, same_name, same_full, same_based, same_binding}

-- a state agrees with itself
pub state_self : (s : State) → SameState s s
state_self s = record { scope = same_itself s.setting.scope; graph = refl; mode = refl; ready = refl }

-- scopes that agree with a third agree
scope_trans : (a b c : InForce) → SameNames a b → SameNames b c → SameNames a c
scope_trans a b c f g = record { base = f.base ∙ g.base; limits = f.limits ∙ g.limits; bound = λ q. f.bound q ∙ g.bound q; count = f.count ∙ g.count }

-- states that agree with a third agree
pub state_trans : (a b c : State) → SameState a b → SameState b c → SameState a c
state_trans a b c f g = record {
  scope = scope_trans a.setting.scope b.setting.scope c.setting.scope f.scope g.scope;
  graph = f.graph ∙ g.graph;
  mode = f.mode ∙ g.mode;
  ready = f.ready ∙ g.ready;
}

-- the same graph, and scopes that agree
abbrev SameSetting : Setting → Setting → Type 0
SameSetting c d = SameNames c.scope d.scope × (c.graph ≡ d.graph)

-- replies that differ in the order of their bindings alone
abbrev SameReply : Reply → Reply → Type 0
SameReply No No = Unit {0}
SameReply (Go u e n c m) (Go v f o d k) = (u ≡ v) × (e ≡ f) × (n ≡ o) × SameSetting c d × (m ≡ k)
SameReply a b = ⊥

module _ (s t : InForce) (same : SameNames s t) where
  reference : (l : Leaf) → reference_in s l ≡ reference_in t l
  reference l = same_reference s t l same

  name : (l : Leaf) → name_in s l ≡ name_in t l
  name l = same_name s t l same

  full : (p : List ℕ) → is_full s p ≡ is_full t p
  full p = same_full s t p same

  base_after : (i : Option (List ℕ)) → SameNames (with_base s i) (with_base t i)
  base_after None = same
  base_after (Some i) = same_based s t i same

  binding_after : (p : List ℕ) (i : Option (List ℕ)) → SameNames (with_binding s p i) (with_binding t p i)
  binding_after p None = same
  binding_after p (Some i) = same_binding s t (with_binding s p (Some i)) p i same (binds_prefix s p i)

  abbrev from : Option (Option term.Subject) → Setting
  from g = record { scope = s; graph = g }

  abbrev to : Option (Option term.Subject) → Setting
  to g = record { scope = t; graph = g }

  by_name : (now : Option (List ℕ) → Option Quad) (m : Option (List ℕ) → Mode) (g : Option (Option term.Subject)) (early : Option Quad)
      (i j : Option (List ℕ)) → i ≡ j →
      SameReply (Go (stands i) early (now i) (from g) (m i)) (Go (stands j) early (now j) (to g) (m j))
  by_name now m g early i j e = (ap stands e, refl, ap now e, (same, refl), ap m e)

  object_same : (g : Option (Option term.Subject)) (p : Place) (early : Option Quad) (k : Kind) (l : Leaf) →
      SameReply (object_start (from g) p early k l) (object_start (to g) p early k l)
  object_same g p early IriRef l = by_name (λ i. quad_at (from g) p (resource (named i))) (λ i. After p) g early _ _ (reference l)
  object_same g p early PnameLn l = by_name (λ i. quad_at (from g) p (resource (named i))) (λ i. After p) g early _ _ (name l)
  object_same g p early PnameNs l = by_name (λ i. quad_at (from g) p (resource (named i))) (λ i. After p) g early _ _ (name l)
  object_same g p early LabelNode l = (refl, refl, refl, (same, refl), refl)
  object_same g p early ShortString l = (refl, refl, refl, (same, refl), refl)
  object_same g p early LongString l = (refl, refl, refl, (same, refl), refl)
  object_same g p early Integer l = (refl, refl, refl, (same, refl), refl)
  object_same g p early Decimal l = (refl, refl, refl, (same, refl), refl)
  object_same g p early Double l = (refl, refl, refl, (same, refl), refl)
  object_same g p early True l = (refl, refl, refl, (same, refl), refl)
  object_same g p early False l = (refl, refl, refl, (same, refl), refl)
  object_same g p early OpenBracket l = (refl, refl, refl, (same, refl), refl)
  object_same g p early OpenParen l = (refl, refl, refl, (same, refl), refl)
  object_same g p early k l = tt

  verb_same : (g : Option (Option term.Subject)) (x : Topic) (a : Around) (k : Kind) (l : Leaf) →
      SameReply (verb_start (from g) x a k l) (verb_start (to g) x a k l)
  verb_same g x a IriRef l = by_name (λ i. None) (λ i. Want (Listed x (spelt i) a)) g None _ _ (reference l)
  verb_same g x a PnameLn l = by_name (λ i. None) (λ i. Want (Listed x (spelt i) a)) g None _ _ (name l)
  verb_same g x a PnameNs l = by_name (λ i. None) (λ i. Want (Listed x (spelt i) a)) g None _ _ (name l)
  verb_same g x a A l = (refl, refl, refl, (same, refl), refl)
  verb_same g x a k l = tt

  end_same : (g : Option (Option term.Subject)) (x : Topic) (a : Around) (k : Kind) (l : Leaf) →
      SameReply (predicate_list_end (from g) x a k l) (predicate_list_end (to g) x a k l)
  end_same g x (Statement Top) Dot l = (refl, refl, refl, (same, refl), refl)
  end_same g x (Statement InBlock) Dot l = (refl, refl, refl, (same, refl), refl)
  end_same g x (Statement InBlock) CloseBrace l = (refl, refl, refl, (same, refl), refl)
  end_same g x (InPropertyList u) CloseBracket l = (refl, refl, refl, (same, refl), refl)
  end_same g x (Statement Top) k l = tt
  end_same g x (Statement InBlock) k l = tt
  end_same g x (InPropertyList u) k l = tt

  semicolon_same : (g : Option (Option term.Subject)) (x : Topic) (a : Around) (k : Kind) (l : Leaf) →
      SameReply (after_semicolon (from g) x a k l) (after_semicolon (to g) x a k l)
  semicolon_same g x a Semicolon l = (refl, refl, refl, (same, refl), refl)
  semicolon_same g x a IriRef l = verb_same g x a IriRef l
  semicolon_same g x a PnameLn l = verb_same g x a PnameLn l
  semicolon_same g x a PnameNs l = verb_same g x a PnameNs l
  semicolon_same g x a A l = verb_same g x a A l
  semicolon_same g x a k l = end_same g x a k l

  after_same : (g : Option (Option term.Subject)) (p : Place) (k : Kind) (l : Leaf) → SameReply (after (from g) p k l) (after (to g) p k l)
  after_same g (Listed x v a) Comma l = (refl, refl, refl, (same, refl), refl)
  after_same g (Listed x v a) Semicolon l = (refl, refl, refl, (same, refl), refl)
  after_same g (Listed x v a) k l = end_same g x a k l
  after_same g (InCollection f n u) CloseParen l = (refl, refl, refl, (same, refl), refl)
  after_same g (InCollection f n u) k l = object_same g (InCollection f l.at.offset u) (rest_quad (from g) (Cell n) (Blank (cell_at l))) k l

  text_same : (g : Option (Option term.Subject)) (w : List ℕ) (p : Place) (k : Kind) (l : Leaf) →
      SameReply (after_text (from g) w p k l) (after_text (to g) w p k l)
  text_same g w p LangTag l = (refl, refl, refl, (same, refl), refl)
  text_same g w p AtBase l = (refl, refl, refl, (same, refl), refl)
  text_same g w p AtPrefix l = (refl, refl, refl, (same, refl), refl)
  text_same g w p Carets l = (refl, refl, refl, (same, refl), refl)
  text_same g w p k l = after_same g p k l

  type_same : (g : Option (Option term.Subject)) (w : List ℕ) (p : Place) (k : Kind) (l : Leaf) →
      SameReply (want_type (from g) w p k l) (want_type (to g) w p k l)
  type_same g w p IriRef l = by_name (λ i. quad_at (from g) p (typed_literal w i)) (λ i. After p) g None _ _ (reference l)
  type_same g w p PnameLn l = by_name (λ i. quad_at (from g) p (typed_literal w i)) (λ i. After p) g None _ _ (name l)
  type_same g w p PnameNs l = by_name (λ i. quad_at (from g) p (typed_literal w i)) (λ i. After p) g None _ _ (name l)
  type_same g w p k l = tt

  brackets_same : (form : DocForm) (g : Option (Option term.Subject)) (n : ℕ) (u : Up) (k : Kind) (l : Leaf) →
      SameReply (property_list_start form (from g) n u k l) (property_list_start form (to g) n u k l)
  brackets_same form g n u CloseBracket l = (refl, refl, refl, (same, refl), refl)
  brackets_same form g n u k l = verb_same g (sized (node (Anon n))) (InPropertyList u) k l

  collection_start_same : (g : Option (Option term.Subject)) (u : Up) (k : Kind) (l : Leaf) →
      SameReply (collection_start (from g) u k l) (collection_start (to g) u k l)
  collection_start_same g u CloseParen l = (refl, refl, refl, (same, refl), refl)
  collection_start_same g u k l = object_same g (InCollection l.at.offset l.at.offset u) None k l

  after_brackets_same : (g : Option (Option term.Subject)) (x : Topic) (v : Level) (k : Kind) (l : Leaf) →
      SameReply (after_property_list (from g) x v k l) (after_property_list (to g) x v k l)
  after_brackets_same g x v IriRef l = verb_same g x (Statement v) IriRef l
  after_brackets_same g x v PnameLn l = verb_same g x (Statement v) PnameLn l
  after_brackets_same g x v PnameNs l = verb_same g x (Statement v) PnameNs l
  after_brackets_same g x v A l = verb_same g x (Statement v) A l
  after_brackets_same g x v k l = end_same g x (Statement v) k l

  subject_same : (form : DocForm) (g : Option (Option term.Subject)) (v : Level) (k : Kind) (l : Leaf) →
      SameReply (subject_start form (from g) v k l) (subject_start form (to g) v k l)
  subject_same form g v IriRef l = by_name (λ i. None) (λ i. after_subject form v (sized (named i))) g None _ _ (reference l)
  subject_same form g v PnameLn l = by_name (λ i. None) (λ i. after_subject form v (sized (named i))) g None _ _ (name l)
  subject_same form g v PnameNs l = by_name (λ i. None) (λ i. after_subject form v (sized (named i))) g None _ _ (name l)
  subject_same form g v LabelNode l = (refl, refl, refl, (same, refl), refl)
  subject_same form g v OpenBracket l = (refl, refl, refl, (same, refl), refl)
  subject_same form g v OpenParen l = (refl, refl, refl, (same, refl), refl)
  subject_same form g v k l = tt

  start_same : (form : DocForm) (g : Option (Option term.Subject)) (k : Kind) (l : Leaf) → SameReply (start form (from g) k l) (start form (to g) k l)
  start_same form g End l = (refl, refl, refl, (same, refl), refl)
  start_same form g AtPrefix l = (refl, refl, refl, (same, refl), refl)
  start_same form g Prefix l = (refl, refl, refl, (same, refl), refl)
  start_same form g AtBase l = (refl, refl, refl, (same, refl), refl)
  start_same form g Base l = (refl, refl, refl, (same, refl), refl)
  start_same TriG g Graph l = (refl, refl, refl, (same, refl), refl)
  start_same TriG g OpenBrace l = (refl, refl, refl, (same, refl), refl)
  start_same form g k l = subject_same form (Some None) Top k l

  inside_same : (form : DocForm) (g : Option (Option term.Subject)) (k : Kind) (l : Leaf) → SameReply (inside form (from g) k l) (inside form (to g) k l)
  inside_same form g CloseBrace l = (refl, refl, refl, (same, refl), refl)
  inside_same form g k l = subject_same form g InBlock k l

  brace_same : (g : Option (Option term.Subject)) (x : Option term.Subject) (k : Kind) (l : Leaf) →
      SameReply (want_brace (from g) x k l) (want_brace (to g) x k l)
  brace_same g x OpenBrace l = (refl, refl, refl, (same, refl), refl)
  brace_same g x k l = tt

  label_same : (g : Option (Option term.Subject)) (x : Topic) (k : Kind) (l : Leaf) →
      SameReply (after_label (from g) x k l) (after_label (to g) x k l)
  label_same g x OpenBrace l = (refl, refl, refl, (same, refl), refl)
  label_same g x k l = verb_same g x (Statement Top) k l

  graph_same : (g : Option (Option term.Subject)) (k : Kind) (l : Leaf) → SameReply (graph_word (from g) k l) (graph_word (to g) k l)
  graph_same g IriRef l = by_name (λ i. None) (λ i. WantBrace (named i)) g None _ _ (reference l)
  graph_same g PnameLn l = by_name (λ i. None) (λ i. WantBrace (named i)) g None _ _ (name l)
  graph_same g PnameNs l = by_name (λ i. None) (λ i. WantBrace (named i)) g None _ _ (name l)
  graph_same g LabelNode l = (refl, refl, refl, (same, refl), refl)
  graph_same g OpenBracket l = (refl, refl, refl, (same, refl), refl)
  graph_same g k l = tt

  graph_brackets_same : (g : Option (Option term.Subject)) (n : ℕ) (k : Kind) (l : Leaf) → SameReply (graph_bracket (from g) n k l) (graph_bracket (to g) n k l)
  graph_brackets_same g n CloseBracket l = (refl, refl, refl, (same, refl), refl)
  graph_brackets_same g n k l = tt

  prefix_same : (g : Option (Option term.Subject)) (w : Spelling) (k : Kind) (l : Leaf) → SameReply (want_prefix (from g) w k l) (want_prefix (to g) w k l)
  prefix_same g w PnameNs l = (refl, refl, refl, (same, refl), refl)
  prefix_same g w k l = tt

  prefix_iri_same : (g : Option (Option term.Subject)) (w : Spelling) (p : List ℕ) (k : Kind) (l : Leaf) →
      SameReply (want_prefix_iri (from g) w p k l) (want_prefix_iri (to g) w p k l)
  prefix_iri_same g w p IriRef l = (
    ap (λ b. binds b (reference_in s l)) (full p) ∙ ap (binds (is_full t p)) (reference l),
    refl,
    refl,
    (subst (λ i. SameNames (with_binding s p (reference_in s l)) (with_binding t p i)) (reference l) (binding_after p (reference_in s l)), refl),
    refl,
  )
  prefix_iri_same g w p k l = tt

  base_iri_same : (g : Option (Option term.Subject)) (w : Spelling) (k : Kind) (l : Leaf) →
      SameReply (want_base_iri (from g) w k l) (want_base_iri (to g) w k l)
  base_iri_same g w IriRef l = (
    ap stands (reference l),
    refl,
    refl,
    (
      subst (λ i. SameNames (with_base s (reference_in s l)) (with_base t i)) (reference l)
          (base_after (reference_in s l)),
      refl,
    ),
    refl,
  )
  base_iri_same g w k l = tt

  dot_same : (g : Option (Option term.Subject)) (k : Kind) (l : Leaf) → SameReply (want_dot (from g) k l) (want_dot (to g) k l)
  dot_same g Dot l = (refl, refl, refl, (same, refl), refl)
  dot_same g k l = tt

  step_same : (form : DocForm) (g : Option (Option term.Subject)) (m : Mode) (k : Kind) (l : Leaf) →
      SameReply (step form (from g) m k l) (step form (to g) m k l)
  step_same form g Start k l = start_same form g k l
  step_same form g Over k l = tt
  step_same form g (WantPrefix w) k l = prefix_same g w k l
  step_same form g (WantPrefixIri w p) k l = prefix_iri_same g w p k l
  step_same form g (WantBaseIri w) k l = base_iri_same g w k l
  step_same form g WantDot k l = dot_same g k l
  step_same form g (AfterLabel x) k l = label_same g x k l
  step_same form g GraphWord k l = graph_same g k l
  step_same form g (GraphBracket n) k l = graph_brackets_same g n k l
  step_same form g (WantBrace x) k l = brace_same g x k l
  step_same form g Inside k l = inside_same form g k l
  step_same form g (Want p) k l = object_same g p None k l
  step_same form g (After p) k l = after_same g p k l
  step_same form g (AfterText w p) k l = text_same g w p k l
  step_same form g (WantType w p) k l = type_same g w p k l
  step_same form g (PropertyListStart n u) k l = brackets_same form g n u k l
  step_same form g (CollectionStart u) k l = collection_start_same g u k l
  step_same form g (WantVerb x a) k l = verb_same g x a k l
  step_same form g (AfterSemicolon x a) k l = semicolon_same g x a k l
  step_same form g (AfterPropertyList x v) k l = after_brackets_same g x v k l

  waiting_same : (g : Option (Option term.Subject)) (m : Mode) (k : Kind) (l : Leaf) → waiting (from g) m k l ≡ waiting (to g) m k l
  waiting_same g (AfterText w p) LangTag l = refl
  waiting_same g (AfterText w p) AtBase l = refl
  waiting_same g (AfterText w p) AtPrefix l = refl
  waiting_same g (AfterText w p) Carets l = refl
  waiting_same g (AfterText w p) k l = refl
  waiting_same g (CollectionStart (Subject v)) CloseParen l = refl
  waiting_same g (CollectionStart (At p)) CloseParen l = refl
  waiting_same g (CollectionStart (Subject v)) k l = refl
  waiting_same g (CollectionStart (At p)) k l = refl
  waiting_same g m k l = refl

-- the same answers
abbrev pub SameAnswer : Answer → Answer → Type 0
SameAnswer (refuses x) (refuses y) = x ≡ y
SameAnswer (accepts qs n) (accepts rs m) = (qs ≡ rs) × SameState n m
SameAnswer a b = ⊥

-- a limit that is tested in both refuses in both
cond_same : (b : Bool) (x : Reason) (a c : Answer) → SameAnswer a c → SameAnswer (cond b (refuses x) a) (cond b (refuses x) c)
cond_same true x a c h = refl
cond_same false x a c h = h

use_same : (sizes : Sizes) (k : Kind) (u : Use) (a c : Answer) → SameAnswer a c → SameAnswer (by_use sizes k u a) (by_use sizes k u c)
use_same sizes k itself a c h = h
use_same sizes k (stands None) a c h = refl
use_same sizes k (stands (Some i)) a c h = cond_same (too_long sizes i) IriTooLong a c h
use_same sizes k (binds full None) a c h = refl
use_same sizes k (binds full (Some i)) a c h = cond_same (too_long sizes i) IriTooLong _ _ (cond_same full TooManyBindings a c h)

-- replies that agree are answered alike
reply_same : (sizes : Sizes) (s : State) (k : Kind) (w : Option Quad) (x y : Reply) → SameReply x y → SameAnswer (answer sizes s k w x) (answer sizes s k w y)
reply_same sizes s k w No No h = refl
reply_same sizes s k w (Go u e n c m) (Go v f o d j) h =
    subst (λ z. SameAnswer (answer sizes s k w (Go u e n c m)) (answer sizes s k w (Go z f o d j))) h.0
    (cond_same (deepens k && nat_le sizes.depth (depth s.mode)) TooDeep _ _
    (use_same sizes k u _ _ (
      refl,
      record { scope = h.3.0; graph = h.3.1; mode = h.4; ready = ap (λ a. kept a (kept n [])) h.1 ∙ ap (λ a. kept f (kept a [])) h.2 },
    )))
reply_same sizes s k w No (Go v f o d j) h = absurd h
reply_same sizes s k w (Go u e n c m) No h = absurd h

-- a setting and a state with another scope
abbrev with_scope : InForce → State → Setting
with_scope t s = record { scope = t; graph = s.setting.graph }

-- a state with another scope
abbrev in_scope : InForce → State → State
in_scope t s = record { setting = with_scope t s; mode = s.mode; ready = s.ready }

-- states are equal where their parts are
state_by : {a b : InForce} {g h : Option (Option term.Subject)} {m n : Mode} {x y : List Quad} → a ≡ b → g ≡ h → m ≡ n → x ≡ y →
    (let z : State = record { setting = record { scope = a; graph = g }; mode = m; ready = x } in z)
    ≡ record { setting = record { scope = b; graph = h }; mode = n; ready = y }
state_by a b c d = cc

-- states that agree differ by their scopes alone
scoped : (s t : State) → SameState s t → in_scope t.setting.scope s ≡ t
scoped s t h = state_by refl h.graph h.mode h.ready

-- states that agree answer each token alike, so the reader may keep its bindings in any order
pub accept_same : (form : DocForm) (s t : State) (k : Kind) (l : Leaf) → SameState s t → SameAnswer (accept form s k l) (accept form t k l)
accept_same form s t k l h =
    let c = with_scope t.setting.scope s in
    subst (λ x. SameAnswer (accept form s k l) (accept form x k l)) (scoped s t h)
    (subst (λ sizes. SameAnswer (accept form s k l)
    (answer sizes (in_scope t.setting.scope s) k (waiting c s.mode k l) (step form c s.mode k l))) h.scope.limits
    (subst (λ w. SameAnswer (accept form s k l) (answer s.setting.scope.limits (in_scope t.setting.scope s) k w (step form c s.mode k l)))
    (waiting_same s.setting.scope t.setting.scope h.scope s.setting.graph s.mode k l)
    (reply_same s.setting.scope.limits s k (waiting s.setting s.mode k l) _ _
    (step_same s.setting.scope t.setting.scope h.scope form s.setting.graph s.mode k l))))

-- what one answers where the other is known
pub accepts_same : (a : Answer) (qs : List Quad) (m : State) → SameAnswer a (accepts qs m) → (n : State) × (a ≡ accepts qs n) × SameState n m
accepts_same (accepts rs n) qs m h = (n, ap (λ x. accepts x n) h.0, h.1)
accepts_same (refuses x) qs m h = absurd h

-- a refusal is the same in both
pub refuses_same : (a : Answer) (x : Reason) → SameAnswer a (refuses x) → a ≡ refuses x
refuses_same (refuses y) x h = ap refuses h
refuses_same (accepts rs n) x h = absurd h

-- What each token that is taken changes: the depth by its bracket, and it stands for what its kind says.
use Rattle.rdf_trig.proofs.Prelude.{◌≡◌, ℕ, ◌+◌, ◌⊎◌, inl, inr, Bool, true, false, List, [], ◌∷◌, ◌++◌, Option, Some, None, refl, sym, ap, ◌∙◌, arith, Kind, IriRef, LabelNode, ShortString, LongString, LangTag, Carets, Dot, Integer, Decimal, Double, True, False, A, AtPrefix, AtBase, Prefix, Base, Graph, PnameNs, PnameLn, Semicolon, Comma, OpenBracket, CloseBracket, OpenParen, CloseParen, OpenBrace, CloseBrace, End, Anon, Cell, Blank, Quad, Token, InForce, Leaf, leaf_of, DocForm, TriG, reference_in, name_in, with_base, with_binding, is_full, Setting, in_default, named, node, labelled, cell_at, rest_quad, Use, itself, stands, binds, Topic, sized, unsized, Top, InBlock, Listed, InCollection, Around, Statement, InPropertyList, Up, At, Dotted, Sparql, Start, Over, WantPrefix, WantPrefixIri, WantBaseIri, WantDot, AfterLabel, GraphWord, GraphBracket, WantBrace, Inside, Want, After, AfterText, WantType, PropertyListStart, CollectionStart, WantVerb, AfterSemicolon, AfterPropertyList, Reply, No, Go, cell, nil, object_start, want_type, verb_start, after_subject, node_closed, property_list_closed, collection_closed, predicate_list_end, after_semicolon, after_text, property_list_start, collection_start, after_property_list, subject_start, start, want_brace, after_label, graph_bracket, want_prefix, want_prefix_iri, want_base_iri, want_dot, depth, depth_at, depth_around, depth_up, opens, closes, opened, closed}
use Rattle.rdf_terms.specs.Terms as term
use Rattle.rdf_trig.specs.declared.form.DocForm.TheVariants.{Turtle}
use Rattle.rdf_trig.specs.Machine.{Level, Place, Subject, Spelling, Mode, after, inside, graph_word, step}
use Rattle.rdf_trig.proofs.machine.ClosingTokens.{admits}
use Rattle.rdf_trig.proofs.machine.ViableTokens.{Stand, stand, reach, on_reply, if_true}

-- what a token of the kind may stand for
abbrev pub IsUse : InForce → Kind → Leaf → Use → Type 0
IsUse s IriRef l u = (u ≡ stands (reference_in s l)) ⊎ ((p : List ℕ) × (u ≡ binds (is_full s p) (reference_in s l)))
IsUse s PnameLn l u = u ≡ stands (name_in s l)
IsUse s PnameNs l u = (u ≡ stands (name_in s l)) ⊎ (u ≡ itself)
IsUse s k l u = u ≡ itself

-- no quad's head ends with the end of the input, and none of an object that is known only by the next token
abbrev pub Quiet : Mode → Option Quad → Option Quad → Type 0
Quiet Over early now = (early ≡ None) × (now ≡ None)
Quiet (AfterText w p) early now = now ≡ None
Quiet (CollectionStart u) early now = now ≡ None
Quiet m early now = Unit {0}

-- the facts of a reply, where n brackets are open
abbrev pub Facts : ℕ → InForce → Kind → Leaf → Reply → Type 0
Facts n s k l No = Unit {0}
Facts n s k l (Go u early now c m) = (depth m + closes k ≡ n + opens k) × IsUse s k l u × (c.scope.limits ≡ s.limits) × Quiet m early now

-- a base changes no limit
pub with_base_limits : (s : InForce) (i : Option (List ℕ)) → (with_base s i).limits ≡ s.limits
with_base_limits s None = refl
with_base_limits s (Some i) = refl

-- a binding changes no limit
pub with_binding_limits : (s : InForce) (p : List ℕ) (i : Option (List ℕ)) → (with_binding s p i).limits ≡ s.limits
with_binding_limits s p None = refl
with_binding_limits s p (Some i) = refl

-- after a property list no quad is ready that would be lost at the end of the input
brackets_quiet : (u : Up) (s : Topic) → Quiet (property_list_closed u s) None None
brackets_quiet (Subject v) s = tt
brackets_quiet (At p) s = tt

-- after a collection no quad is ready that would be lost at the end of the input
list_quiet : (u : Up) (s : Topic) (early now : Option Quad) → Quiet (collection_closed u s) early now
list_quiet (Subject v) s early now = tt
list_quiet (At p) s early now = tt

-- after a subject no quad is ready that would be lost at the end of the input
subject_quiet : (form : DocForm) (v : Level) (s : Topic) → Quiet (after_subject form v s) None None
subject_quiet form InBlock s = tt
subject_quiet Turtle Top s = tt
subject_quiet TriG Top s = tt

-- after `[]` no quad is ready that would be lost at the end of the input
node_quiet : (form : DocForm) (u : Up) (s : Topic) → Quiet (node_closed form u s) None None
node_quiet form (Subject v) s = subject_quiet form v s
node_quiet form (At p) s = tt

-- each reply at the first token of an object keeps to this
object_facts : (c : Setting) (p : Place) (early : Option Quad) (k : Kind) (l : Leaf) → Facts (depth_at p) c.scope k l (object_start c p early k l)
object_facts c p early IriRef l = (refl, inl refl, refl, tt)
object_facts c p early PnameLn l = (refl, refl, refl, tt)
object_facts c p early PnameNs l = (refl, inl refl, refl, tt)
object_facts c p early LabelNode l = (refl, refl, refl, tt)
object_facts c p early ShortString l = (refl, refl, refl, refl)
object_facts c p early LongString l = (refl, refl, refl, refl)
object_facts c p early Integer l = (refl, refl, refl, tt)
object_facts c p early Decimal l = (refl, refl, refl, tt)
object_facts c p early Double l = (refl, refl, refl, tt)
object_facts c p early True l = (refl, refl, refl, tt)
object_facts c p early False l = (refl, refl, refl, tt)
object_facts c p early OpenBracket l = (omega arith, refl, refl, tt)
object_facts c p early OpenParen l = (omega arith, refl, refl, refl)
object_facts c p early k l = tt

-- each reply at a verb keeps to this
verb_facts : (c : Setting) (s : Topic) (a : Around) (k : Kind) (l : Leaf) → Facts (depth_around a) c.scope k l (verb_start c s a k l)
verb_facts c s a IriRef l = (refl, inl refl, refl, tt)
verb_facts c s a PnameLn l = (refl, refl, refl, tt)
verb_facts c s a PnameNs l = (refl, inl refl, refl, tt)
verb_facts c s a A l = (refl, refl, refl, tt)
verb_facts c s a k l = tt

-- the ']' of a property list leads back to the depth outside
brackets_depth : (u : Up) (s : Topic) → depth (property_list_closed u s) ≡ depth_up u
brackets_depth (Subject v) s = refl
brackets_depth (At p) s = refl

-- the ')' of a collection leads back to the depth outside
list_depth : (u : Up) (s : Topic) → depth (collection_closed u s) ≡ depth_up u
list_depth (Subject v) s = refl
list_depth (At p) s = refl

-- after a subject no bracket is open
subject_depth : (form : DocForm) (v : Level) (s : Topic) → depth (after_subject form v s) ≡ 0
subject_depth form InBlock s = refl
subject_depth Turtle Top s = refl
subject_depth TriG Top s = refl

-- after `[]` the depth is that outside
node_depth : (form : DocForm) (u : Up) (s : Topic) → depth (node_closed form u s) ≡ depth_up u
node_depth form (Subject v) s = subject_depth form v s
node_depth form (At p) s = refl

-- each reply at the end of a predicate list keeps to this
end_facts : (c : Setting) (s : Topic) (a : Around) (k : Kind) (l : Leaf) → Facts (depth_around a) c.scope k l (predicate_list_end c s a k l)
end_facts c s (Statement Top) Dot l = (refl, refl, refl, tt)
end_facts c s (Statement InBlock) Dot l = (refl, refl, refl, tt)
end_facts c s (Statement InBlock) CloseBrace l = (refl, refl, refl, tt)
end_facts c s (InPropertyList u) CloseBracket l = (omega (arith, brackets_depth u s), refl, refl, brackets_quiet u s)
end_facts c s (Statement Top) k l = tt
end_facts c s (Statement InBlock) k l = tt
end_facts c s (InPropertyList u) k l = tt

-- each reply after ';' keeps to this
semicolon_facts : (c : Setting) (s : Topic) (a : Around) (k : Kind) (l : Leaf) → Facts (depth_around a) c.scope k l (after_semicolon c s a k l)
semicolon_facts c s a Semicolon l = (refl, refl, refl, tt)
semicolon_facts c s a IriRef l = verb_facts c s a IriRef l
semicolon_facts c s a PnameLn l = verb_facts c s a PnameLn l
semicolon_facts c s a PnameNs l = verb_facts c s a PnameNs l
semicolon_facts c s a A l = verb_facts c s a A l
semicolon_facts c s a k l = end_facts c s a k l

-- each reply after an object keeps to this
after_facts : (c : Setting) (p : Place) (k : Kind) (l : Leaf) → Facts (depth_at p) c.scope k l (after c p k l)
after_facts c (Listed s p a) Comma l = (refl, refl, refl, tt)
after_facts c (Listed s p a) Semicolon l = (refl, refl, refl, tt)
after_facts c (Listed s p a) k l = end_facts c s a k l
after_facts c (InCollection f n u) CloseParen l =
    (omega (arith, list_depth u (unsized (cell f))), refl, refl, list_quiet u (unsized (cell f)) None (rest_quad c (Cell n) nil))
after_facts c (InCollection f n u) k l = object_facts c (InCollection f l.at.offset u) (rest_quad c (Cell n) (Blank (cell_at l))) k l

-- each reply after a string keeps to this
text_facts : (c : Setting) (w : List ℕ) (p : Place) (k : Kind) (l : Leaf) → Facts (depth_at p) c.scope k l (after_text c w p k l)
text_facts c w p LangTag l = (refl, refl, refl, tt)
text_facts c w p AtBase l = (refl, refl, refl, tt)
text_facts c w p AtPrefix l = (refl, refl, refl, tt)
text_facts c w p Carets l = (refl, refl, refl, tt)
text_facts c w p k l = after_facts c p k l

-- each reply at the datatype of a string keeps to this
type_facts : (c : Setting) (w : List ℕ) (p : Place) (k : Kind) (l : Leaf) → Facts (depth_at p) c.scope k l (want_type c w p k l)
type_facts c w p IriRef l = (refl, inl refl, refl, tt)
type_facts c w p PnameLn l = (refl, refl, refl, tt)
type_facts c w p PnameNs l = (refl, inl refl, refl, tt)
type_facts c w p k l = tt

-- each reply after '[' keeps to this
brackets_facts : (form : DocForm) (c : Setting) (n : ℕ) (u : Up) (k : Kind) (l : Leaf) → Facts (depth_up u + 1) c.scope k l (property_list_start form c n u k l)
brackets_facts form c n u CloseBracket l = (omega (arith, node_depth form u (sized (node (Anon n)))), refl, refl, node_quiet form u (sized (node (Anon n))))
brackets_facts form c n u k l = verb_facts c (sized (node (Anon n))) (InPropertyList u) k l

-- each reply after '(' keeps to this
collection_start_facts : (c : Setting) (u : Up) (k : Kind) (l : Leaf) → Facts (depth_up u + 1) c.scope k l (collection_start c u k l)
collection_start_facts c u CloseParen l = (omega (arith, list_depth u (unsized (Some nil))), refl, refl, list_quiet u (unsized (Some nil)) None None)
collection_start_facts c u k l = object_facts c (InCollection l.at.offset l.at.offset u) None k l

-- each reply after a property list that is a subject keeps to this
after_brackets_facts : (c : Setting) (s : Topic) (v : Level) (k : Kind) (l : Leaf) → Facts 0 c.scope k l (after_property_list c s v k l)
after_brackets_facts c s v IriRef l = verb_facts c s (Statement v) IriRef l
after_brackets_facts c s v PnameLn l = verb_facts c s (Statement v) PnameLn l
after_brackets_facts c s v PnameNs l = verb_facts c s (Statement v) PnameNs l
after_brackets_facts c s v A l = verb_facts c s (Statement v) A l
after_brackets_facts c s v k l = end_facts c s (Statement v) k l

-- each reply at the first token of a subject keeps to this
subject_facts : (form : DocForm) (c : Setting) (v : Level) (k : Kind) (l : Leaf) → Facts 0 c.scope k l (subject_start form c v k l)
subject_facts form c v IriRef l = (
  omega (arith, subject_depth form v (sized (named (reference_in c.scope l)))),
  inl refl,
  refl,
  subject_quiet form v (sized (named (reference_in c.scope l))),
)
subject_facts form c v PnameLn l = (
  omega (arith, subject_depth form v (sized (named (name_in c.scope l)))),
  refl,
  refl,
  subject_quiet form v (sized (named (name_in c.scope l))),
)
subject_facts form c v PnameNs l = (
  omega (arith, subject_depth form v (sized (named (name_in c.scope l)))),
  inl refl,
  refl,
  subject_quiet form v (sized (named (name_in c.scope l))),
)
subject_facts form c v LabelNode l =
    (omega (arith, subject_depth form v (sized (node (labelled l)))), refl, refl, subject_quiet form v (sized (node (labelled l))))
subject_facts form c v OpenBracket l = (refl, refl, refl, tt)
subject_facts form c v OpenParen l = (refl, refl, refl, refl)
subject_facts form c v k l = tt

-- each reply between statements keeps to this
start_facts : (form : DocForm) (c : Setting) (k : Kind) (l : Leaf) → Facts 0 c.scope k l (start form c k l)
start_facts form c End l = (refl, refl, refl, (refl, refl))
start_facts form c AtPrefix l = (refl, refl, refl, tt)
start_facts form c Prefix l = (refl, refl, refl, tt)
start_facts form c AtBase l = (refl, refl, refl, tt)
start_facts form c Base l = (refl, refl, refl, tt)
start_facts TriG c Graph l = (refl, refl, refl, tt)
start_facts TriG c OpenBrace l = (refl, refl, refl, tt)
start_facts form c k l = subject_facts form (in_default c.scope) Top k l

-- each reply in a block keeps to this
inside_facts : (form : DocForm) (c : Setting) (k : Kind) (l : Leaf) → Facts 0 c.scope k l (inside form c k l)
inside_facts form c CloseBrace l = (refl, refl, refl, tt)
inside_facts form c k l = subject_facts form c InBlock k l

-- each reply before the '{' of a block with GRAPH keeps to this
brace_facts : (c : Setting) (g : Option term.Subject) (k : Kind) (l : Leaf) → Facts 0 c.scope k l (want_brace c g k l)
brace_facts c g OpenBrace l = (refl, refl, refl, tt)
brace_facts c g k l = tt

-- each reply after a label or subject keeps to this
label_facts : (c : Setting) (g : Topic) (k : Kind) (l : Leaf) → Facts 0 c.scope k l (after_label c g k l)
label_facts c g OpenBrace l = (refl, refl, refl, tt)
label_facts c g k l = verb_facts c g (Statement Top) k l

-- each reply after GRAPH keeps to this
graph_facts : (c : Setting) (k : Kind) (l : Leaf) → Facts 0 c.scope k l (graph_word c k l)
graph_facts c IriRef l = (refl, inl refl, refl, tt)
graph_facts c PnameLn l = (refl, refl, refl, tt)
graph_facts c PnameNs l = (refl, inl refl, refl, tt)
graph_facts c LabelNode l = (refl, refl, refl, tt)
graph_facts c OpenBracket l = (refl, refl, refl, tt)
graph_facts c k l = tt

-- each reply after the '[' of a label keeps to this
graph_brackets_facts : (c : Setting) (n : ℕ) (k : Kind) (l : Leaf) → Facts 1 c.scope k l (graph_bracket c n k l)
graph_brackets_facts c n CloseBracket l = (refl, refl, refl, tt)
graph_brackets_facts c n k l = tt

-- each reply at the prefix of a directive keeps to this
prefix_facts : (c : Setting) (w : Spelling) (k : Kind) (l : Leaf) → Facts 0 c.scope k l (want_prefix c w k l)
prefix_facts c w PnameNs l = (refl, inr refl, refl, tt)
prefix_facts c w k l = tt

-- each reply at the IRIREF that binds a prefix keeps to this
prefix_iri_facts : (c : Setting) (w : Spelling) (p : List ℕ) (k : Kind) (l : Leaf) → Facts 0 c.scope k l (want_prefix_iri c w p k l)
prefix_iri_facts c Dotted p IriRef l = (refl, inr (p, refl), with_binding_limits c.scope p (reference_in c.scope l), tt)
prefix_iri_facts c Sparql p IriRef l = (refl, inr (p, refl), with_binding_limits c.scope p (reference_in c.scope l), tt)
prefix_iri_facts c w p k l = tt

-- each reply at the IRIREF of a base keeps to this
base_iri_facts : (c : Setting) (w : Spelling) (k : Kind) (l : Leaf) → Facts 0 c.scope k l (want_base_iri c w k l)
base_iri_facts c Dotted IriRef l = (refl, inl refl, with_base_limits c.scope (reference_in c.scope l), tt)
base_iri_facts c Sparql IriRef l = (refl, inl refl, with_base_limits c.scope (reference_in c.scope l), tt)
base_iri_facts c w k l = tt

-- each reply at the dot of a directive keeps to this
dot_facts : (c : Setting) (k : Kind) (l : Leaf) → Facts 0 c.scope k l (want_dot c k l)
dot_facts c Dot l = (refl, refl, refl, tt)
dot_facts c k l = tt

-- each step of the machine keeps to this
pub step_facts : (form : DocForm) (c : Setting) (m : Mode) (k : Kind) (l : Leaf) → Facts (depth m) c.scope k l (step form c m k l)
step_facts form c Start k l = start_facts form c k l
step_facts form c Over k l = tt
step_facts form c (WantPrefix w) k l = prefix_facts c w k l
step_facts form c (WantPrefixIri w p) k l = prefix_iri_facts c w p k l
step_facts form c (WantBaseIri w) k l = base_iri_facts c w k l
step_facts form c WantDot k l = dot_facts c k l
step_facts form c (AfterLabel g) k l = label_facts c g k l
step_facts form c GraphWord k l = graph_facts c k l
step_facts form c (GraphBracket n) k l = graph_brackets_facts c n k l
step_facts form c (WantBrace g) k l = brace_facts c g k l
step_facts form c Inside k l = inside_facts form c k l
step_facts form c (Want p) k l = object_facts c p None k l
step_facts form c (After p) k l = after_facts c p k l
step_facts form c (AfterText w p) k l = text_facts c w p k l
step_facts form c (WantType w p) k l = type_facts c w p k l
step_facts form c (PropertyListStart n u) k l = brackets_facts form c n u k l
step_facts form c (CollectionStart u) k l = collection_start_facts c u k l
step_facts form c (WantVerb s a) k l = verb_facts c s a k l
step_facts form c (AfterSemicolon s a) k l = semicolon_facts c s a k l
step_facts form c (AfterPropertyList s v) k l = after_brackets_facts c s v k l

-- As many brackets are open as the tokens have opened and not closed.
pub reached_depth : (strict : Bool) (form : DocForm) (ts : List Token) (c : Setting) (m : Mode) (s : Stand) → reach strict form c m ts ≡ Some s →
    opened ts + depth m ≡ closed ts + depth s.mode
reached_depth strict form [] c m s e = let z : stand c m ≡ s = cc in ap (λ x. 0 + depth (Stand.mode x)) z
reached_depth strict form (t ∷ ts) c m s e =
    by (step form c m t.kind (leaf_of t)) (step_facts form c m t.kind (leaf_of t)) (λ c' m' h. reached_depth strict form ts c' m' s h) e
  where
    when : (b : Bool) (o : Option Stand) → if_true b o ≡ Some s → o ≡ Some s
    when true o e = e
    when false o e = absurd (let z : None ≡ Some s = e in cc)

    by : (r : Reply) → Facts (depth m) c.scope t.kind (leaf_of t) r →
        ((c' : Setting) (m' : Mode) → reach strict form c' m' ts ≡ Some s → opened ts + depth m' ≡ closed ts + depth s.mode) →
        on_reply strict r (λ c' m'. reach strict form c' m' ts) ≡ Some s → opens t.kind + opened ts + depth m ≡ closes t.kind + closed ts + depth s.mode
    by No f ih e = absurd (let z : None ≡ Some s = e in cc)
    by (Go u early now c' m') f ih e = let h : opened ts + depth m' ≡ closed ts + depth s.mode =
        ih c' m' (when (admits strict u) (reach strict form c' m' ts) e) in omega (arith, h, f.0)

-- no token changes the limits
pub reached_limits : (strict : Bool) (form : DocForm) (ts : List Token) (c : Setting) (m : Mode) (s : Stand) → reach strict form c m ts ≡ Some s →
    s.setting.scope.limits ≡ c.scope.limits
reached_limits strict form [] c m s e = let z : stand c m ≡ s = cc in ap (λ x. (Stand.setting x).scope.limits) (sym z)
reached_limits strict form (t ∷ ts) c m s e =
    by (step form c m t.kind (leaf_of t)) (step_facts form c m t.kind (leaf_of t)) (λ c' m' h. reached_limits strict form ts c' m' s h) e
  where
    when : (b : Bool) (o : Option Stand) → if_true b o ≡ Some s → o ≡ Some s
    when true o e = e
    when false o e = absurd (let z : None ≡ Some s = e in cc)

    by : (r : Reply) → Facts (depth m) c.scope t.kind (leaf_of t) r →
        ((c' : Setting) (m' : Mode) → reach strict form c' m' ts ≡ Some s → s.setting.scope.limits ≡ c'.scope.limits) →
        on_reply strict r (λ c' m'. reach strict form c' m' ts) ≡ Some s → s.setting.scope.limits ≡ c.scope.limits
    by No f ih e = absurd (let z : None ≡ Some s = e in cc)
    by (Go u early now c' m') f ih e = ih c' m' (when (admits strict u) (reach strict form c' m' ts) e) ∙ f.2

-- what two lists of tokens open, both open
pub opened-append : (ts us : List Token) → opened (ts ++ us) ≡ opened ts + opened us
opened-append [] us = omega arith
opened-append (t ∷ ts) us = let h = opened-append ts us in omega (arith, h)

-- what two lists of tokens close, both close
pub closed-append : (ts us : List Token) → closed (ts ++ us) ≡ closed ts + closed us
closed-append [] us = omega arith
closed-append (t ∷ ts) us = let h = closed-append ts us in omega (arith, h)

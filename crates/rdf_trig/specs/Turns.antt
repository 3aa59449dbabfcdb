-- What a turn does, in the words of the machine: its reply, the tokens that it takes, and the texts that it needs.
use Rattle.std.specs.Prelude.{◌≡◌, ℕ, ◌+◌, ◌-◌, ◌≤◌, true, List, codes, Option, Some, None, is_some, ⊤, MatchOption, length}
use Rattle.rdf_terms.specs.declared.kind.Kind.{Kind}
use Rattle.rdf_terms.specs.declared.kind.Kind.TheVariants.{LabelNode, ShortString, LongString, True, False}
use Rattle.rdf_terms.specs.Terms.{Cell, Anon, Blank, Quad}
use Rattle.rdf_terms.specs.Known.{known_chars}
use Rattle.rdf_terms.specs.declared.constants.Known.TheVariants.{XsdBoolean}
use Rattle.rdf_tokens.specs.declared.token.Token.{Token as Given}
use Rattle.rdf_iri.specs.Scope.{InForce}
use Rattle.rdf_tokens.specs.Leaves.{Leaf}
use Rattle.rdf_trig.specs.declared.form.DocForm.{DocForm}
use Rattle.rdf_trig.specs.declared.state.Around.{Around}
use Rattle.rdf_trig.specs.declared.state.Container.TheVariants as container
use Rattle.rdf_trig.specs.declared.state.Ready.{Ready}
use Rattle.rdf_trig.specs.declared.state.Ready.TheVariants as ready
use Rattle.rdf_trig.specs.declared.state.Level.{Level}
use Rattle.rdf_trig.specs.declared.state.Level.TheVariants as level
use Rattle.rdf_trig.specs.declared.state.Mode.{Mode}
use Rattle.rdf_trig.specs.declared.state.Mode.TheVariants as mode
use Rattle.rdf_trig.specs.declared.state.Outer.{Outer}
use Rattle.rdf_trig.specs.declared.state.State.{State}
use Rattle.rdf_trig.specs.declared.turn.SubjectStart.{SubjectStart}
use Rattle.rdf_trig.specs.declared.turn.SubjectStart.TheVariants as subject
use Rattle.rdf_trig.specs.declared.turn.Verb.{Verb}
use Rattle.rdf_trig.specs.declared.turn.Verb.TheVariants as verb
use Rattle.rdf_trig.specs.declared.turn.ObjectStart.{ObjectStart}
use Rattle.rdf_trig.specs.declared.turn.ObjectStart.TheVariants as object
use Rattle.rdf_trig.specs.declared.turn.Turn.{Turn}
use Rattle.rdf_trig.specs.declared.turn.Turn.TheVariants as turn
use Rattle.rdf_trig.specs.Events.{Use}
use Rattle.rdf_trig.specs.Names.{prefix_of}
use Rattle.rdf_trig.specs.Quads.{Setting, named, node, resource, anon_at, labelled, value_in, tag_of, tagged_literal, typed_literal, cell_at, rest_quad}
use Rattle.rdf_trig.specs.Machine as M
use Rattle.rdf_trig.specs.Machine.{Reply, No, Go, nil, quad_at}
use Rattle.rdf_trig.specs.States.{level_of, graph_of, outer_of, outer_graph, spelling_of, first_of, cell_of, after_semicolon_at, up_in, place_in, around_in, text_in, mode_at, graph_at, setting, setting_in, rest_of}
use Rattle.rdf_trig.specs.States.{name_at, use_at, use_in, scope_in, IsNamed, IsNamedIn, NameIn, moved}
use Rattle.rdf_trig.specs.Spelled.{SpellsTag}
use Rattle.rdf_trig.specs.Holding.{TextFits, NameFits, Fits, frames_most}

-- where the reader stands after the first token of a subject, with the IRI that the token stands for, if for one
abbrev pub subject_mode : DocForm → M.Level → SubjectStart → Option (List ℕ) → Leaf → M.Mode
subject_mode form v subject.Name i l = M.after_subject form v (M.sized (named i))
subject_mode form v subject.Label i l = M.after_subject form v (M.sized (node (labelled l)))
subject_mode form v subject.Brackets i l = M.PropertyListStart l.at.offset (M.Subject v)
subject_mode form v subject.Collection i l = M.CollectionStart (M.Subject v)

-- a verb, with the same
abbrev pub verb_by : Verb → Option (List ℕ) → M.Spelt
verb_by verb.Name i = M.spelt i
verb_by verb.Type i = M.type_verb

-- the reply to the first token of an object at a place, with the quad that was waiting for it
abbrev pub begun : Setting → Use → Option (List ℕ) → M.Place → Option Quad → ObjectStart → Leaf → Reply
begun c u i p early object.Name l = Go u early (quad_at c p (resource (named i))) c (M.After p)
begun c u i p early object.Label l = Go u early (quad_at c p (resource (node (labelled l)))) c (M.After p)
begun c u i p early object.ShortString l = Go u early None c (M.AfterText (value_in 1 l) p)
begun c u i p early object.LongString l = Go u early None c (M.AfterText (value_in 3 l) p)
begun c u i p early (object.Number d) l = Go u early (quad_at c p (typed_literal l.text (Some (known_chars d)))) c (M.After p)
begun c u i p early object.True l = Go u early (quad_at c p (typed_literal (codes "true") (Some (known_chars XsdBoolean)))) c (M.After p)
begun c u i p early object.False l = Go u early (quad_at c p (typed_literal (codes "false") (Some (known_chars XsdBoolean)))) c (M.After p)
begun c u i p early object.Brackets l = Go u early (quad_at c p (resource (node (anon_at l)))) c (M.PropertyListStart l.at.offset (M.At p))
begun c u i p early object.Collection l = Go u early None c (M.CollectionStart (M.At p))

-- the reply that is a turn of a state: in the scope after the token, with what the token stands for
abbrev pub turned : {A : Type 0} → DocForm → State A → InForce → Use → Option (List ℕ) → Turn → Leaf → Reply
turned form r s u i (turn.Lead o) l = Go u None None (setting s (outer_graph o r.graph)) (outer_of o r.bracket (text_in r) r.graph)
turned form r s u i (turn.Prefix w) l = Go u None None (setting s None) (M.WantPrefixIri (spelling_of w) (prefix_of l))
turned form r s u i turn.GraphName l = Go u None None (setting s None) (M.WantBrace (named i))
turned form r s u i turn.GraphLabel l = Go u None None (setting s None) (M.WantBrace (node (labelled l)))
turned form r s u i turn.GraphBracket l = Go u None None (setting s None) (M.GraphBracket l.at.offset)
turned form r s u i turn.GraphNode l = Go u None None (setting s None) (M.WantBrace (node (Anon r.bracket)))
turned form r s u i turn.SubjectBlock l = Go u None None (setting s r.frame.subject.term) M.Inside
turned form r s u i (turn.Subject v b) l = Go u None None (setting s (graph_of v r.graph)) (subject_mode form (level_of v) b i l)
turned form r s u i (turn.Verb a v) l = Go u None None (setting_in s r) (M.Want (M.Listed r.frame.subject (verb_by v i) (around_in r a)))
turned form r s u i (turn.FirstVerb v) l =
    Go u None None (setting_in s r) (M.Want (M.Listed (M.sized (node (Anon r.bracket))) (verb_by v i) (M.InPropertyList (up_in r))))
turned form r s u i (turn.Object b) l = begun (setting_in s r) u i (place_in r) None b l
turned form r s u i (turn.FirstItem b) l = begun (setting_in s r) u i (M.InCollection l.at.offset l.at.offset (up_in r)) None b l
turned form r s u i (turn.NextItem b) l =
    let c = setting_in s r in
    let here = r.frame.container in
    begun c u i (M.InCollection (first_of here) l.at.offset (up_in r)) (rest_quad c (Cell (cell_of here)) (Blank (cell_at l))) b l
turned form r s u i turn.NextObject l = Go u None None (setting_in s r) (M.Want (place_in r))
turned form r s u i turn.NextVerb l = Go u None None (setting_in s r) (after_semicolon_at (place_in r))
turned form r s u i turn.Tag l =
    let c = setting_in s r in Go u None (quad_at c (place_in r) (tagged_literal (text_in r) (tag_of l))) c (M.After (place_in r))
turned form r s u i turn.DatatypeMark l = Go u None None (setting_in s r) (M.WantType (text_in r) (place_in r))
turned form r s u i turn.Datatype l = let c = setting_in s r in Go u None (quad_at c (place_in r) (typed_literal (text_in r) i)) c (M.After (place_in r))
turned form r s u i turn.EndNode l = Go u None None (setting_in s r) (M.node_closed form (up_in r) (M.sized (node (Anon r.bracket))))
turned form r s u i turn.EndPropertyList l = Go u None None (setting_in s r) (M.property_list_closed (up_in r) r.frame.subject)
turned form r s u i turn.EmptyCollection l = Go u None None (setting_in s r) (M.collection_closed (up_in r) (M.unsized (Some nil)))
turned form r s u i turn.EndCollection l =
    let c = setting_in s r in
    let here = r.frame.container in
    Go u None (rest_quad c (Cell (cell_of here)) nil) c (M.collection_closed (up_in r) (M.unsized (M.cell (first_of here))))

-- the tokens with which a subject begins so, and the IRI that comes with them
abbrev pub SuitsSubject : SubjectStart → Kind → Option (List ℕ) → Type 0
SuitsSubject subject.Name k i = is_some i ≡ true
SuitsSubject subject.Label k i = k ≡ LabelNode
SuitsSubject b k i = ⊤

-- an IRI comes with a verb but `a`
abbrev pub SuitsVerb : Verb → Option (List ℕ) → Type 0
SuitsVerb verb.Name i = is_some i ≡ true
SuitsVerb verb.Type i = ⊤

-- the tokens with which an object begins so, and the IRI that comes with them
abbrev pub SuitsObject : ObjectStart → Kind → Option (List ℕ) → Type 0
SuitsObject object.Name k i = is_some i ≡ true
SuitsObject object.Label k i = k ≡ LabelNode
SuitsObject object.ShortString k i = k ≡ ShortString
SuitsObject object.LongString k i = k ≡ LongString
SuitsObject object.True k i = k ≡ True
SuitsObject object.False k i = k ≡ False
SuitsObject b k i = ⊤

-- the tokens that a turn takes, and the IRI that comes with them, as far as the turn needs to know
abbrev pub Suits : Turn → Kind → Option (List ℕ) → Type 0
Suits turn.GraphName k i = is_some i ≡ true
Suits turn.GraphLabel k i = k ≡ LabelNode
Suits (turn.Subject v b) k i = SuitsSubject b k i
Suits (turn.Verb a v) k i = SuitsVerb v i
Suits (turn.FirstVerb v) k i = SuitsVerb v i
Suits (turn.Object b) k i = SuitsObject b k i
Suits (turn.FirstItem b) k i = SuitsObject b k i
Suits (turn.NextItem b) k i = SuitsObject b k i
Suits turn.Tag k i = SpellsTag k
Suits turn.Datatype k i = is_some i ≡ true
Suits t k i = ⊤

-- the most frames below the one in hand after an object has begun, and after a turn, by those before it
abbrev pub frames_begun : ObjectStart → ℕ → ℕ
frames_begun object.Brackets m = m + 1
frames_begun object.Collection m = m + 1
frames_begun b m = m

abbrev pub frames_after : Turn → ℕ → ℕ
frames_after turn.GraphNode m = 0
frames_after (turn.Subject v b) m = 0
frames_after (turn.Object b) m = frames_begun b m
frames_after (turn.FirstItem b) m = frames_begun b m
frames_after (turn.NextItem b) m = frames_begun b m
frames_after turn.EndNode m = m - 1
frames_after turn.EndPropertyList m = m - 1
frames_after turn.EmptyCollection m = m - 1
frames_after turn.EndCollection m = m - 1
frames_after t m = m

-- a subject begins so with each token of the kind, or with none
abbrev pub BeginsSubject : Kind → Option SubjectStart → Type 0
BeginsSubject k x =
    (form : DocForm) (c : Setting) (v : M.Level) (l : Leaf) →
    MatchOption x (M.subject_start form c v k l ≡ No)
    (λ b. M.subject_start form c v k l ≡ Go (use_at c.scope k l) None None c (subject_mode form v b (name_at c.scope k l) l))

-- so too a verb
abbrev pub IsVerb : Kind → Option Verb → Type 0
IsVerb k x =
    (c : Setting) (s : M.Topic) (a : M.Around) (l : Leaf) →
    MatchOption x (M.verb_start c s a k l ≡ No)
    (λ v. M.verb_start c s a k l ≡ Go (use_at c.scope k l) None None c (M.Want (M.Listed s (verb_by v (name_at c.scope k l)) a)))

-- so too an object
abbrev pub BeginsObject : Kind → Option ObjectStart → Type 0
BeginsObject k x =
    (c : Setting) (p : M.Place) (early : Option Quad) (l : Leaf) →
    MatchOption x (M.object_start c p early k l ≡ No)
    (λ b. M.object_start c p early k l ≡ begun c (use_at c.scope k l) (name_at c.scope k l) p early b l)

-- in a mode of a state the turn is what the machine does with a token of the kind, or the machine has no reply
abbrev pub IsTurn : {A : Type 0} → DocForm → State A → Mode → Kind → Turn → Type 0
IsTurn form r m k t =
    let n = mode_at form r m in
    (s : InForce) (l : Leaf) (i : Option (List ℕ)) → NameIn s n k l i →
    M.step form (setting s (graph_at r m)) n k l ≡ turned form r (scope_in s n k l) (use_in s n k l) i t l

abbrev pub HasNoTurn : {A : Type 0} → DocForm → State A → Mode → Kind → Type 0
HasNoTurn form r m k = (s : InForce) (l : Leaf) → M.step form (setting s (graph_at r m)) (mode_at form r m) k l ≡ No

abbrev pub Decides : {A : Type 0} → DocForm → State A → Mode → Kind → Option Turn → Type 0
Decides form r m k x = MatchOption x (HasNoTurn form r m k) (IsTurn form r m k)

-- the same of a part of the machine, outside of directives
abbrev pub Means : {A : Type 0} → DocForm → State A → Kind → Option Turn → (InForce → Leaf → Reply) → Type 0
Means form r k x reply =
    MatchOption x ((s : InForce) (l : Leaf) → reply s l ≡ No)
    (λ t. (s : InForce) (l : Leaf) (i : Option (List ℕ)) → name_at s k l ≡ i → reply s l ≡ turned form r s (use_at s k l) i t l)

-- tokens of the kind suit the turn, with the IRI that comes with them
abbrev pub IsSuited : Kind → Turn → Type 0
IsSuited k t = (i : Option (List ℕ)) → IsNamed k i → Suits t k i

-- no more frames are open after the turn than after a token of the kind
abbrev pub KeepsFrames : Kind → Turn → Type 0
KeepsFrames k t = (m : ℕ) → frames_after t m ≤ frames_most k m

-- with a token the turn leads from one state to the other
abbrev pub Takes : {A : Type 0} → State A → Turn → Leaf → State A → Type 0
Takes old t l new = (form : DocForm) (s : InForce) (u : Use) → turned form old s u old.name t l ≡ moved form s u new

-- texts that fit before a turn, with those of the token, fit after it too
abbrev pub TakesFit : {A : Type 0} → State A → Given → State A → Type 0
TakesFit old token new = (n : ℕ) → TextFits n token → NameFits n old.name → Fits n old → Fits n new

-- the same of a turn that takes no text of the token
abbrev pub TurnFits : {A : Type 0} → State A → State A → Type 0
TurnFits old new = (n : ℕ) → NameFits n old.name → Fits n old → Fits n new

-- no more frames are open than the turn says
abbrev pub FramesTaken : {A : Type 0} → State A → Turn → State A → Type 0
FramesTaken old t new = length new.frames.items ≤ frames_after t (length old.frames.items)

-- the same of the statement in hand, where the machine asks for its setting and the place of its object
abbrev pub MeansHere : {A : Type 0} → State A → Kind → Option Turn → (Setting → M.Place → Leaf → Reply) → Type 0
MeansHere r k x reply = (form : DocForm) → Means form r k x (λ s. reply (setting_in s r) (place_in r))

-- the same of a subject, of a statement at a level
abbrev pub MeansSubject : {A : Type 0} → State A → Level → Kind → Option Turn → Type 0
MeansSubject r v k x = (form : DocForm) → Means form r k x (λ s. M.subject_start form (setting s (graph_of v r.graph)) (level_of v) k)

-- the same of a verb of the subject in hand
abbrev pub MeansVerb : {A : Type 0} → State A → Around → Kind → Option Turn → Type 0
MeansVerb r a k x = MeansHere r k x (λ c p. M.verb_start c r.frame.subject (around_in r a) k)

-- what begins between statements outside of a block, besides a statement, leads so in each scope
abbrev pub IsOuterStart : DocForm → Kind → Option Outer → Type 0
IsOuterStart form k x =
    (s : InForce) (l : Leaf) →
    let reply = M.start form (setting s None) k l in
    MatchOption x (reply ≡ M.subject_start form (setting s None) M.Top k l)
    (λ o. (n : ℕ) (p : List ℕ) (g : M.Topic) → reply ≡ Go (use_at s k l) None None (setting s (outer_graph o g)) (outer_of o n p g))

-- tokens of the kind suit the turn, whether an IRI comes with them or not
abbrev pub SuitsAny : Kind → Turn → Type 0
SuitsAny k t = (i : Option (List ℕ)) → Suits t k i

-- so in a mode of a state, where in directives no IRI comes
abbrev pub SuitsIn : {A : Type 0} → DocForm → State A → Mode → Kind → Turn → Type 0
SuitsIn form r m k t = (i : Option (List ℕ)) → IsNamedIn (mode_at form r m) k i → Suits t k i

-- with the first token of an object the state stands where its place and the cell before it say
abbrev pub Begins : {A : Type 0} → State A → Option (ℕ × ℕ) → ObjectStart → Leaf → State A → Type 0
Begins old rest b l new =
    (form : DocForm) (s : InForce) (u : Use) →
    begun (setting_in s old) u old.name (place_in old) (rest_of (graph_of old.level old.graph) rest) b l ≡ moved form s u new

-- texts that fit still do
abbrev pub StillFits : {A : Type 0} → State A → State A → Type 0
StillFits old new = (n : ℕ) → Fits n old → Fits n new

-- the state stands outside of statements, with no frame in hand and no quad ready
abbrev pub Leads : {A : Type 0} → State A → Outer → State A → Type 0
Leads old o new =
    let empty = record old.frame { container = container.Cells 0 0 } in
    new ≡ record old { level = level.Top; frame = empty; rest = None; ready = ready.Nothing; mode = mode.Outer o }

-- what is printed of a kind of token: where a state stands, what it holds, and the turn
pub record StepAt : Type 0 where
  pub level : Level
  pub mode : Mode
  pub ready : Ready
  pub turn : Option Turn

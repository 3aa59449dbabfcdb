-- What a step of the reader does to its sink.
use Rattle.std.specs.Prelude.{◌≡◌, ℕ, ◌+◌, ◌*◌, ◌^◌, ◌<◌, ◌≤◌, ◌&&◌, nat_le, Bool, true, false, List, [], ◌++◌, length, Option, Some, None, ⊤}
use Rattle.rdf_terms.specs.Terms.{Cell, Blank, Term, Resource, Quad}
use Rattle.rdf_terms.specs.Terms as term
use Rattle.rdf_terms.specs.Sinks.{Appends, Attempts}
use Rattle.rdf_tokens.specs.declared.token.Token.{Token as Given}
use Rattle.rdf_iri.specs.Limits.{Sizes}
use Rattle.rdf_iri.specs.Scope.{InForce}
use Rattle.rdf_trig.specs.declared.form.DocForm.{DocForm}
use Rattle.rdf_trig.specs.declared.fault.StepFault.{StepFault}
use Rattle.rdf_trig.specs.declared.fault.StepFault.TheVariants.{Unexpected, TooDeep, Unbound, NoBase, IriTooLong, TooManyBindings, Memory, Sink}
use Rattle.rdf_trig.specs.declared.state.Frame.{Frame}
use Rattle.rdf_trig.specs.declared.state.Container.{Container}
use Rattle.rdf_trig.specs.declared.state.Container.TheVariants as container
use Rattle.rdf_trig.specs.declared.state.Mode.{Mode}
use Rattle.rdf_trig.specs.declared.state.Mode.TheVariants as mode
use Rattle.rdf_trig.specs.declared.state.Ready.{Ready}
use Rattle.rdf_trig.specs.declared.state.Ready.TheVariants as ready
use Rattle.rdf_trig.specs.declared.state.State.{State}
use Rattle.rdf_trig.specs.Quads.{stated, plain_literal}
use Rattle.rdf_trig.specs.Machine as M
use Rattle.rdf_terms.specs.declared.kind.Kind.{Kind}
use Rattle.rdf_terms.specs.declared.kind.Kind.TheVariants.{LangTag, AtBase, AtPrefix, Carets, OpenBracket, CloseBracket, OpenParen, CloseParen}
use Rattle.rdf_terms.specs.declared.reason.Reason.{Reason}
use Rattle.rdf_terms.specs.declared.reason.Reason.TheVariants as reason
use Rattle.rdf_tokens.specs.Leaves.{Leaf}
use Rattle.rdf_trig.specs.Machine.{nil, subject_at, verb_at, kept}
use Rattle.rdf_trig.specs.States.{leaf, text_in, place_of, object_of, object_quad, cells_quad, mode_in, graph_in, setting, rest_of, ready_of, is_go, PrefixFits}
use Rattle.rdf_trig.specs.Scopes.{SameScope}
use Rattle.rdf_trig.specs.Holding.{most_text, Fits}

-- the error of a step, as a reader reports it
abbrev pub reason_of : StepFault → Reason
reason_of Unexpected = reason.Unexpected
reason_of TooDeep = reason.TooDeep
reason_of Unbound = reason.Unbound
reason_of NoBase = reason.NoBase
reason_of IriTooLong = reason.IriTooLong
reason_of TooManyBindings = reason.TooManyBindings
reason_of Memory = reason.Memory
reason_of Sink = reason.Sink

-- puts of some of the quads, from the first one on, lead from one sink to the other; the last of them may have been refused
abbrev pub Begins : {S : Type 0} → (S → Quad → S → Type 0) → (S → Quad → S → Type 0) → List Quad → S → S → Type 0
Begins takes leaves qs old new = (front back : List Quad) × (qs ≡ front ++ back) × Attempts takes leaves old front new

-- not all of the quads were put: memory was short and the device had not failed, or it failed
abbrev pub GaveUp : {S : Type 0} → (S → Quad → S → Type 0) → (S → Quad → S → Type 0) → (S → Bool) → StepFault → List Quad → S → S → Type 0
GaveUp takes leaves failed Memory qs old new = Begins takes leaves qs old new × (failed new ≡ false)
GaveUp takes leaves failed Sink qs old new = Begins takes leaves qs old new × (failed new ≡ true)
GaveUp takes leaves failed r qs old new = ⊥

-- the quad of an object at the place of a frame, whatever stands round it
abbrev pub IsQuadAt : {A : Type 0} → Frame A → Option term.Subject → Term → Option Quad → Type 0
IsQuadAt f g o q = (v : M.Level) (u : M.Up) → let p = place_of v f u in q ≡ stated (Some g) (subject_at p) (verb_at p) (Some o)

-- the last rdf:rest of a collection that has ended
abbrev pub last_of : Option term.Subject → Ready → Option Quad
last_of g (ready.Nil cell) = cells_quad g cell nil
last_of g h = None

-- what a string is by the token after it: no term yet where a tag or a type follows
abbrev pub plain_term : List ℕ → Kind → Option Term
plain_term w LangTag = None
plain_term w AtBase = None
plain_term w AtPrefix = None
plain_term w Carets = None
plain_term w k = plain_literal w

-- what a collection is by the token after its parenthesis: rdf:nil, or the cell of its first item
abbrev pub collection_term : Kind → ℕ → Term
collection_term CloseParen n = Resource nil
collection_term k n = Resource (Blank (Cell n))

-- the object whose quad is ready, or that the token decides, in a mode
abbrev pub due_term : {A : Type 0} → State A → Mode → Given → Option Term
due_term r mode.After t = object_of r r.ready
due_term r mode.PropertyListStart t = object_of r r.ready
due_term r mode.AfterText t = plain_term (text_in r) t.kind
due_term r mode.CollectionStart t = Some (collection_term t.kind t.offset)
due_term r m t = None

-- the quad of that object: at the place in hand, or at the one that a bracket stands for
abbrev pub due_quad : Option term.Subject → M.Mode → Option Term → Option Quad
due_quad g (M.AfterText w p) o = stated (Some g) (subject_at p) (verb_at p) o
due_quad g (M.CollectionStart (M.At p)) o = stated (Some g) (subject_at p) (verb_at p) o
due_quad g m o = object_quad g m o

-- a predicate list
abbrev pub IsListed : Container → Type 0
IsListed (container.List a) = ⊤
IsListed (container.Cells first cell) = ⊥

-- an object has come and no collection has ended, or it is a string, of which the token decides
abbrev pub HasCome : Mode → Ready → Type 0
HasCome mode.After (ready.Nil cell) = ⊥
HasCome mode.After h = ⊤
HasCome mode.AfterText ready.Nothing = ⊤
HasCome m h = ⊥

-- after an object of a predicate list, where no rdf:rest is owed
abbrev pub IsAfterObject : {A : Type 0} → State A → Type 0
IsAfterObject r = (r.rest ≡ None) × IsListed r.frame.container × HasCome r.mode r.ready

-- the quads that are ready, and those with the one that waits to know the token
abbrev pub ready_quads : {A : Type 0} → DocForm → State A → List Quad
ready_quads form r = let g = graph_in r in kept (rest_of g r.rest) (kept (ready_of g (mode_in form r) r r.ready) [])

-- the quads that go to the sink when the token is accepted: those ready, and one whose object the token decides
abbrev pub given : {A : Type 0} → DocForm → InForce → State A → Given → List Quad
given form s r t = ready_quads form r ++ kept (M.waiting (setting s (graph_in r)) (mode_in form r) t.kind (leaf t)) []

-- the state of the machine that a state of the reader is, in a scope
abbrev pub state_of : {A : Type 0} → DocForm → InForce → State A → M.State
state_of form s r = record { setting = setting s (graph_in r); mode = mode_in form r; ready = ready_quads form r }

-- the token is allowed by the grammar and by the limit of open brackets
abbrev pub May : DocForm → M.State → Kind → Leaf → Type 0
May form n k l = (is_go (M.step form n.setting n.mode k l) ≡ true) × ((M.deepens k && nat_le n.setting.scope.limits.depth (M.depth n.mode)) ≡ false)

-- the machine refuses for the same reason, where the grammar or the limit of open brackets is the reason
abbrev pub Refused : StepFault → M.Answer → Type 0
Refused Unexpected a = a ≡ M.refuses reason.Unexpected
Refused TooDeep a = a ≡ M.refuses reason.TooDeep
Refused r a = ⊥

-- the same of a state of the reader, in each scope with this limit of open brackets
abbrev pub RefusedWithin : {A : Type 0} → DocForm → ℕ → State A → Kind → StepFault → Type 0
RefusedWithin form most r k e = (s : InForce) (l : Leaf) → s.limits.depth ≡ most → Refused e (M.accept form (state_of form s r) k l)

-- the count of open brackets can change so
abbrev pub DepthMay : Kind → ℕ → Type 0
DepthMay OpenBracket n = n + 1 < 2 ^ 64
DepthMay OpenParen n = n + 1 < 2 ^ 64
DepthMay CloseBracket n = 1 ≤ n
DepthMay CloseParen n = 1 ≤ n
DepthMay k n = ⊤

-- what the machine answers to a token in a state of the reader
abbrev pub answer_to : {A : Type 0} → DocForm → InForce → State A → Given → M.Answer
answer_to form s r t = M.accept form (state_of form s r) t.kind (leaf t)

-- what each step keeps: the brackets are counted and no more than the limit, a prefix is no longer than a token, each text fits, that of the name is
-- empty, and no more frames are open than brackets
pub record Keeps {A : Type 0} (form : DocForm) (sizes : Sizes) (r : State A) : Type 0 where
  pub depth : r.depth ≡ M.depth (mode_in form r)
  pub short : PrefixFits (4 * sizes.token) r r.mode
  pub deep : r.depth ≤ sizes.depth
  pub fits : Fits (most_text sizes) r
  pub name : r.name ≡ None
  pub stack : length r.frames.items ≤ r.depth

-- the machine accepts: its quads were put, and its state is the reader's, in a scope that agrees with the reader's
abbrev pub Accepts : {A S : Type 0} → (S → Quad → S → Type 0) → DocForm → M.Answer → S → State A → InForce → S → Type 0
Accepts takes form (M.accepts qs n) old r t new = Appends takes old qs new × ((s : InForce) × SameScope s t × (n ≡ state_of form s r))
Accepts takes form (M.refuses e) old r t new = ⊥

-- the quads that an answer gives out
abbrev pub answered : M.Answer → List Quad
answered (M.accepts qs n) = qs
answered (M.refuses e) = []

-- the machine refuses for this reason and nothing was put; or memory was short or the device failed, when some of the quads were put
abbrev pub Fails : {S : Type 0} → (S → Quad → S → Type 0) → (S → Quad → S → Type 0) → (S → Bool) → StepFault → M.Answer → S → S → Type 0
Fails takes leaves failed Memory a old new = Begins takes leaves (answered a) old new × (failed new ≡ false)
Fails takes leaves failed Sink a old new = Begins takes leaves (answered a) old new × (failed new ≡ true)
Fails takes leaves failed e a old new = (a ≡ M.refuses (reason_of e)) × (new ≡ old)

-- the token is allowed in each scope with this limit of open brackets
abbrev pub MayAll : {A : Type 0} → DocForm → ℕ → State A → Kind → Type 0
MayAll form most r k = (s : InForce) (l : Leaf) → s.limits.depth ≡ most → May form (state_of form s r) k l

-- in each scope that agrees with the reader's the machine accepts the token as the reader did
abbrev pub AcceptsAll : {A S : Type 0} → (S → Quad → S → Type 0) → DocForm → InForce → State A → Given → S → State A → InForce → S → Type 0
AcceptsAll takes form here r t old new next last = (s : InForce) → SameScope s here → Accepts takes form (answer_to form s r t) old new next last

-- so many quads as the machine gives out
abbrev pub Counts : {A : Type 0} → DocForm → State A → Given → ℕ → Type 0
Counts form r t n = (s : InForce) (qs : List Quad) (m : M.State) → answer_to form s r t ≡ M.accepts qs m → n ≡ length qs

-- in each scope that agrees with the reader's the machine refuses the token as the reader did
abbrev pub FailsAll :
    {A S : Type 0} → (S → Quad → S → Type 0) → (S → Quad → S → Type 0) → (S → Bool) → DocForm → InForce → State A → Given → S → S → StepFault → Type 0
FailsAll takes leaves failed form here r t old new e = (s : InForce) → SameScope s here → Fails takes leaves failed e (answer_to form s r t) old new

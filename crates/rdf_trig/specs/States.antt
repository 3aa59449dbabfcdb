-- What the states of the reader's code mean.
use Rattle.std.specs.Prelude.{◌≡◌, ℕ, Bool, true, false, List, [], ◌∷◌, Option, Some, None, option_map, unwrap_or, ⊤, ◌+◌, ◌≤◌}
use Rattle.std.specs.Str.{chars}
use Rattle.std.specs.String.{string_bytes}
use Rattle.rdf_terms.specs.declared.kind.Kind.{Kind}
use Rattle.rdf_terms.specs.declared.kind.Kind.TheVariants.{IriRef, PnameNs, PnameLn, OpenBracket, OpenParen, CloseBracket, CloseParen}
use Rattle.rdf_terms.specs.declared.kind.Dialect.TheVariants as dialect
use Rattle.rdf_terms.specs.Terms.{Cell, Blank, Lang, Typed, Term, Resource, Literal, Quad}
use Rattle.rdf_terms.specs.Terms as term
use Rattle.rdf_terms.specs.Known.{known_chars}
use Rattle.rdf_terms.specs.declared.constants.Known.TheVariants.{RdfType, RdfRest, XsdString}
use Rattle.rdf_tokens.specs.declared.token.Token.{Token as Given}
use Rattle.rdf_tokens.specs.Scans.{token_of, IsToken}
use Rattle.rdf_iri.specs.Texts.{byte_len}
use Rattle.rdf_iri.specs.Scope.{InForce}
use Rattle.rdf_tokens.specs.Leaves.{Leaf, leaf_of}
use Rattle.rdf_trig.specs.declared.form.DocForm.{DocForm}
use Rattle.rdf_trig.specs.declared.state.Block.{Block}
use Rattle.rdf_trig.specs.declared.state.Block.TheVariants as block
use Rattle.rdf_trig.specs.declared.state.Level.{Level}
use Rattle.rdf_trig.specs.declared.state.Level.TheVariants as level
use Rattle.rdf_trig.specs.declared.state.Around.{Around}
use Rattle.rdf_trig.specs.declared.state.Around.TheVariants as around
use Rattle.rdf_trig.specs.declared.state.Container.{Container}
use Rattle.rdf_trig.specs.declared.state.Container.TheVariants as container
use Rattle.rdf_trig.specs.declared.state.Frame.{Frame}
use Rattle.rdf_trig.specs.declared.state.Spelling.{Spelling}
use Rattle.rdf_trig.specs.declared.state.Spelling.TheVariants as spelling
use Rattle.rdf_trig.specs.declared.state.Outer.{Outer}
use Rattle.rdf_trig.specs.declared.state.Outer.TheVariants as outer
use Rattle.rdf_trig.specs.declared.state.Mode.{Mode}
use Rattle.rdf_trig.specs.declared.state.Mode.TheVariants as mode
use Rattle.rdf_trig.specs.declared.state.Ready.{Ready}
use Rattle.rdf_trig.specs.declared.state.Ready.TheVariants as ready
use Rattle.rdf_trig.specs.declared.state.State.{State}
use Rattle.rdf_trig.specs.Owed.{iri_size}
use Rattle.rdf_trig.specs.Names.{reference_in, name_in, with_base, with_binding, is_full}
use Rattle.rdf_trig.specs.Quads.{Setting, stated}
use Rattle.rdf_trig.specs.Events.{Use, itself, stands, binds}
use Rattle.rdf_trig.specs.Machine as M
use Rattle.rdf_trig.specs.Machine.{Reply, No, Go, nil, subject_at, verb_at}

-- a token and its leaf
abbrev pub leaf : Given → Leaf
leaf t = leaf_of (token_of t)

-- a token that Turtle and TriG have
abbrev pub IsTurtleToken : Given → Type 0
IsTurtleToken t = IsToken dialect.Turtle (token_of t)

-- the predicate's IRI: where a verb has no text it is `a`, which is rdf:type
abbrev pub verb_of : Option (List ℕ) → List ℕ
verb_of p = unwrap_or p (known_chars RdfType)

-- a verb as the machine has it, with its bytes; `a` has no text
abbrev pub spelt_of : Option (List ℕ) → M.Spelt
spelt_of p = record { iri = Some (verb_of p); size = iri_size p }

-- the datatype of a string; where it has no text it is xsd:string
abbrev pub datatype_of : Option (List ℕ) → List ℕ
datatype_of d = unwrap_or d (known_chars XsdString)

-- the level, and the graph of its statements
abbrev pub level_of : Level → M.Level
level_of level.Top = M.Top
level_of (level.Block b) = M.InBlock

-- the graph of a block: its label, or the default graph
abbrev pub block_graph : Block → M.Topic → Option term.Subject
block_graph block.Default g = None
block_graph block.Named g = g.term

-- the graph in which a statement's triples stand; none is the default graph
abbrev pub graph_of : Level → M.Topic → Option term.Subject
graph_of level.Top g = None
graph_of (level.Block b) g = block_graph b g

-- what a predicate list stands in: for a list in brackets, what the frames below make of the bracket
abbrev pub around_of : Around → M.Level → M.Up → M.Around
around_of around.Statement v u = M.Statement v
around_of around.PropertyList v u = M.InPropertyList u

-- the object's place: after the subject and the verb of a list, or in a collection, with the frames below round it
abbrev pub place_at : M.Level → Container → M.Topic → Option (List ℕ) → M.Up → M.Place
place_at v (container.List a) s p u = M.Listed s (spelt_of p) (around_of a v u)
place_at v (container.Cells first cell) s p u = M.InCollection first cell u

-- the object's place of a frame
abbrev pub place_of : {A : Type 0} → M.Level → Frame A → M.Up → M.Place
place_of v f u = place_at v f.container f.subject f.verb u

-- what a bracket stands for, by the frames that are open, the innermost one last
abbrev pub up_from : {A : Type 0} → M.Level → M.Up → List (Frame A) → M.Up
up_from v u [] = u
up_from v u (f ∷ fs) = up_from v (M.At (place_of v f u)) fs

-- what a bracket inside all of these frames stands for
abbrev pub up_of : {A : Type 0} → M.Level → List (Frame A) → M.Up
up_of v fs = up_from v (M.Subject v) fs

-- how a directive is spelled, in the machine's words
abbrev pub spelling_of : Spelling → M.Spelling
spelling_of spelling.Dotted = M.Dotted
spelling_of spelling.Sparql = M.Sparql

-- where the reader stands between statements, after a `[` at this offset, in a directive with this prefix, or before a block with this label, in the
-- machine's words
abbrev pub outer_of : Outer → ℕ → List ℕ → M.Topic → M.Mode
outer_of outer.Start n p g = M.Start
outer_of (outer.Inside b) n p g = M.Inside
outer_of outer.Over n p g = M.Over
outer_of (outer.WantPrefix w) n p g = M.WantPrefix (spelling_of w)
outer_of (outer.WantPrefixIri w) n p g = M.WantPrefixIri (spelling_of w) p
outer_of (outer.WantBaseIri w) n p g = M.WantBaseIri (spelling_of w)
outer_of outer.WantDot n p g = M.WantDot
outer_of outer.GraphWord n p g = M.GraphWord
outer_of outer.GraphBracket n p g = M.GraphBracket n
outer_of outer.WantBrace n p g = M.WantBrace g.term

-- the graph of the block whose statements come next; none outside of a block, and in one of the default graph
abbrev pub outer_graph : Outer → M.Topic → Option term.Subject
outer_graph (outer.Inside b) g = block_graph b g
outer_graph o g = None

-- the first and the present cell of a collection, 0 where there is none
abbrev pub first_of : Container → ℕ
first_of (container.Cells first cell) = first
first_of (container.List a) = 0

abbrev pub cell_of : Container → ℕ
cell_of (container.Cells first cell) = cell
cell_of (container.List a) = 0

-- after a `;` the frame in hand is a predicate list
abbrev pub after_semicolon_at : M.Place → M.Mode
after_semicolon_at (M.Listed s p a) = M.AfterSemicolon s a
after_semicolon_at (M.InCollection first cell u) = M.Over

-- of a state: what a bracket stands for, the place in hand, the characters of its text
abbrev pub up_in : {A : Type 0} → State A → M.Up
up_in r = up_of (level_of r.level) r.frames.items

abbrev pub place_in : {A : Type 0} → State A → M.Place
place_in r = place_of (level_of r.level) r.frame (up_in r)

-- the place of the present item of the collection in hand
abbrev pub item_in : {A : Type 0} → State A → M.Place
item_in r = M.InCollection (first_of r.frame.container) (cell_of r.frame.container) (up_in r)

-- what a predicate list in hand stands in
abbrev pub around_in : {A : Type 0} → State A → Around → M.Around
around_in r a = around_of a (level_of r.level) (up_in r)

abbrev pub text_in : {A : Type 0} → State A → List ℕ
text_in r = chars (string_bytes r.text)

-- the mode of the machine that a mode of the reader is, with the bracket, texts and frames of a state
abbrev pub mode_at : {A : Type 0} → DocForm → State A → Mode → M.Mode
mode_at form r (mode.Outer o) = outer_of o r.bracket (text_in r) r.graph
mode_at form r mode.AfterSubject = M.after_subject form (level_of r.level) r.frame.subject
mode_at form r mode.Want = M.Want (place_in r)
mode_at form r mode.After = M.After (place_in r)
mode_at form r mode.AfterText = M.AfterText (text_in r) (place_in r)
mode_at form r mode.WantType = M.WantType (text_in r) (place_in r)
mode_at form r mode.PropertyListStart = M.PropertyListStart r.bracket (up_in r)
mode_at form r mode.CollectionStart = M.CollectionStart (up_in r)
mode_at form r mode.WantVerb = M.WantVerb r.frame.subject (M.Statement (level_of r.level))
mode_at form r mode.AfterSemicolon = after_semicolon_at (place_in r)
mode_at form r mode.AfterPropertyList = M.AfterPropertyList r.frame.subject (level_of r.level)

-- the mode of a state
abbrev pub mode_in : {A : Type 0} → DocForm → State A → M.Mode
mode_in form r = mode_at form r r.mode

-- the graph of the quads in a mode, and of a state
abbrev pub graph_at : {A : Type 0} → State A → Mode → Option term.Subject
graph_at r (mode.Outer o) = outer_graph o r.graph
graph_at r m = graph_of r.level r.graph

abbrev pub graph_in : {A : Type 0} → State A → Option term.Subject
graph_in r = graph_at r r.mode

-- a scope, and a graph whose label stands for an IRI or a blank node, or the default graph
abbrev pub setting : InForce → Option term.Subject → Setting
setting s g = record { scope = s; graph = Some g }

-- the term of an object whose quad is ready: an IRI or node, a string with its type or tag, a number or boolean with the datatype of its form
abbrev pub object_of : {A : Type 0} → State A → Ready → Option Term
object_of r ready.Resource = option_map Resource r.object.term
object_of r ready.WithType = Some (Literal (text_in r) (Typed (datatype_of r.datatype)))
object_of r ready.WithTag = option_map (λ t. Literal (text_in r) (Lang t)) r.tag
object_of r (ready.OfKnown k) = Some (Literal (text_in r) (Typed (known_chars k)))
object_of r h = None

-- the quad of an object that has come at a place, and that of a mode whose object has come
abbrev pub object_quad : Option term.Subject → M.Mode → Option Term → Option Quad
object_quad g (M.After p) o = stated (Some g) (subject_at p) (verb_at p) o
object_quad g (M.PropertyListStart n (M.At p)) o = stated (Some g) (subject_at p) (verb_at p) o
object_quad g m o = None

-- a mode in which no quad waits to know the next token
abbrev pub IsSettled : Mode → Type 0
IsSettled mode.AfterText = ⊥
IsSettled mode.CollectionStart = ⊥
IsSettled m = ⊤

-- the rdf:rest quad of a cell, to the next cell or to rdf:nil
abbrev pub cells_quad : Option term.Subject → ℕ → term.Subject → Option Quad
cells_quad g cell next = Some (record { subject = Blank (Cell cell); predicate = known_chars RdfRest; object = Resource next; graph = g })

-- the quads that are ready
abbrev pub rest_of : Option term.Subject → Option (ℕ × ℕ) → Option Quad
rest_of g None = None
rest_of g (Some p) = cells_quad g p.0 (Blank (Cell p.1))

-- the quad whose head ended with the last token: of an object at its place, or the last rdf:rest of a collection
abbrev pub ready_of : {A : Type 0} → Option term.Subject → M.Mode → State A → Ready → Option Quad
ready_of g m r ready.Nothing = None
ready_of g m r (ready.Nil cell) = cells_quad g cell nil
ready_of g m r h = object_quad g m (object_of r h)

-- where a statement's dot leads
abbrev pub mode_after_dot : M.Level → M.Mode
mode_after_dot M.Top = M.Start
mode_after_dot M.InBlock = M.Inside

-- the setting of the statement of a state
abbrev pub setting_in : {A : Type 0} → InForce → State A → Setting
setting_in s r = setting s (graph_of r.level r.graph)

-- what a token stands for outside of directives
abbrev pub name_at : InForce → Kind → Leaf → Option (List ℕ)
name_at s IriRef l = reference_in s l
name_at s PnameNs l = name_in s l
name_at s PnameLn l = name_in s l
name_at s k l = None

-- what a token stands for, as the grammar's events say it: an IRI, or itself alone
abbrev pub use_at : InForce → Kind → Leaf → Use
use_at s IriRef l = stands (reference_in s l)
use_at s PnameNs l = stands (name_in s l)
use_at s PnameLn l = stands (name_in s l)
use_at s k l = itself

-- a reference or name comes with its IRI
abbrev pub IsNamed : Kind → Option (List ℕ) → Type 0
IsNamed IriRef None = ⊥
IsNamed PnameNs None = ⊥
IsNamed PnameLn None = ⊥
IsNamed k i = ⊤

-- the same in a directive too, and the scope after it
abbrev pub use_in : InForce → M.Mode → Kind → Leaf → Use
use_in s (M.WantPrefix w) k l = itself
use_in s (M.WantPrefixIri w p) IriRef l = binds (is_full s p) (reference_in s l)
use_in s (M.WantPrefixIri w p) k l = itself
use_in s (M.WantBaseIri w) IriRef l = stands (reference_in s l)
use_in s (M.WantBaseIri w) k l = itself
use_in s m k l = use_at s k l

-- the scope after a token: the IRIREF of a directive changes it, and no other token does
abbrev pub scope_in : InForce → M.Mode → Kind → Leaf → InForce
scope_in s (M.WantPrefixIri w p) IriRef l = with_binding s p (reference_in s l)
scope_in s (M.WantBaseIri w) IriRef l = with_base s (reference_in s l)
scope_in s m k l = s

-- in a directive no IRI comes with its token
abbrev pub IsNamedIn : M.Mode → Kind → Option (List ℕ) → Type 0
IsNamedIn (M.WantPrefix w) k i = ⊤
IsNamedIn (M.WantPrefixIri w p) k i = ⊤
IsNamedIn (M.WantBaseIri w) k i = ⊤
IsNamedIn m k i = IsNamed k i

-- outside of directives the IRI that comes with a token is that which it stands for
abbrev pub NameIn : InForce → M.Mode → Kind → Leaf → Option (List ℕ) → Type 0
NameIn s (M.WantPrefix w) k l i = ⊤
NameIn s (M.WantPrefixIri w p) k l i = ⊤
NameIn s (M.WantBaseIri w) k l i = ⊤
NameIn s m k l i = name_at s k l ≡ i

-- what the token does, by the state after it
abbrev pub moved : {A : Type 0} → DocForm → InForce → Use → State A → Reply
moved form s u r =
    let g = graph_in r in
    Go u (rest_of g r.rest) (ready_of g (mode_in form r) r r.ready) (setting s g) (mode_in form r)

-- the token is allowed by the grammar alone
abbrev pub is_go : Reply → Bool
is_go No = false
is_go (Go u early now c m) = true

-- how a token changes the number of open brackets
abbrev pub DepthMoves : Kind → ℕ → ℕ → Type 0
DepthMoves OpenBracket old new = new ≡ old + 1
DepthMoves OpenParen old new = new ≡ old + 1
DepthMoves CloseBracket old new = new + 1 ≡ old
DepthMoves CloseParen old new = new + 1 ≡ old
DepthMoves k old new = new ≡ old

-- the prefix of a directive has at most so many bytes
abbrev pub ShortPrefix : ℕ → M.Mode → Type 0
ShortPrefix n (M.WantPrefixIri w p) = byte_len p ≤ n
ShortPrefix n m = ⊤

-- the same of a state of the reader's code, whose text is the prefix
abbrev pub PrefixFits : {A : Type 0} → ℕ → State A → Mode → Type 0
PrefixFits n r (mode.Outer (outer.WantPrefixIri w)) = byte_len (text_in r) ≤ n
PrefixFits n r m = ⊤

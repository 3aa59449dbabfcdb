-- The laws of the definitions, of the machine against them, and of reading.
use Rattle.std.specs.Prelude.{◌≡◌, ◌≤◌, ℕ, true, false, List, [], ◌∷◌, ◌++◌, length, codes, Option, Some, None}
use Rattle.rdf_terms.specs.declared.kind.Kind.{Kind}
use Rattle.rdf_terms.specs.declared.kind.Kind.TheVariants.{IriRef, PnameNs, Dot, CloseBracket, CloseParen, OpenBrace, CloseBrace, End}
use Rattle.rdf_terms.specs.declared.reason.Reason.{Reason}
use Rattle.rdf_terms.specs.Terms.{Quad, has_scheme}
use Rattle.rdf_tokens.specs.Tokens.{Place, Token}
use Rattle.rdf_tokens.specs.Grammars.{Marked, unmarked, Viable, Due, PassesNone, IsFront, CompletedWith, reading_of, IsDocumentOf, IsWithin, GoesOn, Refused, IsReadToItsEnd, Rises}
use Rattle.rdf_driver.specs.Words.{in_words}
use Rattle.rdf_driver.specs.Readers.{HasRead}
use Rattle.rdf_iri.specs.Scope.{InForce, bound_to, Binds, bytes_held}
use Rattle.rdf_tokens.specs.Leaves.{Leaf, leaf_of, iri_of}
use Rattle.rdf_trig.specs.declared.form.DocForm.{DocForm}
use Rattle.rdf_trig.specs.Trees.{Document}
use Rattle.rdf_trig.specs.TreeTokens.{document_tokens}
use Rattle.rdf_trig.specs.Names.{reference_in, name_in, prefix_of, with_binding, SameNames}
use Rattle.rdf_trig.specs.TreeQuads.{document_quads}
use Rattle.rdf_trig.specs.Events.{Use, tokens, event_quads, document_events, BoundFront}
use Rattle.rdf_trig.specs.Documents.{documents, trees, InTree, Passes}
use Rattle.rdf_trig.specs.Owed.{HasToHold, scope_size}
use Rattle.rdf_trig.specs.Refusals.{Blamed}
use Rattle.rdf_trig.specs.Machine.{Over, State, refuses, accept, at_start, ran, accept_all}
use Rattle.rdf_trig.specs.Language.{Chosen, language}
use Rattle.rdf_trig.specs.Accepting.{TrigRead, tree_words}

-- The events of a tree have the tokens that it derives, and its quads with their marks.
abbrev pub EventsTellTheTree : Type 0
EventsTellTheTree = (form : DocForm) (start : InForce) (d : Document form) →
    (tokens (document_events start d) ≡ document_tokens d) × (event_quads 0 (document_events start d) ≡ document_quads start 0 d)

-- The quads of a tree come in the order in which they are due.
abbrev pub MarksNeverFall : Type 0
MarksNeverFall = (form : DocForm) (start : InForce) (d : Document form) → Rises 0 (event_quads 0 (document_events start d))

-- Every tree of the same tokens has the same quads with the same marks.
abbrev pub TokensSettleTheQuads : Type 0
TokensSettleTheQuads = (form : DocForm) (start : InForce) (ts : List Token) (qs rs : List Marked) → trees form start ts qs → trees form start ts rs → qs ≡ rs

-- What is due after some tokens is the same in every document that begins with them.
abbrev pub TokensSettleWhatIsDue : Type 0
TokensSettleWhatIsDue = (form : DocForm) (start : InForce) (ts : List Token) (qs rs : List Quad) → Due (documents form start) ts qs →
    Due (documents form start) ts rs → qs ≡ rs

-- Something has to be held after tokens that begin a document, whatever is counted of a scope, and it is the same in each document that begins with them.
abbrev pub TokensSettleWhatIsOwed : Type 0
TokensSettleWhatIsOwed = (outside : InForce → ℕ) (form : DocForm) (start : InForce) (ts : List Token) → Viable (documents form start) ts →
    (size : ℕ) × HasToHold outside form start ts size × ((other : ℕ) → HasToHold outside form start ts other → other ≡ size)

-- Scopes in which all names stand for the same take the same bytes, and no more than either of them holds.
abbrev pub ScopesAlikeTakeAlike : Type 0
ScopesAlikeTakeAlike = (s t : InForce) → SameNames s t → (scope_size s ≡ scope_size t) × (scope_size s ≤ bytes_held t)

-- What is due is a beginning of the quads of each document that begins so.
abbrev pub DueBeginsTheQuads : Type 0
DueBeginsTheQuads = (form : DocForm) (start : InForce) (ts more : List Token) (qs : List Quad) (all : List Marked) → Due (documents form start) ts qs →
    documents form start (ts ++ more) all → (rest : List Quad) × (unmarked all ≡ qs ++ rest)

-- What a token stands for is the same in every tree that begins with the tokens before it and with it.
abbrev pub TokensSettleTheirSenses : Type 0
TokensSettleTheirSenses = (form : DocForm) (start : InForce) (ahead : List Token) (t : Token) (u v : Use) → InTree form start ahead t u →
    InTree form start ahead t v → u ≡ v

-- some tree begins with the tokens, and each name and reference among them stands for an IRI in the scope that the start and the directives among them give
pub record ShapedAndBound (form : DocForm) (start : InForce) (ts : List Token) : Type 0 where
  pub tree : Document form
  pub more : List Token
  pub tokens : ts ++ more ≡ tokens (document_events start tree)
  pub bound : BoundFront (length ts) (document_events start tree)

-- Tokens begin a document exactly where they begin a tree with their names bound by what stands before, and then they are bound in every such tree.
pub record ViableWhereBound (form : DocForm) (start : InForce) (ts : List Token) : Type 0 where
  pub bound : Viable (documents form start) ts → ShapedAndBound form start ts
  pub viable : ShapedAndBound form start ts → Viable (documents form start) ts
  pub every : Viable (documents form start) ts → (tree : Document form) (more : List Token) → ts ++ more ≡ tokens (document_events start tree) →
      BoundFront (length ts) (document_events start tree)

-- So whether a name stands for something is settled by what comes before it, and nothing that comes later changes it.
abbrev pub ViableIsShapedAndBound : Type 0
ViableIsShapedAndBound = (form : DocForm) (start : InForce) (ts : List Token) → ViableWhereBound form start ts

-- the tokens of which completions are made
abbrev pub closing_text : Kind → Option (List ℕ)
closing_text PnameNs = Some (codes ":")
closing_text IriRef = Some (codes "<a:>")
closing_text OpenBrace = Some (codes "{")
closing_text CloseBrace = Some (codes "}")
closing_text CloseBracket = Some (codes "]")
closing_text CloseParen = Some (codes ")")
closing_text Dot = Some (codes ".")
closing_text End = Some []
closing_text k = None

-- the token is one of these, as it is written there
abbrev pub IsClosing : Token → Type 0
IsClosing t = closing_text t.kind ≡ Some t.text

-- Tokens that begin a document are completed to one by such tokens, and tokens that begin a tree, to a tree. They need no binding and no base.
abbrev pub CompletedBy : (List Token → List Marked → Type 0) → List Token → Type 0
CompletedBy documents ts = CompletedWith IsClosing documents ts

-- So a reader that has accepted some tokens is never in a dead end.
abbrev pub BeginningsAreCompleted : Type 0
BeginningsAreCompleted = (form : DocForm) (start : InForce) (ts : List Token) →
    (Viable (documents form start) ts → CompletedBy (documents form start) ts) × (Viable (trees form start) ts → CompletedBy (trees form start) ts)

-- A name stands for nothing exactly where its prefix is not bound, and a reference where it has no scheme and there is no base.
pub record NamelessWhere (s : InForce) (l : Leaf) : Type 0 where
  pub name : name_in s l ≡ None → bound_to s.bindings (prefix_of l) ≡ None
  pub no_name : bound_to s.bindings (prefix_of l) ≡ None → name_in s l ≡ None
  pub reference : reference_in s l ≡ None → (has_scheme (iri_of l) ≡ false) × (s.base ≡ None)
  pub no_reference : (has_scheme (iri_of l) ≡ false) × (s.base ≡ None) → reference_in s l ≡ None

-- So no name or reference is refused for its own text, but for what the scope at its place lacks.
abbrev pub NamelessIsUnbound : Type 0
NamelessIsUnbound = (s : InForce) (l : Leaf) → NamelessWhere s l

-- A directive binds its prefix to the IRI, and no other.
abbrev pub DirectivesBind : Type 0
DirectivesBind = (s : InForce) (prefix iri : List ℕ) → Binds s prefix iri (with_binding s prefix (Some iri))

-- The machine accepts a document of which no token passes a limit to its end, and gives out its quads.
abbrev pub DocumentsAreAccepted : Type 0
DocumentsAreAccepted = (form : DocForm) (start : InForce) (ts : List Token) (qs : List Marked) → documents form start ts qs →
    PassesNone (Passes form start) ts →
    (s : State) × (accept_all form (at_start start) ts ≡ ran s (unmarked qs)) × (s.mode ≡ Over)

-- What it accepts to its end is a document, and what it gave out are its quads.
abbrev pub AcceptedIsADocument : Type 0
AcceptedIsADocument = (form : DocForm) (start : InForce) (ts : List Token) (s : State) (qs : List Quad) →
    accept_all form (at_start start) ts ≡ ran s qs → s.mode ≡ Over →
    (all : List Marked) × documents form start ts all × (unmarked all ≡ qs)

-- What it accepts begins a document within the limits, and what it gave out is due.
pub record Reads (form : DocForm) (start : InForce) (ts : List Token) (qs : List Quad) : Type 0 where
  pub front : IsFront (documents form start) (Passes form start) ts ts
  pub due : Due (documents form start) ts qs

-- So the machine accepts no token too many, and gives out no quad before it is due.
abbrev pub AcceptedBeginsADocument : Type 0
AcceptedBeginsADocument = (form : DocForm) (start : InForce) (ts : List Token) (s : State) (qs : List Quad) →
    accept_all form (at_start start) ts ≡ ran s qs → Reads form start ts qs

-- Each token that it refuses is refused for its reason, and what stands before it is the front of the whole.
pub record IsRefusedAfter (form : DocForm) (start : InForce) (ts : List Token) (t : Token) (more : List Token) (x : Reason) : Type 0 where
  pub reason : Blamed form start x ts t
  pub front : IsFront (documents form start) (Passes form start) (ts ++ t ∷ more) ts

-- So it refuses no token too early, and none for a reason that does not hold.
abbrev pub RefusedForItsReason : Type 0
RefusedForItsReason = (form : DocForm) (start : InForce) (ts : List Token) (t : Token) (more : List Token) (s : State) (qs : List Quad)
    (x : Reason) → accept_all form (at_start start) ts ≡ ran s qs →
    accept form s t.kind (leaf_of t) ≡ refuses x → IsRefusedAfter form start ts t more x

-- What a reader has read decides tokens that are all in the front, leaves the next one open, and the quads that were put are due after them.
abbrev pub ReadQuadsAreDue : Type 0
ReadQuadsAreDue = (r : TrigRead) (x : Chosen) (bytes : List ℕ) (quads : List Quad) → HasRead tree_words r x bytes quads →
    let l = in_words tree_words x r.scanner.limit in
    GoesOn l bytes × Due (documents x.form x.start) (reading_of l bytes false).tokens quads

-- A document within the limits is read to its end, however it is cut.
abbrev pub DocumentsAreRead : Type 0
DocumentsAreRead = (form : DocForm) (start : InForce) (bytes : List ℕ) (quads : List Quad) → IsDocumentOf (language form start) bytes quads →
    IsWithin (language form start) bytes →
    IsReadToItsEnd (language form start) bytes

-- What is refused is no document within the limits.
abbrev pub RefusedIsNoDocument : Type 0
RefusedIsNoDocument = (form : DocForm) (start : InForce) (bytes : List ℕ) (quads : List Quad) (reason : Reason) (at : Place) →
    Refused (language form start) bytes true reason at →
    IsDocumentOf (language form start) bytes quads → IsWithin (language form start) bytes → ⊥

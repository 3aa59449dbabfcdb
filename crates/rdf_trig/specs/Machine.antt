-- The reader, a token at a time: what it stands in, and what a token does there.
use Rattle.std.specs.Prelude.{ℕ, ◌+◌, Bool, true, false, cond, List, [], ◌∷◌, ◌++◌, ◌&&◌, nat_lt, nat_le, codes, Option, Some, None}
use Rattle.rdf_terms.specs.declared.kind.Kind.{Kind}
use Rattle.rdf_terms.specs.declared.kind.Kind.TheVariants.{IriRef, LabelNode, ShortString, LongString, LangTag, Carets, Dot, Integer, Decimal, Double, True, False, A, AtPrefix, AtBase, Prefix, Base, Graph, PnameNs, PnameLn, Semicolon, Comma, OpenBracket, CloseBracket, OpenParen, CloseParen, OpenBrace, CloseBrace, End}
use Rattle.rdf_terms.specs.Terms.{Cell, Blank, Term, Quad}
use Rattle.rdf_terms.specs.Terms as term
use Rattle.rdf_terms.specs.Known.{known_chars}
use Rattle.rdf_terms.specs.declared.constants.Known.TheVariants.{RdfType, RdfFirst, RdfNil, XsdInteger, XsdDecimal, XsdDouble, XsdBoolean}
use Rattle.rdf_terms.specs.declared.reason.Reason.{Reason}
use Rattle.rdf_terms.specs.declared.reason.Reason.TheVariants.{Unexpected, TooDeep, Unbound, NoBase, IriTooLong, TooManyBindings}
use Rattle.rdf_tokens.specs.Tokens.{Token}
use Rattle.rdf_iri.specs.Limits.{Sizes}
use Rattle.rdf_iri.specs.Texts.{byte_len}
use Rattle.rdf_iri.specs.Scope.{InForce}
use Rattle.rdf_tokens.specs.Leaves.{Leaf, leaf_of}
use Rattle.rdf_trig.specs.declared.form.DocForm.{DocForm}
use Rattle.rdf_trig.specs.declared.form.DocForm.TheVariants.{Turtle, TriG}
use Rattle.rdf_trig.specs.Trees.{Verb}
use Rattle.rdf_trig.specs.Names.{prefix_of, reference_in, name_in, with_base, with_binding, is_full}
use Rattle.rdf_trig.specs.Quads.{Setting, in_default, in_graph, verb_of, stated, named, node, resource, anon_at, labelled, value_in, tag_of, plain_literal, tagged_literal, typed_literal, cell_at, rest_quad}
use Rattle.rdf_trig.specs.Owed.{iri_size, term_size, verb_size}
use Rattle.rdf_trig.specs.Events.{Use, itself, stands, binds, Event, Took, give}

-- outside of a block, or in one
pub data Level : Type 0 where
  Top : Level
  InBlock : Level

-- the subject of a predicate list, and how many bytes its text has, which is 0 where no token spells it
pub record Topic : Type 0 where
  pub term : Option term.Subject
  pub size : ℕ

-- a verb's IRI, and how many bytes it has, which is 0 for `a`
pub record Spelt : Type 0 where
  pub iri : Option (List ℕ)
  pub size : ℕ

-- a subject that a token spells, or a node without a label
abbrev pub sized : Option term.Subject → Topic
sized s = record { term = s; size = term_size s }

-- a subject that no token spells, as a collection
abbrev pub unsized : Option term.Subject → Topic
unsized s = record { term = s; size = 0 }

-- a verb that a token spells
abbrev pub spelt : Option (List ℕ) → Spelt
spelt i = record { iri = i; size = iri_size i }

-- `a`, which is rdf:type
abbrev pub type_verb : Spelt
type_verb = record { iri = Some (known_chars RdfType); size = 0 }

-- a verb of the grammar in a scope
abbrev pub verb_in : InForce → Verb → Spelt
verb_in s v = record { iri = verb_of s v; size = verb_size s v }

-- The frames. Each holds a subject and a verb at most; what it stands in is the frame below.
mutual
  -- where an object stands: after a subject and a verb, or in a collection with its first and its present cell, as offsets
  pub data Place : Type 0 where
    Listed : Topic → Spelt → Around → Place
    InCollection : ℕ → ℕ → Up → Place

  -- what a predicate list stands in
  pub data Around : Type 0 where
    Statement : Level → Around
    InPropertyList : Up → Around

  -- what a bracket stands for: a subject, or the object at a place
  pub data Up : Type 0 where
    Subject : Level → Up
    At : Place → Up

-- a directive that ends in a dot, or not
pub data Spelling : Type 0 where
  Dotted : Spelling
  Sparql : Spelling

-- what has been read, as far as it matters for what may come
pub data Mode : Type 0 where
  -- between statements, and after the end
  Start : Mode
  Over : Mode
  -- in a directive: its prefix is to come, its IRIREF, its dot
  WantPrefix : Spelling → Mode
  WantPrefixIri : Spelling → List ℕ → Mode
  WantBaseIri : Spelling → Mode
  WantDot : Mode
  -- after a label or subject; after GRAPH, after its '[' and after its label
  AfterLabel : Topic → Mode
  GraphWord : Mode
  GraphBracket : ℕ → Mode
  WantBrace : Option term.Subject → Mode
  -- in a block, before a subject
  Inside : Mode
  -- an object is to come, or has come; a string has come, and after it '^^'
  Want : Place → Mode
  After : Place → Mode
  AfterText : List ℕ → Place → Mode
  WantType : List ℕ → Place → Mode
  -- after '[' and after '('
  PropertyListStart : ℕ → Up → Mode
  CollectionStart : Up → Mode
  -- a verb has to come; after ';' one may; after a property list that is a subject
  WantVerb : Topic → Around → Mode
  AfterSemicolon : Topic → Around → Mode
  AfterPropertyList : Topic → Level → Mode

-- What a token does by the grammar alone: nothing has it there; or what it stands for, a quad whose head ends with it as the first token of
-- the next item, a quad whose head ends with it as an object, and where the reader stands after it.
pub data Reply : Type 0 where
  No : Reply
  Go : Use → Option Quad → Option Quad → Setting → Mode → Reply

-- the token alone, with no quad
abbrev pub goes : Setting → Mode → Reply
goes c m = Go itself None None c m

-- the cell of a collection as a subject, by the byte offset of its item's first token
abbrev pub cell : ℕ → Option term.Subject
cell n = node (Cell n)

-- the subject of the triple that an object at this place belongs to
abbrev pub subject_at : Place → Option term.Subject
subject_at (Listed s p a) = s.term
subject_at (InCollection f n u) = cell n

-- its predicate: rdf:first in a collection
abbrev pub verb_at : Place → Option (List ℕ)
verb_at (Listed s p a) = p.iri
verb_at (InCollection f n u) = Some (known_chars RdfFirst)

-- the quad of an object at this place
abbrev pub quad_at : Setting → Place → Option Term → Option Quad
quad_at c p o = stated c.graph (subject_at p) (verb_at p) o

-- the quad of a bracket's object, once it is known
abbrev pub quad_up : Setting → Up → term.Subject → Option Quad
quad_up c (Subject v) s = None
quad_up c (At p) s = quad_at c p (resource (Some s))

-- the empty collection, which has no cells
abbrev pub nil : term.Subject
nil = term.Iri (known_chars RdfNil)

-- Objects.
-- an iri has come as the object at a place
abbrev pub iri_object_at : Setting → Place → Option Quad → Option (List ℕ) → Reply
iri_object_at c p early i = Go (stands i) early (quad_at c p (resource (named i))) c (After p)

-- an object of one token that stands for no IRI: a label, a number or a boolean
abbrev pub literal_at : Setting → Place → Option Quad → Option Term → Reply
literal_at c p early o = Go itself early (quad_at c p o) c (After p)

-- the first token of an object; early is the quad that was waiting for it
abbrev pub object_start : Setting → Place → Option Quad → Kind → Leaf → Reply
object_start c p early IriRef l = iri_object_at c p early (reference_in c.scope l)
object_start c p early PnameLn l = iri_object_at c p early (name_in c.scope l)
object_start c p early PnameNs l = iri_object_at c p early (name_in c.scope l)
object_start c p early LabelNode l = literal_at c p early (resource (node (labelled l)))
object_start c p early ShortString l = Go itself early None c (AfterText (value_in 1 l) p)
object_start c p early LongString l = Go itself early None c (AfterText (value_in 3 l) p)
object_start c p early Integer l = literal_at c p early (typed_literal l.text (Some (known_chars XsdInteger)))
object_start c p early Decimal l = literal_at c p early (typed_literal l.text (Some (known_chars XsdDecimal)))
object_start c p early Double l = literal_at c p early (typed_literal l.text (Some (known_chars XsdDouble)))
object_start c p early True l = literal_at c p early (typed_literal (codes "true") (Some (known_chars XsdBoolean)))
object_start c p early False l = literal_at c p early (typed_literal (codes "false") (Some (known_chars XsdBoolean)))
object_start c p early OpenBracket l = Go itself early (quad_at c p (resource (node (anon_at l)))) c (PropertyListStart l.at.offset (At p))
object_start c p early OpenParen l = Go itself early None c (CollectionStart (At p))
object_start c p early k l = No

-- a string with its datatype IRI has come
abbrev pub type_at : Setting → List ℕ → Place → Option (List ℕ) → Reply
type_at c w p i = Go (stands i) None (quad_at c p (typed_literal w i)) c (After p)

-- after '^^' an iri has to come
abbrev pub want_type : Setting → List ℕ → Place → Kind → Leaf → Reply
want_type c w p IriRef l = type_at c w p (reference_in c.scope l)
want_type c w p PnameLn l = type_at c w p (name_in c.scope l)
want_type c w p PnameNs l = type_at c w p (name_in c.scope l)
want_type c w p k l = No

-- Verbs.
-- a verb has come, and its first object has to come next
abbrev pub verb_is : Setting → Topic → Around → Option (List ℕ) → Reply
verb_is c s a i = Go (stands i) None None c (Want (Listed s (spelt i) a))

-- the first token of a verb, which is its only one: an iri or `a`
abbrev pub verb_start : Setting → Topic → Around → Kind → Leaf → Reply
verb_start c s a IriRef l = verb_is c s a (reference_in c.scope l)
verb_start c s a PnameLn l = verb_is c s a (name_in c.scope l)
verb_start c s a PnameNs l = verb_is c s a (name_in c.scope l)
verb_start c s a A l = goes c (Want (Listed s type_verb a))
verb_start c s a k l = No

-- Where the reader stands after a subject that is a name or node, a property list, and a collection.
abbrev pub after_subject : DocForm → Level → Topic → Mode
after_subject form InBlock s = WantVerb s (Statement InBlock)
after_subject Turtle Top s = WantVerb s (Statement Top)
after_subject TriG Top s = AfterLabel s

-- after `[]`: a subject may go on as one, and in TriG as the label of a graph; an object has come
abbrev pub node_closed : DocForm → Up → Topic → Mode
node_closed form (Subject v) s = after_subject form v s
node_closed form (At p) s = After p

-- after the ']' of a property list: as a subject it may end the statement, as an object it has come
abbrev pub property_list_closed : Up → Topic → Mode
property_list_closed (Subject v) s = AfterPropertyList s v
property_list_closed (At p) s = After p

-- after the ')' of a collection: as a subject it needs a verb, as an object it has come
abbrev pub collection_closed : Up → Topic → Mode
collection_closed (Subject v) s = WantVerb s (Statement v)
collection_closed (At p) s = After p

-- the end of a predicate list
abbrev pub predicate_list_end : Setting → Topic → Around → Kind → Leaf → Reply
predicate_list_end c s (Statement Top) Dot l = goes c Start
predicate_list_end c s (Statement InBlock) Dot l = goes c Inside
predicate_list_end c s (Statement InBlock) CloseBrace l = goes (in_default c.scope) Start
predicate_list_end c s (InPropertyList u) CloseBracket l = goes c (property_list_closed u s)
predicate_list_end c s a k l = No

-- after ';' there may be another ';', a verb, or the end of the predicate list
abbrev pub after_semicolon : Setting → Topic → Around → Kind → Leaf → Reply
after_semicolon c s a Semicolon l = goes c (AfterSemicolon s a)
after_semicolon c s a IriRef l = verb_start c s a IriRef l
after_semicolon c s a PnameLn l = verb_start c s a PnameLn l
after_semicolon c s a PnameNs l = verb_start c s a PnameNs l
after_semicolon c s a A l = verb_start c s a A l
after_semicolon c s a k l = predicate_list_end c s a k l

-- after an object: ',' or ';' or the end of its list; in a collection the next item or ')', with the rdf:rest of the cell before
abbrev pub after : Setting → Place → Kind → Leaf → Reply
after c (Listed s p a) Comma l = goes c (Want (Listed s p a))
after c (Listed s p a) Semicolon l = goes c (AfterSemicolon s a)
after c (Listed s p a) k l = predicate_list_end c s a k l
after c (InCollection f n u) CloseParen l = Go itself None (rest_quad c (Cell n) nil) c (collection_closed u (unsized (cell f)))
after c (InCollection f n u) k l = object_start c (InCollection f l.at.offset u) (rest_quad c (Cell n) (Blank (cell_at l))) k l

-- a string with its language tag has come
abbrev pub tag_at : Setting → List ℕ → Place → Leaf → Reply
tag_at c w p l = Go itself None (quad_at c p (tagged_literal w (tag_of l))) c (After p)

-- after a string: its tag, '^^', or what may follow an object
abbrev pub after_text : Setting → List ℕ → Place → Kind → Leaf → Reply
after_text c w p LangTag l = tag_at c w p l
after_text c w p AtBase l = tag_at c w p l
after_text c w p AtPrefix l = tag_at c w p l
after_text c w p Carets l = goes c (WantType w p)
after_text c w p k l = after c p k l

-- Brackets.
-- after '[': ']' at once, for a node without a label, or the first verb of a property list
abbrev pub property_list_start : DocForm → Setting → ℕ → Up → Kind → Leaf → Reply
property_list_start form c n u CloseBracket l = goes c (node_closed form u (sized (node (term.Anon n))))
property_list_start form c n u k l = verb_start c (sized (node (term.Anon n))) (InPropertyList u) k l

-- after '(': ')' at once for rdf:nil, or the first item, whose cell is what the collection means
abbrev pub collection_start : Setting → Up → Kind → Leaf → Reply
collection_start c u CloseParen l = goes c (collection_closed u (unsized (Some nil)))
collection_start c u k l = object_start c (InCollection l.at.offset l.at.offset u) None k l

-- after a property list that is a subject: a verb, or the end of the statement
abbrev pub after_property_list : Setting → Topic → Level → Kind → Leaf → Reply
after_property_list c s v IriRef l = verb_start c s (Statement v) IriRef l
after_property_list c s v PnameLn l = verb_start c s (Statement v) PnameLn l
after_property_list c s v PnameNs l = verb_start c s (Statement v) PnameNs l
after_property_list c s v A l = verb_start c s (Statement v) A l
after_property_list c s v k l = predicate_list_end c s (Statement v) k l

-- Subjects, labels and blocks.
-- an iri has come as a subject, or as a label that looks like one
abbrev pub subject_is : DocForm → Setting → Level → Option (List ℕ) → Reply
subject_is form c v i = Go (stands i) None None c (after_subject form v (sized (named i)))

-- the first token of a subject
abbrev pub subject_start : DocForm → Setting → Level → Kind → Leaf → Reply
subject_start form c v IriRef l = subject_is form c v (reference_in c.scope l)
subject_start form c v PnameLn l = subject_is form c v (name_in c.scope l)
subject_start form c v PnameNs l = subject_is form c v (name_in c.scope l)
subject_start form c v LabelNode l = goes c (after_subject form v (sized (node (labelled l))))
subject_start form c v OpenBracket l = goes c (PropertyListStart l.at.offset (Subject v))
subject_start form c v OpenParen l = goes c (CollectionStart (Subject v))
subject_start form c v k l = No

-- between statements: a directive, a block, a subject or the end of the input
abbrev pub start : DocForm → Setting → Kind → Leaf → Reply
start form c End l = goes c Over
start form c AtPrefix l = goes c (WantPrefix Dotted)
start form c Prefix l = goes c (WantPrefix Sparql)
start form c AtBase l = goes c (WantBaseIri Dotted)
start form c Base l = goes c (WantBaseIri Sparql)
start TriG c Graph l = goes c GraphWord
start TriG c OpenBrace l = goes (in_default c.scope) Inside
start form c k l = subject_start form (in_default c.scope) Top k l

-- in a block, before a subject: '}' or triples
abbrev pub inside : DocForm → Setting → Kind → Leaf → Reply
inside form c CloseBrace l = goes (in_default c.scope) Start
inside form c k l = subject_start form c InBlock k l

-- after the label of GRAPH only '{' may come
abbrev pub want_brace : Setting → Option term.Subject → Kind → Leaf → Reply
want_brace c g OpenBrace l = goes (in_graph c.scope g) Inside
want_brace c g k l = No

-- after an iri or blank node outside of blocks in TriG: '{' makes it a graph's label, and a verb makes it a subject
abbrev pub after_label : Setting → Topic → Kind → Leaf → Reply
after_label c g OpenBrace l = goes (in_graph c.scope g.term) Inside
after_label c g k l = verb_start c g (Statement Top) k l

-- the IRI of a label after GRAPH has come
abbrev pub graph_is : Setting → Option (List ℕ) → Reply
graph_is c i = Go (stands i) None None c (WantBrace (named i))

-- after GRAPH a label has to come: an iri or a blank node
abbrev pub graph_word : Setting → Kind → Leaf → Reply
graph_word c IriRef l = graph_is c (reference_in c.scope l)
graph_word c PnameLn l = graph_is c (name_in c.scope l)
graph_word c PnameNs l = graph_is c (name_in c.scope l)
graph_word c LabelNode l = goes c (WantBrace (node (labelled l)))
graph_word c OpenBracket l = goes c (GraphBracket l.at.offset)
graph_word c k l = No

-- after GRAPH and '[' only ']' may come, since a label is no property list
abbrev pub graph_bracket : Setting → ℕ → Kind → Leaf → Reply
graph_bracket c n CloseBracket l = goes c (WantBrace (node (term.Anon n)))
graph_bracket c n k l = No

-- Directives.
-- a directive that begins with '@' needs its dot, and one in SPARQL's spelling ends with its IRIREF
abbrev pub directive_end : Spelling → Mode
directive_end Dotted = WantDot
directive_end Sparql = Start

-- after @prefix or PREFIX a PNAME_NS has to come
abbrev pub want_prefix : Setting → Spelling → Kind → Leaf → Reply
want_prefix c w PnameNs l = goes c (WantPrefixIri w (prefix_of l))
want_prefix c w k l = No

-- then its IRIREF, which binds the prefix in the scope that is in force there
abbrev pub want_prefix_iri : Setting → Spelling → List ℕ → Kind → Leaf → Reply
want_prefix_iri c w p IriRef l =
    Go (binds (is_full c.scope p) (reference_in c.scope l)) None None (in_default (with_binding c.scope p (reference_in c.scope l))) (directive_end w)
want_prefix_iri c w p k l = No

-- after @base or BASE an IRIREF has to come, and it is the base from there on
abbrev pub want_base_iri : Setting → Spelling → Kind → Leaf → Reply
want_base_iri c w IriRef l = Go (stands (reference_in c.scope l)) None None (in_default (with_base c.scope (reference_in c.scope l))) (directive_end w)
want_base_iri c w k l = No

-- a directive that begins with '@' has to end in '.'
abbrev pub want_dot : Setting → Kind → Leaf → Reply
want_dot c Dot l = goes c Start
want_dot c k l = No

-- what a token does in each mode
abbrev pub step : DocForm → Setting → Mode → Kind → Leaf → Reply
step form c Start k l = start form c k l
step form c Over k l = No
step form c (WantPrefix w) k l = want_prefix c w k l
step form c (WantPrefixIri w p) k l = want_prefix_iri c w p k l
step form c (WantBaseIri w) k l = want_base_iri c w k l
step form c WantDot k l = want_dot c k l
step form c (AfterLabel g) k l = after_label c g k l
step form c GraphWord k l = graph_word c k l
step form c (GraphBracket n) k l = graph_bracket c n k l
step form c (WantBrace g) k l = want_brace c g k l
step form c Inside k l = inside form c k l
step form c (Want p) k l = object_start c p None k l
step form c (After p) k l = after c p k l
step form c (AfterText w p) k l = after_text c w p k l
step form c (WantType w p) k l = want_type c w p k l
step form c (PropertyListStart n u) k l = property_list_start form c n u k l
step form c (CollectionStart u) k l = collection_start c u k l
step form c (WantVerb s a) k l = verb_start c s a k l
step form c (AfterSemicolon s a) k l = after_semicolon c s a k l
step form c (AfterPropertyList s v) k l = after_property_list c s v k l

-- a quad whose head has ended, but whose object is known only by this token
abbrev pub waiting : Setting → Mode → Kind → Leaf → Option Quad
waiting c (AfterText w p) LangTag l = None
waiting c (AfterText w p) AtBase l = None
waiting c (AfterText w p) AtPrefix l = None
waiting c (AfterText w p) Carets l = None
waiting c (AfterText w p) k l = quad_at c p (plain_literal w)
waiting c (CollectionStart u) CloseParen l = quad_up c u nil
waiting c (CollectionStart u) k l = quad_up c u (Blank (cell_at l))
waiting c m k l = None

-- The run over all tokens of a document, as its events; none where it refuses a token or stops short.
-- the events of a run with a quad before them, if there is one
abbrev pub fronted : Option Quad → Option (List Event) → Option (List Event)
fronted q None = None
fronted q (Some es) = Some (give q es)

-- the events of one token: itself, the quads whose heads end with it, and then those of the rest
abbrev pub put : Token → Use → Option Quad → Option Quad → Option (List Event) → Option (List Event)
put t u early now None = None
put t u early now (Some es) = Some (Took t u ∷ give early (give now es))

-- nothing comes after the end of the input, and no document stops before it
abbrev pub stop : Mode → Option (List Event)
stop Over = Some []
stop m = None

-- the events of an accepted token and of all after it
abbrev pub go_on : Token → Reply → (Setting → Mode → Option (List Event)) → Option (List Event)
go_on t No next = None
go_on t (Go u early now c m) next = put t u early now (next c m)

-- the events of the tokens read from this mode on, none where a token is refused or the end is missing
abbrev pub run : DocForm → Setting → Mode → List Token → Option (List Event)
run form c m [] = stop m
run form c m (t ∷ ts) = fronted (waiting c m t.kind (leaf_of t)) (go_on t (step form c m t.kind (leaf_of t)) (λ c' m'. run form c' m' ts))

-- The bytes of the open predicate lists: of each its subject, and its last verb where a further object of it can come.
abbrev mutual
  pub place_size : Place → ℕ
  place_size (Listed s p a) = around_size a + s.size + p.size
  place_size (InCollection f n u) = up_size u

  pub around_size : Around → ℕ
  around_size (Statement v) = 0
  around_size (InPropertyList u) = up_size u

  pub up_size : Up → ℕ
  up_size (Subject v) = 0
  up_size (At p) = place_size p

-- those in a mode; a subject whose verb has not come is not counted
abbrev pub mode_size : Mode → ℕ
mode_size (Want p) = place_size p
mode_size (After p) = place_size p
mode_size (AfterText w p) = place_size p
mode_size (WantType w p) = place_size p
mode_size (PropertyListStart n u) = up_size u
mode_size (CollectionStart u) = up_size u
mode_size (WantVerb s a) = around_size a
mode_size (AfterSemicolon s a) = around_size a + s.size
mode_size m = 0

-- How many '[' and '(' are open.
abbrev mutual
  pub depth_at : Place → ℕ
  depth_at (Listed s p a) = depth_around a
  depth_at (InCollection f n u) = depth_up u + 1

  pub depth_around : Around → ℕ
  depth_around (Statement v) = 0
  depth_around (InPropertyList u) = depth_up u + 1

  pub depth_up : Up → ℕ
  depth_up (Subject v) = 0
  depth_up (At p) = depth_at p

-- the '[' and '(' that are open in a mode, as the limit counts them
abbrev pub depth : Mode → ℕ
depth (GraphBracket n) = 1
depth (Want p) = depth_at p
depth (After p) = depth_at p
depth (AfterText w p) = depth_at p
depth (WantType w p) = depth_at p
depth (PropertyListStart n u) = depth_up u + 1
depth (CollectionStart u) = depth_up u + 1
depth (WantVerb s a) = depth_around a
depth (AfterSemicolon s a) = depth_around a
depth m = 0

-- where the reader stands, with the quads whose heads have ended at the last token: at most two
pub record State : Type 0 where
  pub setting : Setting
  pub mode : Mode
  pub ready : List Quad

-- what a token does: it is refused, for a reason; or accepted, with the quads that are given out
pub data Answer : Type 0 where
  refuses : Reason → Answer
  accepts : List Quad → State → Answer

-- an IRIREF has no IRI where it needs a base; a prefixed name where its prefix is not bound
abbrev pub unnamed : Kind → Reason
unnamed IriRef = NoBase
unnamed k = Unbound

-- an IRI has more bytes than the limit
abbrev pub too_long : Sizes → List ℕ → Bool
too_long sizes i = nat_lt sizes.iri (byte_len i)

-- the order of the checks: the depth, what the token stands for, its size, the number of bindings
abbrev pub by_use : Sizes → Kind → Use → Answer → Answer
by_use sizes k itself a = a
by_use sizes k (stands None) a = refuses (unnamed k)
by_use sizes k (stands (Some i)) a = cond (too_long sizes i) (refuses IriTooLong) a
by_use sizes k (binds full None) a = refuses NoBase
by_use sizes k (binds full (Some i)) a = cond (too_long sizes i) (refuses IriTooLong) (cond full (refuses TooManyBindings) a)

-- the token opens a bracket or parenthesis
abbrev pub deepens : Kind → Bool
deepens OpenBracket = true
deepens OpenParen = true
deepens k = false

-- a bracket is refused first of all if as many are open as may be
abbrev pub by_depth : Sizes → ℕ → Kind → Answer → Answer
by_depth sizes n k a = cond (deepens k && nat_le sizes.depth n) (refuses TooDeep) a

-- a list of quads with one before it, if there is one
abbrev pub kept : Option Quad → List Quad → List Quad
kept None qs = qs
kept (Some q) qs = q ∷ qs

-- the quads that were ready are given out, and the one that was waiting
abbrev pub answer : Sizes → State → Kind → Option Quad → Reply → Answer
answer sizes s k w No = refuses Unexpected
answer sizes s k w (Go u early now c m) =
    by_depth sizes (depth s.mode) k (by_use sizes k u (accepts (s.ready ++ kept w []) (record { setting = c; mode = m; ready = kept early (kept now []) })))

-- the machine's answer to a token, with the limits and with what is ready
abbrev pub accept : DocForm → State → Kind → Leaf → Answer
accept form s k l = answer s.setting.scope.limits s k (waiting s.setting s.mode k l) (step form s.setting s.mode k l)

-- before the first token, in the scope that was handed in
abbrev pub at_start : InForce → State
at_start scope = record { setting = in_default scope; mode = Start; ready = [] }

-- some tokens: the state after them and the quads that were given out, or the first refusal
pub data Run : Type 0 where
  ran : State → List Quad → Run
  refused : Reason → Run

-- the quads of one token come before those of the tokens after it
abbrev pub with_quads : List Quad → Run → Run
with_quads qs (ran s rs) = ran s (qs ++ rs)
with_quads qs (refused r) = refused r

-- a run goes on after an accepted token, and ends with the first refusal
abbrev pub go : Answer → (State → Run) → Run
go (refuses r) more = refused r
go (accepts qs s) more = with_quads qs (more s)

-- the machine's run over some tokens
abbrev pub accept_all : DocForm → State → List Token → Run
accept_all form s [] = ran s []
accept_all form s (t ∷ ts) = go (accept form s t.kind (leaf_of t)) (λ n. accept_all form n ts)

-- A document from left to right: each token with what it stands for, and each quad right after the last token of its head.
use Rattle.std.specs.Prelude.{◌≢◌, ℕ, zero, suc, ◌+◌, Bool, List, [], ◌∷◌, Option, Some, None}
use Rattle.rdf_terms.specs.declared.kind.Kind.{Kind}
use Rattle.rdf_terms.specs.declared.kind.Kind.TheVariants.{IriRef, LabelNode, ShortString, LongString, LangTag, Carets, Dot, Integer, Decimal, Double, True, False, A, AtPrefix, AtBase, Prefix, Base, Graph, PnameNs, PnameLn, Semicolon, Comma, OpenBracket, CloseBracket, OpenParen, CloseParen, OpenBrace, CloseBrace, End}
use Rattle.rdf_terms.specs.Terms.{Node, Quad}
use Rattle.rdf_terms.specs.Terms as term
use Rattle.rdf_terms.specs.Known.{known_chars}
use Rattle.rdf_terms.specs.declared.constants.Known.TheVariants.{RdfFirst}
use Rattle.rdf_tokens.specs.Tokens.{Token}
use Rattle.rdf_tokens.specs.Grammars.{Marked}
use Rattle.rdf_iri.specs.Scope.{InForce}
use Rattle.rdf_tokens.specs.Leaves.{Leaf, token}
use Rattle.rdf_trig.specs.declared.form.DocForm.{DocForm}
use Rattle.rdf_trig.specs.declared.form.DocForm.TheVariants.{Turtle, TriG}
use Rattle.rdf_trig.specs.Trees.{pname_ln, pname_ns, Iri, iri_ref, prefixed, BlankNode, label, anon, Verb, predicate, type_word, String, short, long, Tag, lang_tag, base_tag, prefix_tag, plain, tagged, typed, integer, decimal, double, true_word, false_word, Literal, rdf, numeric, boolean, Object, iri_object, blank_object, collection_object, list_object, literal_object, Collection, collection, Items, no_items, item, BlankNodePropertyList, property_list, PredicateObjectList, predicate_objects, More, no_more, semicolon, semicolon_objects, ObjectList, objects, Commas, no_commas, comma, Subject, iri_subject, blank_subject, collection_subject, Triples, subject_triples, list_triples, Directive, prefix_id, base, sparql_prefix, sparql_base, LabelOrSubject, iri_label, blank_label, TriplesBlock, last, last_dot, dot, WrappedGraph, wrapped, named_graph, label_triples, list_triples2, collection_triples2, Block, triples_or_graph, default_graph, triples2, graph_word, Body, Document, end, with_directive, with_body}
use Rattle.rdf_trig.specs.Names.{prefix_of, reference_in, name_in, scope_after, is_full}
use Rattle.rdf_trig.specs.Quads.{Setting, in_default, in_graph, stated, node, anon_at, verb_of, object_of, cell_of, items_of, collection_of, list_of, subject_of, label_of, rest_quad}

-- what a token stands for beside itself: an IRI, if there is one; or the same of a directive that binds a prefix, which may be one too many
pub data Use : Type 0 where
  itself : Use
  stands : Option (List ℕ) → Use
  binds : Bool → Option (List ℕ) → Use

-- a token is read, with what it stands for in the scope at its place; or a quad's head has ended, so that the quad is given out
pub data Event : Type 0 where
  Took : Token → Use → Event
  Gave : Quad → Event

-- What follows stands in the last argument of each definition below.
-- a token that stands for nothing but itself, and then the rest
abbrev pub take : Kind → Leaf → List Event → List Event
take k l rest = Took (token k l) itself ∷ rest

-- an IRIREF or prefixed name, with the IRI that it stands for, and then the rest
abbrev pub name : Kind → Leaf → Option (List ℕ) → List Event → List Event
name k l i rest = Took (token k l) (stands i) ∷ rest

-- a quad, if its terms all stand for something, and then the rest
abbrev pub give : Option Quad → List Event → List Event
give None rest = rest
give (Some q) rest = Gave q ∷ rest

-- an IRIREF or a prefixed name with its IRI in the scope
abbrev pub iri_events : InForce → Iri → List Event → List Event
iri_events s (iri_ref l) rest = name IriRef l (reference_in s l) rest
iri_events s (prefixed (pname_ln l)) rest = name PnameLn l (name_in s l) rest
iri_events s (prefixed (pname_ns l)) rest = name PnameNs l (name_in s l) rest

-- a verb with its IRI; `a` stands for no name that has to be looked up
abbrev pub verb_events : InForce → Verb → List Event → List Event
verb_events s (predicate i) rest = iri_events s i rest
verb_events s (type_word l) rest = take A l rest

-- a string as it is written; what it means is part of the quad
abbrev pub string_events : String → List Event → List Event
string_events (short l) rest = take ShortString l rest
string_events (long l) rest = take LongString l rest

-- the language tag of a string
abbrev pub tag_events : Tag → List Event → List Event
tag_events (lang_tag l) rest = take LangTag l rest
tag_events (base_tag l) rest = take AtBase l rest
tag_events (prefix_tag l) rest = take AtPrefix l rest

-- An object with its quad. Early is a quad that was waiting for the object's first token.
abbrev pub blank_object_events : BlankNode → Option Quad → Option Quad → List Event → List Event
blank_object_events (label l) early q rest = take LabelNode l (give early (give q rest))
blank_object_events (anon l r) early q rest = take OpenBracket l (give early (give q (take CloseBracket r rest)))

-- a literal; its quad comes after its last token, with tag or type, but an early one after its string
abbrev pub literal_events : InForce → Literal → Option Quad → Option Quad → List Event → List Event
literal_events s (rdf (plain w)) early q rest = string_events w (give early (give q rest))
literal_events s (rdf (tagged w t)) early q rest = string_events w (give early (tag_events t (give q rest)))
literal_events s (rdf (typed w c i)) early q rest = string_events w (give early (take Carets c (iri_events s i (give q rest))))
literal_events s (numeric (integer l)) early q rest = take Integer l (give early (give q rest))
literal_events s (numeric (decimal l)) early q rest = take Decimal l (give early (give q rest))
literal_events s (numeric (double l)) early q rest = take Double l (give early (give q rest))
literal_events s (boolean (true_word l)) early q rest = take True l (give early (give q rest))
literal_events s (boolean (false_word l)) early q rest = take False l (give early (give q rest))

-- the quad of an object
abbrev pub object_quad : Setting → Option term.Subject → Option (List ℕ) → Object → Option Quad
object_quad c s p o = stated c.graph s p (object_of c.scope o)

-- An object gives its own quad before those inside it; its quad's head ends at a bracket, or with its last token.
abbrev mutual
  pub object_events : Setting → Object → Option term.Subject → Option (List ℕ) → Option Quad → List Event → List Event
  object_events c (iri_object i) s p early rest = iri_events c.scope i (give early (give (object_quad c s p (iri_object i)) rest))
  object_events c (blank_object b) s p early rest = blank_object_events b early (object_quad c s p (blank_object b)) rest
  object_events c (collection_object os) s p early rest = collection_events c os early (object_quad c s p (collection_object os)) rest
  object_events c (list_object ps) s p early rest = list_events c ps early (object_quad c s p (list_object ps)) rest
  object_events c (literal_object l) s p early rest = literal_events c.scope l early (object_quad c s p (literal_object l)) rest

  pub collection_events : Setting → Collection → Option Quad → Option Quad → List Event → List Event
  collection_events c (collection l os r) early q rest = take OpenParen l (give early (give q (items_events c os r rest)))

  -- the items, from the first
  pub items_events : Setting → Items → Leaf → List Event → List Event
  items_events c no_items r rest = take CloseParen r rest
  items_events c (item o os) r rest = object_events c o (node (cell_of o)) (Some (known_chars RdfFirst)) None (rest_events c os (cell_of o) r rest)

  -- the items after the one of this cell
  pub rest_events : Setting → Items → Node → Leaf → List Event → List Event
  rest_events c no_items cell r rest = take CloseParen r (give (rest_quad c cell (items_of no_items)) rest)
  rest_events c (item o os) cell r rest =
      object_events c o (node (cell_of o)) (Some (known_chars RdfFirst)) (rest_quad c cell (items_of (item o os))) (rest_events c os (cell_of o) r rest)

  pub list_events : Setting → BlankNodePropertyList → Option Quad → Option Quad → List Event → List Event
  list_events c (property_list l ps r) early q rest =
      take OpenBracket l (give early (give q (predicates_events c ps (node (anon_at l)) (take CloseBracket r rest))))

  pub predicates_events : Setting → PredicateObjectList → Option term.Subject → List Event → List Event
  predicates_events c (predicate_objects v os m) s rest = verb_events c.scope v (objects_events c os s (verb_of c.scope v) (more_events c m s rest))

  pub more_events : Setting → More → Option term.Subject → List Event → List Event
  more_events c no_more s rest = rest
  more_events c (semicolon l m) s rest = take Semicolon l (more_events c m s rest)
  more_events c (semicolon_objects l v os m) s rest =
      take Semicolon l (verb_events c.scope v (objects_events c os s (verb_of c.scope v) (more_events c m s rest)))

  pub objects_events : Setting → ObjectList → Option term.Subject → Option (List ℕ) → List Event → List Event
  objects_events c (objects o os) s p rest = object_events c o s p None (commas_events c os s p rest)

  pub commas_events : Setting → Commas → Option term.Subject → Option (List ℕ) → List Event → List Event
  commas_events c no_commas s p rest = rest
  commas_events c (comma l o os) s p rest = take Comma l (object_events c o s p None (commas_events c os s p rest))

-- a subject: one that is a collection gives the quads of its cells
abbrev pub subject_events : Setting → Subject → List Event → List Event
subject_events c (iri_subject i) rest = iri_events c.scope i rest
subject_events c (blank_subject b) rest = blank_object_events b None None rest
subject_events c (collection_subject os) rest = collection_events c os None None rest

-- a predicate list that may be left out after a property list
abbrev pub maybe_events : Setting → Option term.Subject → Option PredicateObjectList → List Event → List Event
maybe_events c s None rest = rest
maybe_events c s (Some ps) rest = predicates_events c ps s rest

-- a subject and its predicates; where it has brackets, the quads inside them come first
abbrev pub triples_events : Setting → Triples → List Event → List Event
triples_events c (subject_triples s ps) rest = subject_events c s (predicates_events c ps (subject_of c.scope s) rest)
triples_events c (list_triples p ps) rest = list_events c p None None (maybe_events c (Some (list_of p)) ps rest)

-- a directive's IRIREF: what it stands for, and whether its prefix is one too many
abbrev pub binding : InForce → Leaf → Leaf → List Event → List Event
binding s p i rest = Took (token IriRef i) (binds (is_full s (prefix_of p)) (reference_in s i)) ∷ rest

-- a directive, of which the IRIREF alone stands for something
abbrev pub directive_events : InForce → Directive → List Event → List Event
directive_events s (prefix_id w p i d) rest = take AtPrefix w (take PnameNs p (binding s p i (take Dot d rest)))
directive_events s (base w i d) rest = take AtBase w (name IriRef i (reference_in s i) (take Dot d rest))
directive_events s (sparql_prefix w p i) rest = take Prefix w (take PnameNs p (binding s p i rest))
directive_events s (sparql_base w i) rest = take Base w (name IriRef i (reference_in s i) rest)

-- the label of a graph, or the subject in its place, which gives no quad itself
abbrev pub label_events : InForce → LabelOrSubject → List Event → List Event
label_events s (iri_label i) rest = iri_events s i rest
label_events s (blank_label b) rest = blank_object_events b None None rest

-- the triples of a block with the dots between them
abbrev pub block_events : Setting → TriplesBlock → List Event → List Event
block_events c (last t) rest = triples_events c t rest
block_events c (last_dot t d) rest = triples_events c t (take Dot d rest)
block_events c (dot t d b) rest = triples_events c t (take Dot d (block_events c b rest))

-- those of a block that may be empty
abbrev pub maybe_block_events : Setting → Option TriplesBlock → List Event → List Event
maybe_block_events c None rest = rest
maybe_block_events c (Some b) rest = block_events c b rest

-- a block with its braces
abbrev pub wrapped_events : Setting → WrappedGraph → List Event → List Event
wrapped_events c (wrapped l b r) rest = take OpenBrace l (maybe_block_events c b (take CloseBrace r rest))

-- a block of TriG: triples between '{' and '}' after a label are in its graph, and all others in the default graph
abbrev pub trig_events : InForce → Block → List Event → List Event
trig_events s (triples_or_graph (named_graph g w)) rest = label_events s g (wrapped_events (in_graph s (label_of s g)) w rest)
trig_events s (triples_or_graph (label_triples g ps d)) rest = label_events s g (predicates_events (in_default s) ps (label_of s g) (take Dot d rest))
trig_events s (default_graph w) rest = wrapped_events (in_default s) w rest
trig_events s (triples2 (list_triples2 p ps d)) rest =
    list_events (in_default s) p None None (maybe_events (in_default s) (Some (list_of p)) ps (take Dot d rest))
trig_events s (triples2 (collection_triples2 os ps d)) rest =
    collection_events (in_default s) os None None (predicates_events (in_default s) ps (Some (collection_of os)) (take Dot d rest))
trig_events s (graph_word l g w) rest = take Graph l (label_events s g (wrapped_events (in_graph s (label_of s g)) w rest))

-- a statement of Turtle, which is in the default graph, or a block of TriG
abbrev pub body_events : (form : DocForm) → InForce → Body form → List Event → List Event
body_events Turtle s b rest = triples_events (in_default s) b.triples (take Dot b.dot rest)
body_events TriG s b rest = trig_events s b rest

-- all events of a document that is read from this scope on; a directive changes the scope of what comes after it
abbrev pub document_events : {form : DocForm} → InForce → Document form → List Event
document_events s (end l) = take End l []
document_events s (with_directive d rest) = directive_events s d (document_events (scope_after s d) rest)
document_events {form} s (with_body b rest) = body_events form s b (document_events s rest)

-- What events say: the tokens,
abbrev pub tokens : List Event → List Token
tokens [] = []
tokens (Took t u ∷ es) = t ∷ tokens es
tokens (Gave q ∷ es) = tokens es

-- the quads, each with the number of the token that it stands after, where n tokens stand before the events,
abbrev pub event_quads : ℕ → List Event → List Marked
event_quads n [] = []
event_quads n (Took t u ∷ es) = event_quads (n + 1) es
event_quads n (Gave q ∷ es) = record { item = q; mark = n } ∷ event_quads n es

-- and that each name and reference stands for an IRI
abbrev pub HasIri : Use → Type 0
HasIri itself = Unit {0}
HasIri (stands i) = i ≢ None
HasIri (binds full i) = i ≢ None

-- each name and reference among the events stands for an IRI: no prefix is unbound, and no base is missing
abbrev pub Bound : List Event → Type 0
Bound [] = Unit {0}
Bound (Took t u ∷ es) = HasIri u × Bound es
Bound (Gave q ∷ es) = Bound es

-- the same for the first n tokens alone
abbrev pub BoundFront : ℕ → List Event → Type 0
BoundFront n [] = Unit {0}
BoundFront n (Gave q ∷ es) = BoundFront n es
BoundFront zero (Took t u ∷ es) = Unit {0}
BoundFront (suc n) (Took t u ∷ es) = HasIri u × BoundFront n es

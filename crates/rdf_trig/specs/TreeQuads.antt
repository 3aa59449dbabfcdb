-- The quads of a tree with their marks, once more, by recursion over the tree: they are those of its events.
use Rattle.std.specs.Prelude.{ℕ, ◌+◌, List, [], ◌∷◌, ◌++◌, length, Option, Some, None}
use Rattle.rdf_terms.specs.Terms.{Quad}
use Rattle.rdf_terms.specs.Terms as term
use Rattle.rdf_terms.specs.Known.{known_chars}
use Rattle.rdf_terms.specs.declared.constants.Known.TheVariants.{RdfFirst}
use Rattle.rdf_tokens.specs.Grammars.{Marked}
use Rattle.rdf_iri.specs.Scope.{InForce}
use Rattle.rdf_trig.specs.declared.form.DocForm.{DocForm}
use Rattle.rdf_trig.specs.declared.form.DocForm.TheVariants.{Turtle, TriG}
use Rattle.rdf_trig.specs.Trees.{Object, iri_object, blank_object, collection_object, list_object, literal_object, Collection, collection, Items, no_items, item, BlankNodePropertyList, property_list, PredicateObjectList, predicate_objects, More, no_more, semicolon, semicolon_objects, ObjectList, objects, Commas, no_commas, comma, Subject, iri_subject, blank_subject, collection_subject, Triples, subject_triples, list_triples, TriplesBlock, last, last_dot, dot, WrappedGraph, wrapped, named_graph, label_triples, list_triples2, collection_triples2, Block, triples_or_graph, default_graph, triples2, graph_word, Body, Document, end, with_directive, with_body}
use Rattle.rdf_trig.specs.TreeTokens.{literal_tokens, object_tokens, objects_tokens, list_tokens, subject_tokens, label_tokens, triples_tokens, directive_tokens, body_tokens, collection_tokens}
use Rattle.rdf_trig.specs.Names.{scope_after}
use Rattle.rdf_trig.specs.Quads.{Setting, in_default, in_graph, stated, node, anon_at, verb_of, cell_of, items_of, collection_of, list_of, object_of, rest_quad, subject_of, label_of}

-- How many tokens of an object its quad's head has: up to a bracket, or up to the end of a string's tag or type.
abbrev pub head_length : Object → ℕ
head_length (iri_object i) = 1
head_length (blank_object b) = 1
head_length (collection_object c) = 1
head_length (list_object p) = 1
head_length (literal_object l) = length (literal_tokens l)

-- a quad, if there is one, whose head ends with the token of this number
abbrev pub marked_at : ℕ → Option Quad → List Marked
marked_at n None = []
marked_at n (Some q) = record { item = q; mark = n } ∷ []

-- In what follows n tokens stand before the tree.

-- the quad of an object itself
abbrev pub own_quad : Setting → ℕ → Option term.Subject → Option (List ℕ) → Object → List Marked
own_quad c n s p o = marked_at (n + head_length o) (stated c.graph s p (object_of c.scope o))

-- the rdf:first of an item's cell
abbrev pub first_quad : Setting → ℕ → Object → List Marked
first_quad c n o = own_quad c n (node (cell_of o)) (Some (known_chars RdfFirst)) o

-- The quads of each production inside an object, each with the number of the last token of its head.
abbrev mutual
  -- the quads inside an object: those of a collection or property list, and none of others
  pub inner_quads : Setting → ℕ → Object → List Marked
  inner_quads c n (iri_object i) = []
  inner_quads c n (blank_object b) = []
  inner_quads c n (collection_object os) = collection_quads c n os
  inner_quads c n (list_object ps) = list_quads c n ps
  inner_quads c n (literal_object l) = []

  pub collection_quads : Setting → ℕ → Collection → List Marked
  collection_quads c n (collection l os r) = items_quads c (n + 1) os

  -- for each item its rdf:first, then what is inside the item, then its rdf:rest
  pub items_quads : Setting → ℕ → Items → List Marked
  items_quads c n no_items = []
  items_quads c n (item o os) =
      first_quad c n o ++ inner_quads c n o ++ marked_at (n + length (object_tokens o) + 1) (rest_quad c (cell_of o) (items_of os))
      ++ items_quads c (n + length (object_tokens o)) os

  -- a property list: its predicate list, with its node as subject
  pub list_quads : Setting → ℕ → BlankNodePropertyList → List Marked
  list_quads c n (property_list l ps r) = predicates_quads c (n + 1) (node (anon_at l)) ps

  pub predicates_quads : Setting → ℕ → Option term.Subject → PredicateObjectList → List Marked
  predicates_quads c n s (predicate_objects v os m) =
      objects_quads c (n + 1) s (verb_of c.scope v) os ++ more_quads c (n + 1 + length (objects_tokens os)) s m

  pub more_quads : Setting → ℕ → Option term.Subject → More → List Marked
  more_quads c n s no_more = []
  more_quads c n s (semicolon l m) = more_quads c (n + 1) s m
  more_quads c n s (semicolon_objects l v os m) =
      objects_quads c (n + 2) s (verb_of c.scope v) os ++ more_quads c (n + 2 + length (objects_tokens os)) s m

  -- an object gives its own quad, then those inside it
  pub objects_quads : Setting → ℕ → Option term.Subject → Option (List ℕ) → ObjectList → List Marked
  objects_quads c n s p (objects o os) = own_quad c n s p o ++ inner_quads c n o ++ commas_quads c (n + length (object_tokens o)) s p os

  pub commas_quads : Setting → ℕ → Option term.Subject → Option (List ℕ) → Commas → List Marked
  commas_quads c n s p no_commas = []
  commas_quads c n s p (comma l o os) =
      own_quad c (n + 1) s p o ++ inner_quads c (n + 1) o ++ commas_quads c (n + 1 + length (object_tokens o)) s p os

-- a collection that is a subject gives its inner quads first
abbrev pub subject_quads : Setting → ℕ → Subject → List Marked
subject_quads c n (iri_subject i) = []
subject_quads c n (blank_subject b) = []
subject_quads c n (collection_subject os) = collection_quads c n os

-- the quads of a predicate list that may be left out after a property list
abbrev pub maybe_quads : Setting → ℕ → Option term.Subject → Option PredicateObjectList → List Marked
maybe_quads c n s None = []
maybe_quads c n s (Some ps) = predicates_quads c n s ps

-- and so does a property list
abbrev pub triples_quads : Setting → ℕ → Triples → List Marked
triples_quads c n (subject_triples s ps) = subject_quads c n s ++ predicates_quads c (n + length (subject_tokens s)) (subject_of c.scope s) ps
triples_quads c n (list_triples p ps) = list_quads c n p ++ maybe_quads c (n + length (list_tokens p)) (Some (list_of p)) ps

-- the quads of a block's triples, one after the other
abbrev pub block_quads : Setting → ℕ → TriplesBlock → List Marked
block_quads c n (last t) = triples_quads c n t
block_quads c n (last_dot t d) = triples_quads c n t
block_quads c n (dot t d b) = triples_quads c n t ++ block_quads c (n + length (triples_tokens t) + 1) b

-- those of a block that may be empty
abbrev pub maybe_block : Setting → ℕ → Option TriplesBlock → List Marked
maybe_block c n None = []
maybe_block c n (Some b) = block_quads c n b

-- the quads between '{' and '}', one token further on
abbrev pub wrapped_quads : Setting → ℕ → WrappedGraph → List Marked
wrapped_quads c n (wrapped l b r) = maybe_block c (n + 1) b

-- the triples of a block are in the graph of its label; those outside of one, and of one without a label, in the default graph
abbrev pub trig_quads : InForce → ℕ → Block → List Marked
trig_quads s n (triples_or_graph (named_graph g w)) = wrapped_quads (in_graph s (label_of s g)) (n + length (label_tokens g)) w
trig_quads s n (triples_or_graph (label_triples g ps d)) = predicates_quads (in_default s) (n + length (label_tokens g)) (label_of s g) ps
trig_quads s n (default_graph w) = wrapped_quads (in_default s) n w
trig_quads s n (triples2 (list_triples2 p ps d)) =
    list_quads (in_default s) n p ++ maybe_quads (in_default s) (n + length (list_tokens p)) (Some (list_of p)) ps
trig_quads s n (triples2 (collection_triples2 os ps d)) =
    collection_quads (in_default s) n os ++ predicates_quads (in_default s) (n + length (collection_tokens os)) (Some (collection_of os)) ps
trig_quads s n (graph_word l g w) = wrapped_quads (in_graph s (label_of s g)) (n + 1 + length (label_tokens g)) w

-- the quads of a statement of Turtle, which are in the default graph, or of a block of TriG
abbrev pub body_quads : (form : DocForm) → InForce → ℕ → Body form → List Marked
body_quads Turtle s n b = triples_quads (in_default s) n b.triples
body_quads TriG s n b = trig_quads s n b

-- the scope at each place is that after the directives before it
abbrev pub document_quads : {form : DocForm} → InForce → ℕ → Document form → List Marked
document_quads s n (end l) = []
document_quads s n (with_directive d rest) = document_quads (scope_after s d) (n + length (directive_tokens d)) rest
document_quads {form} s n (with_body b rest) = body_quads form s n b ++ document_quads s (n + length (body_tokens form b)) rest

-- What is read is a tree's tokens, with its events.
use Rattle.rdf_trig.proofs.Prelude.{◌≡◌, ℕ, List, [], ◌∷◌, Option, Some, None, refl, sym, ap, ◌∙◌, ◌⊎◌, inl, inr, Kind, IriRef, LabelNode, ShortString, LongString, LangTag, Carets, Dot, Integer, Decimal, Double, True, False, A, AtPrefix, AtBase, Prefix, Base, Graph, PnameNs, PnameLn, Semicolon, Comma, OpenBracket, CloseBracket, OpenParen, CloseParen, OpenBrace, CloseBrace, End, Anon, Cell, Blank, Quad, known_chars, RdfFirst, Token, InForce, Leaf, leaf_of, token, DocForm, TriG, pname_ln, pname_ns, Iri, iri_ref, prefixed, BlankNode, label, anon, predicate, type_word, short, long, Tag, lang_tag, base_tag, prefix_tag, plain, tagged, typed, integer, decimal, double, true_word, false_word, Literal, rdf, numeric, boolean, Object, iri_object, blank_object, collection_object, list_object, literal_object, Collection, collection, Items, no_items, item, BlankNodePropertyList, property_list, PredicateObjectList, predicate_objects, More, no_more, semicolon, semicolon_objects, objects, Commas, no_commas, comma, iri_subject, blank_subject, collection_subject, Triples, subject_triples, list_triples, prefix_id, base, sparql_prefix, sparql_base, LabelOrSubject, iri_label, blank_label, TriplesBlock, last, last_dot, dot, WrappedGraph, wrapped, named_graph, label_triples, list_triples2, collection_triples2, triples_or_graph, default_graph, triples2, Document, end, with_directive, with_body, prefix_of, reference_in, name_in, iri_in, with_base, with_binding, is_full, Setting, in_default, in_graph, named, node, resource, anon_at, labelled, blank_of, value_in, lexical, plain_literal, tagged_literal, typed_literal, literal_of, iri_leaf, string_leaf, literal_leaf, object_leaf, cell_at, items_of, collection_of, list_of, label_of, rest_quad, Use, itself, binds, Event, Took, name, give, iri_events, string_events, tag_events, blank_object_events, literal_events, object_events, collection_events, items_events, rest_events, list_events, predicates_events, more_events, commas_events, maybe_events, triples_events, label_events, maybe_block_events, wrapped_events, document_events, Topic, sized, unsized, spelt, type_verb, Top, InBlock, Listed, InCollection, Around, Statement, InPropertyList, Up, At, Dotted, Sparql, Start, Over, WantPrefix, WantPrefixIri, WantBaseIri, WantDot, AfterLabel, GraphWord, GraphBracket, WantBrace, Inside, Want, After, AfterText, WantType, PropertyListStart, CollectionStart, WantVerb, AfterSemicolon, AfterPropertyList, Reply, No, Go, cell, subject_at, verb_at, quad_at, quad_up, nil, object_start, want_type, verb_start, after_subject, node_closed, property_list_closed, collection_closed, predicate_list_end, after_semicolon, after_text, property_list_start, collection_start, after_property_list, subject_start, start, want_brace, after_label, graph_bracket, want_prefix, want_prefix_iri, want_base_iri, want_dot, waiting, fronted, put, stop, go_on, run}
use Rattle.rdf_terms.specs.Terms as term
use Rattle.rdf_trig.specs.declared.form.DocForm.TheVariants.{Turtle}
use Rattle.rdf_trig.specs.Trees.{String}
use Rattle.rdf_trig.specs.Trees as tree
use Rattle.rdf_trig.specs.Quads.{language}
use Rattle.rdf_trig.specs.Events.{take, tokens}
use Rattle.rdf_trig.specs.Machine.{Level, Place, Subject, Spelling, Mode, after, inside, graph_word, step}
use Rattle.rdf_trig.proofs.trees.TokensOfEvents.{tokens_give}

-- what a bracket was
data Was : Type 0 where
  was_node : Was
  was_list : Was
  was_brackets : Was

-- What is left of the document in a state.
abbrev RestLevel : DocForm → Level → Type 0
RestLevel form Top = Leaf × Document form
RestLevel form InBlock = (Leaf × Option TriplesBlock × Leaf × Document form) ⊎ (Leaf × Document form)

-- what a label outside of blocks is followed by: predicates, or the block of its graph
abbrev RestLabel : DocForm → Type 0
RestLabel form = (PredicateObjectList × RestLevel form Top) ⊎ (WrappedGraph × Document form)

-- what a subject is followed by; outside of blocks in TriG it may have been a label
abbrev RestSubject : DocForm → Level → Type 0
RestSubject form InBlock = PredicateObjectList × RestLevel form InBlock
RestSubject Turtle Top = PredicateObjectList × RestLevel Turtle Top
RestSubject TriG Top = RestLabel TriG

abbrev mutual
  RestPlace : DocForm → Place → Type 0
  RestPlace form (Listed s p a) = Commas × More × RestAround form a
  RestPlace form (InCollection f n u) = Items × Leaf × RestUp form u was_list

  -- after a node, a collection and a property list
  RestUp : DocForm → Up → Was → Type 0
  RestUp form (Subject v) was_node = RestSubject form v
  RestUp form (Subject v) was_list = PredicateObjectList × RestLevel form v
  RestUp form (Subject v) was_brackets = Option PredicateObjectList × RestLevel form v
  RestUp form (At p) was = RestPlace form p

  RestAround : DocForm → Around → Type 0
  RestAround form (Statement v) = RestLevel form v
  RestAround form (InPropertyList u) = Leaf × RestUp form u was_brackets

-- the events of what follows a predicate list of a statement
abbrev level_events : (form : DocForm) → Setting → (v : Level) → RestLevel form v → List Event
level_events form c Top r = take Dot r.0 (document_events c.scope r.1)
level_events form c InBlock (inl r) = take Dot r.0 (maybe_block_events c r.1 (take CloseBrace r.2 (document_events c.scope r.3)))
level_events form c InBlock (inr r) = take CloseBrace r.0 (document_events c.scope r.1)

-- the events of what follows a label
abbrev events_after_label : (form : DocForm) → Setting → Option term.Subject → RestLabel form → List Event
events_after_label form c s (inl r) = predicates_events c r.0 s (level_events form c Top r.1)
events_after_label form c s (inr r) = wrapped_events (in_graph c.scope s) r.0 (document_events c.scope r.1)

-- the events of what follows a subject
abbrev events_after_subject : (form : DocForm) → Setting → (v : Level) → Option term.Subject → RestSubject form v → List Event
events_after_subject form c InBlock s r = predicates_events c r.0 s (level_events form c InBlock r.1)
events_after_subject Turtle c Top s r = predicates_events c r.0 s (level_events Turtle c Top r.1)
events_after_subject TriG c Top s r = events_after_label TriG c s r

abbrev mutual
  place_events : (form : DocForm) → Setting → (p : Place) → RestPlace form p → List Event
  place_events form c (Listed s p a) r = commas_events c r.0 s.term p.iri (more_events c r.1 s.term (around_events form c a s.term r.2))
  place_events form c (InCollection f n u) r = rest_events c r.0 (Cell n) r.1 (up_events form c u was_list (cell f) r.2)

  up_events : (form : DocForm) → Setting → (u : Up) → (was : Was) → Option term.Subject → RestUp form u was → List Event
  up_events form c (Subject v) was_node s r = events_after_subject form c v s r
  up_events form c (Subject v) was_list s r = predicates_events c r.0 s (level_events form c v r.1)
  up_events form c (Subject v) was_brackets s r = maybe_events c s r.0 (level_events form c v r.1)
  up_events form c (At p) was s r = place_events form c p r

  around_events : (form : DocForm) → Setting → (a : Around) → Option term.Subject → RestAround form a → List Event
  around_events form c (Statement v) s r = level_events form c v r
  around_events form c (InPropertyList u) s r = take CloseBracket r.0 (up_events form c u was_brackets s r.1)

-- after a string: nothing of it, a tag or a type
data TextEnd : Type 0 where
  no_end : TextEnd
  tag_end : Tag → TextEnd
  type_end : Leaf → Iri → TextEnd

-- the events of what follows a string: a tag, a type, or none
abbrev end_events : Setting → List ℕ → Place → TextEnd → List Event → List Event
end_events c w p no_end rest = give (quad_at c p (plain_literal w)) rest
end_events c w p (tag_end t) rest = tag_events t (give (quad_at c p (tagged_literal w (language t))) rest)
end_events c w p (type_end l i) rest = take Carets l (iri_events c.scope i (give (quad_at c p (typed_literal w (iri_in c.scope i))) rest))

-- what follows the IRIREF of a directive: its dot, if it has one, and the rest of the document
abbrev RestDirective : DocForm → Spelling → Type 0
RestDirective form Dotted = Leaf × Document form
RestDirective form Sparql = Document form

-- the events of what follows the IRIREF of a directive
abbrev spelled_events : (form : DocForm) → InForce → (w : Spelling) → RestDirective form w → List Event
spelled_events form s Dotted r = take Dot r.0 (document_events s r.1)
spelled_events form s Sparql r = document_events s r

-- the part of a document's tree that is still to come in a mode
abbrev Rest : DocForm → Mode → Type 0
Rest form Start = Document form
Rest form Over = Unit {0}
Rest form (WantPrefix w) = Leaf × Leaf × RestDirective form w
Rest form (WantPrefixIri w p) = Leaf × RestDirective form w
Rest form (WantBaseIri w) = Leaf × RestDirective form w
Rest form WantDot = Leaf × Document form
Rest form (AfterLabel s) = RestLabel form
Rest form GraphWord = LabelOrSubject × WrappedGraph × Document form
Rest form (GraphBracket n) = Leaf × WrappedGraph × Document form
Rest form (WantBrace g) = WrappedGraph × Document form
Rest form Inside = Option TriplesBlock × Leaf × Document form
Rest form (Want p) = Object × RestPlace form p
Rest form (After p) = RestPlace form p
Rest form (AfterText w p) = TextEnd × RestPlace form p
Rest form (WantType w p) = Iri × RestPlace form p
Rest form (PropertyListStart n u) = (Leaf × RestUp form u was_node) ⊎ (PredicateObjectList × RestAround form (InPropertyList u))
Rest form (CollectionStart u) = Items × Leaf × RestUp form u was_list
Rest form (WantVerb s a) = PredicateObjectList × RestAround form a
Rest form (AfterSemicolon s a) = (PredicateObjectList ⊎ More) × RestAround form a
Rest form (AfterPropertyList s v) = Option PredicateObjectList × RestLevel form v

-- the events of a block and of what follows it
abbrev brace_events : (form : DocForm) → Setting → Option term.Subject → WrappedGraph × Document form → List Event
brace_events form c g r = wrapped_events (in_graph c.scope g) r.0 (document_events c.scope r.1)

-- the events of what follows a '['
abbrev brackets_events : (form : DocForm) → Setting → ℕ → (u : Up) →
    (Leaf × RestUp form u was_node) ⊎ (PredicateObjectList × RestAround form (InPropertyList u)) → List Event
brackets_events form c n u (inl r) = take CloseBracket r.0 (up_events form c u was_node (node (Anon n)) r.1)
brackets_events form c n u (inr r) = predicates_events c r.0 (node (Anon n)) (around_events form c (InPropertyList u) (node (Anon n)) r.1)

-- the events of what follows a ';'
abbrev semicolon_events : Setting → Option term.Subject → PredicateObjectList ⊎ More → List Event → List Event
semicolon_events c s (inl ps) rest = predicates_events c ps s rest
semicolon_events c s (inr ms) rest = more_events c ms s rest

-- the events of what follows the prefix of a directive
abbrev binding_events : (form : DocForm) → InForce → List ℕ → (w : Spelling) → Leaf × RestDirective form w → List Event
binding_events form s p w r =
    Took (token IriRef r.0) (binds (is_full s p) (reference_in s r.0)) ∷ spelled_events form (with_binding s p (reference_in s r.0)) w r.1

-- the events of what is still to come in a mode
abbrev all_events : (form : DocForm) → Setting → (m : Mode) → Rest form m → List Event
all_events form c Start r = document_events c.scope r
all_events form c Over r = []
all_events form c (WantPrefix w) r = take PnameNs r.0 (binding_events form c.scope (prefix_of r.0) w (r.1, r.2))
all_events form c (WantPrefixIri w p) r = binding_events form c.scope p w r
all_events form c (WantBaseIri w) r = name IriRef r.0 (reference_in c.scope r.0) (spelled_events form (with_base c.scope (reference_in c.scope r.0)) w r.1)
all_events form c WantDot r = take Dot r.0 (document_events c.scope r.1)
all_events form c (AfterLabel s) r = events_after_label form c s.term r
all_events form c GraphWord r = label_events c.scope r.0 (brace_events form c (label_of c.scope r.0) (r.1, r.2))
all_events form c (GraphBracket n) r = take CloseBracket r.0 (brace_events form c (node (Anon n)) (r.1, r.2))
all_events form c (WantBrace g) r = brace_events form c g r
all_events form c Inside r = maybe_block_events c r.0 (take CloseBrace r.1 (document_events c.scope r.2))
all_events form c (Want p) r = object_events c r.0 (subject_at p) (verb_at p) None (place_events form c p r.1)
all_events form c (After p) r = place_events form c p r
all_events form c (AfterText w p) r = end_events c w p r.0 (place_events form c p r.1)
all_events form c (WantType w p) r = iri_events c.scope r.0 (give (quad_at c p (typed_literal w (iri_in c.scope r.0))) (place_events form c p r.1))
all_events form c (PropertyListStart n u) r = brackets_events form c n u r
all_events form c (CollectionStart u) r = give (quad_up c u (items_of r.0)) (items_events c r.0 r.1 (up_events form c u was_list (Some (items_of r.0)) r.2))
all_events form c (WantVerb s a) r = predicates_events c r.0 s.term (around_events form c a s.term r.1)
all_events form c (AfterSemicolon s a) r = semicolon_events c s.term r.0 (around_events form c a s.term r.1)
all_events form c (AfterPropertyList s v) r = maybe_events c s.term r.0 (level_events form c v r.1)

-- some rest of a tree has these events, so that the tokens to come are those of a tree
abbrev Found : DocForm → Setting → Mode → List Event → Type 0
Found form c m es = (r : Rest form m) × (es ≡ all_events form c m r)

-- the events of an accepted token, taken apart: what was waiting, the token, its quads, and those after it
pub unput : (w : Option Quad) (t : Token) (u : Use) (early now : Option Quad) (o : Option (List Event)) (es : List Event) →
    fronted w (put t u early now o) ≡ Some es →
    (fs : List Event) × (o ≡ Some fs) × (es ≡ give w (Took t u ∷ give early (give now fs)))
unput w t u early now None es e = absurd (let z : None ≡ Some es = e in cc)
unput w t u early now (Some fs) es e = (fs, refl, cc)

-- what the parts of a statement at the top are in each form
iri_body : (form : DocForm) (i : Iri) (s : InForce) (es : List Event) (r : RestSubject form Top) →
    es ≡ iri_events s i (events_after_subject form (in_default s) Top (named (iri_in s i)) r) →
    (d : Document form) × (es ≡ document_events s d)
iri_body Turtle i s es (ps, (d, rest)) e = (with_body record { triples = subject_triples (iri_subject i) ps; dot = d } rest, e)
iri_body TriG i s es (inl (ps, (d, rest))) e = (with_body (triples_or_graph (label_triples (iri_label i) ps d)) rest, e)
iri_body TriG i s es (inr (w, rest)) e = (with_body (triples_or_graph (named_graph (iri_label i) w)) rest, e)

-- a blank node and what follows it are a body of the document
blank_body : (form : DocForm) (b : BlankNode) (s : InForce) (es : List Event) (r : RestSubject form Top) →
    es ≡ blank_object_events b None None (events_after_subject form (in_default s) Top (node (blank_of b)) r) → (d : Document form) × (es ≡ document_events s d)
blank_body Turtle b s es (ps, (d, rest)) e = (with_body record { triples = subject_triples (blank_subject b) ps; dot = d } rest, e)
blank_body TriG b s es (inl (ps, (d, rest))) e = (with_body (triples_or_graph (label_triples (blank_label b) ps d)) rest, e)
blank_body TriG b s es (inr (w, rest)) e = (with_body (triples_or_graph (named_graph (blank_label b) w)) rest, e)

-- a property list and what follows it are a body of the document
list_body : (form : DocForm) (p : BlankNodePropertyList) (s : InForce) (es : List Event) (ps : Option PredicateObjectList) (r : Leaf × Document form) →
    es ≡ list_events (in_default s) p None None (maybe_events (in_default s) (Some (list_of p)) ps (level_events form (in_default s) Top r)) →
    (d : Document form) × (es ≡ document_events s d)
list_body Turtle p s es ps (d, rest) e = (with_body record { triples = list_triples p ps; dot = d } rest, e)
list_body TriG p s es ps (d, rest) e = (with_body (triples2 (list_triples2 p ps d)) rest, e)

-- a collection and what follows it are a body of the document
collection_body : (form : DocForm) (x : Collection) (s : InForce) (es : List Event) (ps : PredicateObjectList) (r : Leaf × Document form) →
    es ≡ collection_events (in_default s) x None None (predicates_events (in_default s) ps (Some (collection_of x)) (level_events form (in_default s) Top r)) →
    (d : Document form) × (es ≡ document_events s d)
collection_body Turtle x s es ps (d, rest) e = (with_body record { triples = subject_triples (collection_subject x) ps; dot = d } rest, e)
collection_body TriG x s es ps (d, rest) e = (with_body (triples2 (collection_triples2 x ps d)) rest, e)

-- what is to come after a subject, read as a rest of its production
as_subject : (form : DocForm) (v : Level) (s : Topic) (c : Setting) (r : Rest form (after_subject form v s)) →
    (x : RestSubject form v) × (all_events form c (after_subject form v s) r ≡ events_after_subject form c v s.term x)
as_subject form InBlock s c r = (r, refl)
as_subject Turtle Top s c r = (r, refl)
as_subject TriG Top s c r = (r, refl)

-- what is to come after a property list, read as a rest of its production
as_brackets : (form : DocForm) (u : Up) (s : Topic) (c : Setting) (r : Rest form (property_list_closed u s)) →
    (x : RestUp form u was_brackets) × (all_events form c (property_list_closed u s) r ≡ up_events form c u was_brackets s.term x)
as_brackets form (Subject v) s c r = (r, refl)
as_brackets form (At p) s c r = (r, refl)

-- what is to come after `[]`, read as a rest of its production
as_node : (form : DocForm) (u : Up) (s : Topic) (c : Setting) (r : Rest form (node_closed form u s)) →
    (x : RestUp form u was_node) × (all_events form c (node_closed form u s) r ≡ up_events form c u was_node s.term x)
as_node form (Subject v) s c r = as_subject form v s c r
as_node form (At p) s c r = (r, refl)

-- what is to come after a collection, read as a rest of its production
as_list : (form : DocForm) (u : Up) (s : Topic) (c : Setting) (r : Rest form (collection_closed u s)) →
    (x : RestUp form u was_list) × (all_events form c (collection_closed u s) r ≡ up_events form c u was_list s.term x)
as_list form (Subject v) s c r = (r, refl)
as_list form (At p) s c r = (r, refl)

-- what stands after ';'
more_of : Leaf → PredicateObjectList ⊎ More → More
more_of l (inl (predicate_objects v os m)) = semicolon_objects l v os m
more_of l (inr m) = semicolon l m

-- a ';' and what follows it are a rest of a predicate list
more_of-events : (c : Setting) (s : Option term.Subject) (l : Leaf) (x : PredicateObjectList ⊎ More) (rest : List Event) →
    take Semicolon l (semicolon_events c s x rest) ≡ more_events c (more_of l x) s rest
unfolding more_of
more_of-events c s l (inl (predicate_objects v os m)) rest = refl
more_of-events c s l (inr m) rest = refl

module _ (form : DocForm) (next : Setting → Mode → Option (List Event))
    (ih : (c : Setting) (m : Mode) (es : List Event) → next c m ≡ Some es → Found form c m es) where
  -- one step, from what is found after it
  after_it : (k : Kind) (l : Leaf) (w : Option Quad) (u : Use) (early now : Option Quad) (c : Setting) (m : Mode) (es : List Event) →
      fronted w (put (token k l) u early now (next c m)) ≡ Some es →
      (r : Rest form m) × (es ≡ give w (Took (token k l) u ∷ give early (give now (all_events form c m r))))
  after_it k l w u early now c m es e =
      let x = unput w (token k l) u early now (next c m) es e in
      let f = ih c m x.0 x.1 in
      (f.0, x.2 ∙ ap (λ fs. give w (Took (token k l) u ∷ give early (give now fs))) f.1)

  list_end_found : (c : Setting) (s : Topic) (a : Around) (k : Kind) (l : Leaf) (w : Option Quad) (es : List Event) →
      fronted w (go_on (token k l) (predicate_list_end c s a k l) next) ≡ Some es →
      (r : RestAround form a) × (es ≡ give w (around_events form c a s.term r))
  list_end_found c s (Statement Top) Dot l w es e = let b = after_it Dot l w itself None None c Start es e in ((l, b.0), b.1)
  list_end_found c s (Statement Top) k l w es e = absurd (let z : None ≡ Some es = e in cc)
  list_end_found c s (Statement InBlock) Dot l w es e = let b = after_it Dot l w itself None None c Inside es e in (inl (l, b.0.0, b.0.1, b.0.2), b.1)
  list_end_found c s (Statement InBlock) CloseBrace l w es e = let b =
      after_it CloseBrace l w itself None None (in_default c.scope) Start es e in (inr (l, b.0), b.1)
  list_end_found c s (Statement InBlock) k l w es e = absurd (let z : None ≡ Some es = e in cc)
  list_end_found c s (InPropertyList u) CloseBracket l w es e =
      let b = after_it CloseBracket l w itself None None c (property_list_closed u s) es e in
      let x = as_brackets form u s c b.0 in
      ((l, x.0), b.1 ∙ ap (λ fs. give w (take CloseBracket l fs)) x.1)
  list_end_found c s (InPropertyList u) k l w es e = absurd (let z : None ≡ Some es = e in cc)

  record ObjectFound (c : Setting) (p : Place) (early w : Option Quad) (l : Leaf) (es : List Event) : Type 0 where
    obj : Object
    rest : RestPlace form p
    first : object_leaf obj ≡ l
    events : es ≡ give w (object_events c obj (subject_at p) (verb_at p) early (place_events form c p rest))

  iri_found : (i : Iri) (c : Setting) (p : Place) (early w : Option Quad) (es : List Event) (r : RestPlace form p) →
      es ≡ give w (iri_events c.scope i (give early (give (quad_at c p (resource (named (iri_in c.scope i)))) (place_events form c p r)))) →
      ObjectFound c p early w (iri_leaf i) es
  iri_found i c p early w es r e = record { obj = iri_object i; rest = r; first = refl; events = e }

  text_found : (x : String) (c : Setting) (p : Place) (early w : Option Quad) (es : List Event) (t : TextEnd) (r : RestPlace form p) →
      es ≡ give w (string_events x (give early (end_events c (lexical x) p t (place_events form c p r)))) → ObjectFound c p early w (string_leaf x) es
  text_found x c p early w es no_end r e = record { obj = literal_object (rdf (plain x)); rest = r; first = refl; events = e }
  text_found x c p early w es (tag_end t) r e = record { obj = literal_object (rdf (tagged x t)); rest = r; first = refl; events = e }
  text_found x c p early w es (type_end l i) r e = record { obj = literal_object (rdf (typed x l i)); rest = r; first = refl; events = e }

  literal_found : (x : Literal) (c : Setting) (p : Place) (early w : Option Quad) (es : List Event) (r : RestPlace form p) →
      es ≡ give w (literal_events c.scope x early (quad_at c p (literal_of c.scope x)) (place_events form c p r)) → ObjectFound c p early w (literal_leaf x) es
  literal_found x c p early w es r e = record { obj = literal_object x; rest = r; first = refl; events = e }

  brackets_found : (c : Setting) (p : Place) (early w : Option Quad) (l : Leaf) (es : List Event) (r : Rest form (PropertyListStart l.at.offset (At p))) →
      es ≡ give w (take OpenBracket l (give early (give (quad_at c p (resource (node (anon_at l)))) (brackets_events form c l.at.offset (At p) r)))) →
      ObjectFound c p early w l es
  brackets_found c p early w l es (inl r) e = record { obj = blank_object (anon l r.0); rest = r.1; first = refl; events = e }
  brackets_found c p early w l es (inr r) e = record { obj = list_object (property_list l r.0 r.1.0); rest = r.1.1; first = refl; events = e }

  object_found : (c : Setting) (p : Place) (early w : Option Quad) (k : Kind) (l : Leaf) (es : List Event) →
      fronted w (go_on (token k l) (object_start c p early k l) next) ≡ Some es → ObjectFound c p early w l es
  object_found c p early w IriRef l es e = let b = after_it IriRef l w _ early _ c (After p) es e in iri_found (iri_ref l) c p early w es b.0 b.1
  object_found c p early w PnameLn l es e = let b = after_it PnameLn l w _ early _ c (After p) es e in iri_found (prefixed (pname_ln l)) c p early w es b.0 b.1
  object_found c p early w PnameNs l es e = let b = after_it PnameNs l w _ early _ c (After p) es e in iri_found (prefixed (pname_ns l)) c p early w es b.0 b.1
  object_found c p early w LabelNode l es e = let b = after_it LabelNode l w _ early _ c (After p) es e in
      record { obj = blank_object (label l); rest = b.0; first = refl; events = b.1 }
  object_found c p early w ShortString l es e = let b = after_it ShortString l w itself early None c (AfterText (value_in 1 l) p) es e in
      text_found (short l) c p early w es b.0.0 b.0.1 b.1
  object_found c p early w LongString l es e = let b = after_it LongString l w itself early None c (AfterText (value_in 3 l) p) es e in
      text_found (long l) c p early w es b.0.0 b.0.1 b.1
  object_found c p early w Integer l es e = let b = after_it Integer l w _ early _ c (After p) es e in
      literal_found (numeric (integer l)) c p early w es b.0 b.1
  object_found c p early w Decimal l es e = let b = after_it Decimal l w _ early _ c (After p) es e in
      literal_found (numeric (decimal l)) c p early w es b.0 b.1
  object_found c p early w Double l es e = let b = after_it Double l w _ early _ c (After p) es e in literal_found (numeric (double l)) c p early w es b.0 b.1
  object_found c p early w True l es e = let b = after_it True l w _ early _ c (After p) es e in literal_found (boolean (true_word l)) c p early w es b.0 b.1
  object_found c p early w False l es e = let b = after_it False l w _ early _ c (After p) es e in literal_found (boolean (false_word l)) c p early w es b.0 b.1
  object_found c p early w OpenBracket l es e = let b = after_it OpenBracket l w _ early _ c (PropertyListStart l.at.offset (At p)) es e in
      brackets_found c p early w l es b.0 b.1
  object_found c p early w OpenParen l es e =
      let b = after_it OpenParen l w _ early None c (CollectionStart (At p)) es e in
      record { obj = collection_object (collection l b.0.0 b.0.1); rest = b.0.2; first = refl; events = b.1 }
  object_found c p early w k l es e = absurd (let z : None ≡ Some es = e in cc)

  after_found : (c : Setting) (p : Place) (w : Option Quad) (k : Kind) (l : Leaf) (es : List Event) →
      fronted w (go_on (token k l) (after c p k l) next) ≡ Some es →
      (r : RestPlace form p) × (es ≡ give w (place_events form c p r))
  after_found c (Listed s v a) w Comma l es e =
      let b = after_it Comma l w itself None None c (Want (Listed s v a)) es e in ((comma l b.0.0 b.0.1.0, b.0.1.1, b.0.1.2), b.1)
  after_found c (Listed s v a) w Semicolon l es e =
      let b = after_it Semicolon l w itself None None c (AfterSemicolon s a) es e in
      ((no_commas, more_of l b.0.0, b.0.1), b.1 ∙ ap (give w) (more_of-events c s.term l b.0.0 (around_events form c a s.term b.0.1)))
  after_found c (Listed s v a) w k l es e = let x = list_end_found c s a k l w es e in ((no_commas, no_more, x.0), x.1)
  after_found c (InCollection f n u) w CloseParen l es e =
      let b = after_it CloseParen l w itself None (rest_quad c (Cell n) nil) c (collection_closed u (unsized (cell f))) es e in
      let x = as_list form u (unsized (cell f)) c b.0 in
      ((no_items, l, x.0), b.1 ∙ ap (λ fs. give w (take CloseParen l (give (rest_quad c (Cell n) nil) fs))) x.1)
  after_found c (InCollection f n u) w k l es e =
      let x = object_found c (InCollection f l.at.offset u) (rest_quad c (Cell n) (Blank (cell_at l))) w k l es e in (
        (item x.obj x.rest.0, x.rest.1, x.rest.2),
        x.events ∙ ap (λ y. give w (object_events c x.obj (node (cell_at y)) (Some (known_chars RdfFirst))
            (rest_quad c (Cell n) (Blank (cell_at y)))
            (rest_events c x.rest.0 (cell_at y) x.rest.1 (up_events form c u was_list (cell f) x.rest.2)))) (sym x.first),
      )

  -- a predicate list from its verb
  abbrev PredicatesFound : Setting → Topic → Around → List Event → Type 0
  PredicatesFound c s a es = (r : PredicateObjectList × RestAround form a) × (es ≡ predicates_events c r.0 s.term (around_events form c a s.term r.1))

  predicate_found : (i : Iri) (c : Setting) (s : Topic) (a : Around) (es : List Event) (r : Rest form (Want (Listed s (spelt (iri_in c.scope i)) a))) →
      es ≡ iri_events c.scope i (all_events form c (Want (Listed s (spelt (iri_in c.scope i)) a)) r) → PredicatesFound c s a es
  predicate_found i c s a es r e = ((predicate_objects (predicate i) (objects r.0 r.1.0) r.1.1, r.1.2), e)

  verb_found : (c : Setting) (s : Topic) (a : Around) (k : Kind) (l : Leaf) (es : List Event) →
      fronted None (go_on (token k l) (verb_start c s a k l) next) ≡ Some es → PredicatesFound c s a es
  verb_found c s a IriRef l es e = let b = after_it IriRef l None _ None None c (Want (Listed s (spelt (reference_in c.scope l)) a)) es e in
      predicate_found (iri_ref l) c s a es b.0 b.1
  verb_found c s a PnameLn l es e = let b = after_it PnameLn l None _ None None c (Want (Listed s (spelt (name_in c.scope l)) a)) es e in
      predicate_found (prefixed (pname_ln l)) c s a es b.0 b.1
  verb_found c s a PnameNs l es e = let b = after_it PnameNs l None _ None None c (Want (Listed s (spelt (name_in c.scope l)) a)) es e in
      predicate_found (prefixed (pname_ns l)) c s a es b.0 b.1
  verb_found c s a A l es e =
      let b = after_it A l None itself None None c (Want (Listed s type_verb a)) es e in
      ((predicate_objects (type_word l) (objects b.0.0 b.0.1.0) b.0.1.1, b.0.1.2), b.1)
  verb_found c s a k l es e = absurd (let z : None ≡ Some es = e in cc)

  semicolon_found : (c : Setting) (s : Topic) (a : Around) (k : Kind) (l : Leaf) (es : List Event) →
      fronted None (go_on (token k l) (after_semicolon c s a k l) next) ≡ Some es → Found form c (AfterSemicolon s a) es
  semicolon_found c s a Semicolon l es e =
      let b = after_it Semicolon l None itself None None c (AfterSemicolon s a) es e in
      ((inr (more_of l b.0.0), b.0.1), b.1 ∙ more_of-events c s.term l b.0.0 (around_events form c a s.term b.0.1))
  semicolon_found c s a IriRef l es e = let x = verb_found c s a IriRef l es e in ((inl x.0.0, x.0.1), x.1)
  semicolon_found c s a PnameLn l es e = let x = verb_found c s a PnameLn l es e in ((inl x.0.0, x.0.1), x.1)
  semicolon_found c s a PnameNs l es e = let x = verb_found c s a PnameNs l es e in ((inl x.0.0, x.0.1), x.1)
  semicolon_found c s a A l es e = let x = verb_found c s a A l es e in ((inl x.0.0, x.0.1), x.1)
  semicolon_found c s a k l es e = let x = list_end_found c s a k l None es e in ((inr no_more, x.0), x.1)

  brackets_mode_found : (c : Setting) (n : ℕ) (u : Up) (k : Kind) (l : Leaf) (es : List Event) →
      fronted None (go_on (token k l) (property_list_start form c n u k l) next) ≡ Some es → Found form c (PropertyListStart n u) es
  brackets_mode_found c n u CloseBracket l es e =
      let b = after_it CloseBracket l None itself None None c (node_closed form u (sized (node (Anon n)))) es e in
      let x = as_node form u (sized (node (Anon n))) c b.0 in
      (inl (l, x.0), b.1 ∙ ap (take CloseBracket l) x.1)
  brackets_mode_found c n u k l es e = let x = verb_found c (sized (node (Anon n))) (InPropertyList u) k l es e in (inr x.0, x.1)

  collection_start_found : (c : Setting) (u : Up) (k : Kind) (l : Leaf) (es : List Event) →
      fronted (waiting c (CollectionStart u) k l) (go_on (token k l) (collection_start c u k l) next) ≡ Some es → Found form c (CollectionStart u) es
  collection_start_found c u CloseParen l es e =
      let b = after_it CloseParen l (quad_up c u nil) itself None None c (collection_closed u (unsized (Some nil))) es e in
      let x = as_list form u (unsized (Some nil)) c b.0 in
      ((no_items, l, x.0), b.1 ∙ ap (λ fs. give (quad_up c u nil) (take CloseParen l fs)) x.1)
  collection_start_found c u k l es e =
      let x = object_found c (InCollection l.at.offset l.at.offset u) None (quad_up c u (Blank (cell_at l))) k l es e in (
        (item x.obj x.rest.0, x.rest.1, x.rest.2),
        x.events ∙ ap (λ y. give (quad_up c u (Blank (cell_at y))) (object_events c x.obj (node (cell_at y)) (Some (known_chars RdfFirst))
            None (rest_events c x.rest.0 (cell_at y) x.rest.1 (up_events form c u was_list (node (cell_at y)) x.rest.2)))) (sym x.first),
      )

  after_text_found : (c : Setting) (w : List ℕ) (p : Place) (k : Kind) (l : Leaf) (es : List Event) →
      fronted (waiting c (AfterText w p) k l) (go_on (token k l) (after_text c w p k l) next) ≡ Some es →
      Found form c (AfterText w p) es
  after_text_found c w p LangTag l es e = let b = after_it LangTag l None itself None _ c (After p) es e in ((tag_end (lang_tag l), b.0), b.1)
  after_text_found c w p AtBase l es e = let b = after_it AtBase l None itself None _ c (After p) es e in ((tag_end (base_tag l), b.0), b.1)
  after_text_found c w p AtPrefix l es e = let b = after_it AtPrefix l None itself None _ c (After p) es e in ((tag_end (prefix_tag l), b.0), b.1)
  after_text_found c w p Carets l es e = let b = after_it Carets l None itself None None c (WantType w p) es e in ((type_end l b.0.0, b.0.1), b.1)
  after_text_found c w p k l es e = let x = after_found c p (quad_at c p (plain_literal w)) k l es e in ((no_end, x.0), x.1)

  want_type_found : (c : Setting) (w : List ℕ) (p : Place) (k : Kind) (l : Leaf) (es : List Event) →
      fronted None (go_on (token k l) (want_type c w p k l) next) ≡ Some es → Found form c (WantType w p) es
  want_type_found c w p IriRef l es e = let b = after_it IriRef l None _ None _ c (After p) es e in ((iri_ref l, b.0), b.1)
  want_type_found c w p PnameLn l es e = let b = after_it PnameLn l None _ None _ c (After p) es e in ((prefixed (pname_ln l), b.0), b.1)
  want_type_found c w p PnameNs l es e = let b = after_it PnameNs l None _ None _ c (After p) es e in ((prefixed (pname_ns l), b.0), b.1)
  want_type_found c w p k l es e = absurd (let z : None ≡ Some es = e in cc)

  after_brackets_found : (c : Setting) (s : Topic) (v : Level) (k : Kind) (l : Leaf) (es : List Event) →
      fronted None (go_on (token k l) (after_property_list c s v k l) next) ≡ Some es → Found form c (AfterPropertyList s v) es
  after_brackets_found c s v IriRef l es e = let x = verb_found c s (Statement v) IriRef l es e in ((Some x.0.0, x.0.1), x.1)
  after_brackets_found c s v PnameLn l es e = let x = verb_found c s (Statement v) PnameLn l es e in ((Some x.0.0, x.0.1), x.1)
  after_brackets_found c s v PnameNs l es e = let x = verb_found c s (Statement v) PnameNs l es e in ((Some x.0.0, x.0.1), x.1)
  after_brackets_found c s v A l es e = let x = verb_found c s (Statement v) A l es e in ((Some x.0.0, x.0.1), x.1)
  after_brackets_found c s v k l es e = let x = list_end_found c s (Statement v) k l None es e in ((None, x.0), x.1)

  -- triples in a block
  abbrev TriplesFound : Setting → List Event → Type 0
  TriplesFound c es = (t : Triples) × (r : RestLevel form InBlock) × (es ≡ triples_events c t (level_events form c InBlock r))

  block_brackets : (c : Setting) (l : Leaf) (es : List Event) (r : Rest form (PropertyListStart l.at.offset (Subject InBlock))) →
      es ≡ take OpenBracket l (brackets_events form c l.at.offset (Subject InBlock) r) → TriplesFound c es
  block_brackets c l es (inl (d, (ps, r))) e = (subject_triples (blank_subject (anon l d)) ps, r, e)
  block_brackets c l es (inr (ps, (d, (qs, r)))) e = (list_triples (property_list l ps d) qs, r, e)

  block_iri : (i : Iri) (c : Setting) (es : List Event) (r : Rest form (WantVerb (sized (named (iri_in c.scope i))) (Statement InBlock))) →
      es ≡ iri_events c.scope i (all_events form c (WantVerb (sized (named (iri_in c.scope i))) (Statement InBlock)) r) → TriplesFound c es
  block_iri i c es r e = (subject_triples (iri_subject i) r.0, r.1, e)

  block_triples : (c : Setting) (k : Kind) (l : Leaf) (es : List Event) → fronted None (go_on (token k l) (subject_start form c InBlock k l) next) ≡ Some es →
      TriplesFound c es
  block_triples c IriRef l es e = let b = after_it IriRef l None _ None None c
      (WantVerb (sized (named (reference_in c.scope l))) (Statement InBlock)) es e in block_iri (iri_ref l) c es b.0 b.1
  block_triples c PnameLn l es e = let b = after_it PnameLn l None _ None None c
      (WantVerb (sized (named (name_in c.scope l))) (Statement InBlock)) es e in block_iri (prefixed (pname_ln l)) c es b.0 b.1
  block_triples c PnameNs l es e = let b = after_it PnameNs l None _ None None c
      (WantVerb (sized (named (name_in c.scope l))) (Statement InBlock)) es e in block_iri (prefixed (pname_ns l)) c es b.0 b.1
  block_triples c LabelNode l es e =
      let b = after_it LabelNode l None itself None None c (WantVerb (sized (node (labelled l))) (Statement InBlock)) es e in
      (subject_triples (blank_subject (label l)) b.0.0, b.0.1, b.1)
  block_triples c OpenBracket l es e = let b =
      after_it OpenBracket l None itself None None c (PropertyListStart l.at.offset (Subject InBlock)) es e in block_brackets c l es b.0 b.1
  block_triples c OpenParen l es e =
      let b = after_it OpenParen l None itself None None c (CollectionStart (Subject InBlock)) es e in
      (subject_triples (collection_subject (collection l b.0.0 b.0.1)) b.0.2.0, b.0.2.1, b.1)
  block_triples c k l es e = absurd (let z : None ≡ Some es = e in cc)

  block_of : (c : Setting) (es : List Event) (t : Triples) (r : RestLevel form InBlock) → es ≡ triples_events c t (level_events form c InBlock r) →
      Found form c Inside es
  block_of c es t (inl (d, None, r, rest)) e = ((Some (last_dot t d), r, rest), e)
  block_of c es t (inl (d, Some b, r, rest)) e = ((Some (dot t d b), r, rest), e)
  block_of c es t (inr (r, rest)) e = ((Some (last t), r, rest), e)

  inside_found : (c : Setting) (k : Kind) (l : Leaf) (es : List Event) → fronted None (go_on (token k l) (inside form c k l) next) ≡ Some es →
      Found form c Inside es
  inside_found c CloseBrace l es e = let b = after_it CloseBrace l None itself None None (in_default c.scope) Start es e in ((None, l, b.0), b.1)
  inside_found c k l es e = let x = block_triples c k l es e in block_of c es x.0 x.1 x.2

  -- statements at the top
  start_iri : (i : Iri) (c : Setting) (es : List Event) (r : Rest form (after_subject form Top (sized (named (iri_in c.scope i))))) →
      es ≡ iri_events c.scope i (all_events form (in_default c.scope) (after_subject form Top (sized (named (iri_in c.scope i)))) r) → Found form c Start es
  start_iri i c es r e = let x = as_subject form Top (sized (named (iri_in c.scope i))) (in_default c.scope) r in
      iri_body form i c.scope es x.0 (e ∙ ap (iri_events c.scope i) x.1)

  start_brackets : (c : Setting) (l : Leaf) (es : List Event) (r : Rest form (PropertyListStart l.at.offset (Subject Top))) →
      es ≡ take OpenBracket l (brackets_events form (in_default c.scope) l.at.offset (Subject Top) r) →
      Found form c Start es
  start_brackets c l es (inl (d, r)) e = blank_body form (anon l d) c.scope es r e
  start_brackets c l es (inr (ps, (d, (qs, r)))) e = list_body form (property_list l ps d) c.scope es qs r e

  subject_found : (c : Setting) (k : Kind) (l : Leaf) (es : List Event) →
      fronted None (go_on (token k l) (subject_start form (in_default c.scope) Top k l) next) ≡ Some es → Found form c Start es
  subject_found c IriRef l es e = let b = after_it IriRef l None _ None None (in_default c.scope)
      (after_subject form Top (sized (named (reference_in c.scope l)))) es e in start_iri (iri_ref l) c es b.0 b.1
  subject_found c PnameLn l es e = let b = after_it PnameLn l None _ None None (in_default c.scope)
      (after_subject form Top (sized (named (name_in c.scope l)))) es e in start_iri (prefixed (pname_ln l)) c es b.0 b.1
  subject_found c PnameNs l es e = let b = after_it PnameNs l None _ None None (in_default c.scope)
      (after_subject form Top (sized (named (name_in c.scope l)))) es e in start_iri (prefixed (pname_ns l)) c es b.0 b.1
  subject_found c LabelNode l es e =
      let b = after_it LabelNode l None itself None None (in_default c.scope) (after_subject form Top (sized (node (labelled l)))) es e in
      let x = as_subject form Top (sized (node (labelled l))) (in_default c.scope) b.0 in
      blank_body form (label l) c.scope es x.0 (b.1 ∙ ap (take LabelNode l) x.1)
  subject_found c OpenBracket l es e = let b = after_it OpenBracket l None itself None None (in_default c.scope)
      (PropertyListStart l.at.offset (Subject Top)) es e in start_brackets c l es b.0 b.1
  subject_found c OpenParen l es e =
      let b = after_it OpenParen l None itself None None (in_default c.scope) (CollectionStart (Subject Top)) es e in
      collection_body form (collection l b.0.0 b.0.1) c.scope es b.0.2.0 b.0.2.1 b.1
  subject_found c k l es e = absurd (let z : None ≡ Some es = e in cc)

  prefix_found : (c : Setting) (k : Kind) (w : Spelling) (l : Leaf) (es : List Event) →
      fronted None (put (token k l) itself None None (next c (WantPrefix w))) ≡ Some es →
      (r : Rest form (WantPrefix w)) × (es ≡ take k l (all_events form c (WantPrefix w) r))
  prefix_found c k w l es e = after_it k l None itself None None c (WantPrefix w) es e

  base_found : (c : Setting) (k : Kind) (w : Spelling) (l : Leaf) (es : List Event) →
      fronted None (put (token k l) itself None None (next c (WantBaseIri w))) ≡ Some es →
      (r : Rest form (WantBaseIri w)) × (es ≡ take k l (all_events form c (WantBaseIri w) r))
  base_found c k w l es e = after_it k l None itself None None c (WantBaseIri w) es e

  after_label_found : (c : Setting) (g : Topic) (k : Kind) (l : Leaf) (es : List Event) →
      fronted None (go_on (token k l) (after_label c g k l) next) ≡ Some es → Found form c (AfterLabel g) es
  after_label_found c g OpenBrace l es e = let b = after_it OpenBrace l None itself None None (in_graph c.scope g.term) Inside es e in
      (inr (wrapped l b.0.0 b.0.1, b.0.2), b.1)
  after_label_found c g k l es e = let x = verb_found c g (Statement Top) k l es e in (inl (x.0.0, x.0.1), x.1)

  want_brace_found : (c : Setting) (g : Option term.Subject) (k : Kind) (l : Leaf) (es : List Event) →
      fronted None (go_on (token k l) (want_brace c g k l) next) ≡ Some es → Found form c (WantBrace g) es
  want_brace_found c g OpenBrace l es e = let b = after_it OpenBrace l None itself None None (in_graph c.scope g) Inside es e in
      ((wrapped l b.0.0 b.0.1, b.0.2), b.1)
  want_brace_found c g k l es e = absurd (let z : None ≡ Some es = e in cc)

  graph_brackets_found : (c : Setting) (n : ℕ) (k : Kind) (l : Leaf) (es : List Event) →
      fronted None (go_on (token k l) (graph_bracket c n k l) next) ≡ Some es →
      Found form c (GraphBracket n) es
  graph_brackets_found c n CloseBracket l es e = let b = after_it CloseBracket l None itself None None c (WantBrace (node (Anon n))) es e in
      ((l, b.0.0, b.0.1), b.1)
  graph_brackets_found c n k l es e = absurd (let z : None ≡ Some es = e in cc)

  graph_iri : (i : Iri) (c : Setting) (es : List Event) (r : Rest form (WantBrace (named (iri_in c.scope i)))) →
      es ≡ iri_events c.scope i (brace_events form c (named (iri_in c.scope i)) r) → Found form c GraphWord es
  graph_iri i c es r e = ((iri_label i, r.0, r.1), e)

  graph_word_found : (c : Setting) (k : Kind) (l : Leaf) (es : List Event) → fronted None (go_on (token k l) (graph_word c k l) next) ≡ Some es →
      Found form c GraphWord es
  graph_word_found c IriRef l es e = let b = after_it IriRef l None _ None None c (WantBrace (named (reference_in c.scope l))) es e in
      graph_iri (iri_ref l) c es b.0 b.1
  graph_word_found c PnameLn l es e = let b = after_it PnameLn l None _ None None c (WantBrace (named (name_in c.scope l))) es e in
      graph_iri (prefixed (pname_ln l)) c es b.0 b.1
  graph_word_found c PnameNs l es e = let b = after_it PnameNs l None _ None None c (WantBrace (named (name_in c.scope l))) es e in
      graph_iri (prefixed (pname_ns l)) c es b.0 b.1
  graph_word_found c LabelNode l es e = let b = after_it LabelNode l None itself None None c (WantBrace (node (labelled l))) es e in
      ((blank_label (label l), b.0.0, b.0.1), b.1)
  graph_word_found c OpenBracket l es e = let b = after_it OpenBracket l None itself None None c (GraphBracket l.at.offset) es e in
      ((blank_label (anon l b.0.0), b.0.1, b.0.2), b.1)
  graph_word_found c k l es e = absurd (let z : None ≡ Some es = e in cc)

  want_prefix_found : (c : Setting) (w : Spelling) (k : Kind) (l : Leaf) (es : List Event) →
      fronted None (go_on (token k l) (want_prefix c w k l) next) ≡ Some es → Found form c (WantPrefix w) es
  want_prefix_found c w PnameNs l es e = let b = after_it PnameNs l None itself None None c (WantPrefixIri w (prefix_of l)) es e in ((l, b.0.0, b.0.1), b.1)
  want_prefix_found c w k l es e = absurd (let z : None ≡ Some es = e in cc)

  want_prefix_iri_found : (c : Setting) (w : Spelling) (p : List ℕ) (k : Kind) (l : Leaf) (es : List Event) →
      fronted None (go_on (token k l) (want_prefix_iri c w p k l) next) ≡ Some es → Found form c (WantPrefixIri w p) es
  want_prefix_iri_found c Dotted p IriRef l es e =
      let b = after_it IriRef l None _ None None (in_default (with_binding c.scope p (reference_in c.scope l))) WantDot es e in ((l, (b.0.0, b.0.1)), b.1)
  want_prefix_iri_found c Sparql p IriRef l es e = let b =
      after_it IriRef l None _ None None (in_default (with_binding c.scope p (reference_in c.scope l))) Start es e in ((l, b.0), b.1)
  want_prefix_iri_found c w p k l es e = absurd (let z : None ≡ Some es = e in cc)

  want_base_iri_found : (c : Setting) (w : Spelling) (k : Kind) (l : Leaf) (es : List Event) →
      fronted None (go_on (token k l) (want_base_iri c w k l) next) ≡ Some es → Found form c (WantBaseIri w) es
  want_base_iri_found c Dotted IriRef l es e = let b = after_it IriRef l None _ None None
      (in_default (with_base c.scope (reference_in c.scope l))) WantDot es e in ((l, (b.0.0, b.0.1)), b.1)
  want_base_iri_found c Sparql IriRef l es e = let b =
      after_it IriRef l None _ None None (in_default (with_base c.scope (reference_in c.scope l))) Start es e in ((l, b.0), b.1)
  want_base_iri_found c w k l es e = absurd (let z : None ≡ Some es = e in cc)

  want_dot_found : (c : Setting) (k : Kind) (l : Leaf) (es : List Event) → fronted None (go_on (token k l) (want_dot c k l) next) ≡ Some es →
      Found form c WantDot es
  want_dot_found c Dot l es e = let b = after_it Dot l None itself None None c Start es e in ((l, b.0), b.1)
  want_dot_found c k l es e = absurd (let z : None ≡ Some es = e in cc)

-- at GRAPH a rest is found, if one is found after it
graph_start_found : (next : Setting → Mode → Option (List Event))
    (ih : (c : Setting) (m : Mode) (es : List Event) → next c m ≡ Some es → Found TriG c m es) (c : Setting) (l : Leaf) (es : List Event) →
    fronted None (go_on (token Graph l) (start TriG c Graph l) next) ≡ Some es → Found TriG c Start es
graph_start_found next ih c l es e =
    let b = after_it TriG next ih Graph l None itself None None c GraphWord es e in (with_body (tree.graph_word l b.0.0 b.0.1) b.0.2, b.1)

-- at the '{' of a block without a label a rest is found, if one is found after it
brace_start_found : (next : Setting → Mode → Option (List Event))
    (ih : (c : Setting) (m : Mode) (es : List Event) → next c m ≡ Some es → Found TriG c m es) (c : Setting) (l : Leaf) (es : List Event) →
    fronted None (go_on (token OpenBrace l) (start TriG c OpenBrace l) next) ≡ Some es → Found TriG c Start es
brace_start_found next ih c l es e =
    let b = after_it TriG next ih OpenBrace l None itself None None (in_default c.scope) Inside es e in
    (with_body (default_graph (wrapped l b.0.0 b.0.1)) b.0.2, b.1)

-- between statements a rest is found, if one is found after the token
start_found : (form : DocForm) (next : Setting → Mode → Option (List Event))
    (ih : (c : Setting) (m : Mode) (es : List Event) → next c m ≡ Some es → Found form c m es) (c : Setting) (k : Kind) (l : Leaf) (es : List Event) →
    fronted None (go_on (token k l) (start form c k l) next) ≡ Some es → Found form c Start es
start_found form next ih c End l es e = let b = after_it form next ih End l None itself None None c Over es e in (end l, b.1)
start_found form next ih c AtPrefix l es e =
    let b = prefix_found form next ih c AtPrefix Dotted l es e in (with_directive (prefix_id l b.0.0 b.0.1 b.0.2.0) b.0.2.1, b.1)
start_found form next ih c Prefix l es e = let b = prefix_found form next ih c Prefix Sparql l es e in (with_directive (sparql_prefix l b.0.0 b.0.1) b.0.2, b.1)
start_found form next ih c AtBase l es e = let b = base_found form next ih c AtBase Dotted l es e in (with_directive (base l b.0.0 b.0.1.0) b.0.1.1, b.1)
start_found form next ih c Base l es e = let b = base_found form next ih c Base Sparql l es e in (with_directive (sparql_base l b.0.0) b.0.1, b.1)
start_found TriG next ih c Graph l es e = graph_start_found next ih c l es e
start_found TriG next ih c OpenBrace l es e = brace_start_found next ih c l es e
start_found form next ih c k l es e = subject_found form next ih c k l es e

-- in every mode a rest is found, if one is found after the token
step_found : (form : DocForm) (next : Setting → Mode → Option (List Event))
    (ih : (c : Setting) (m : Mode) (es : List Event) → next c m ≡ Some es → Found form c m es) (c : Setting) (m : Mode) (k : Kind) (l : Leaf)
    (es : List Event) →
    fronted (waiting c m k l) (go_on (token k l) (step form c m k l) next) ≡ Some es → Found form c m es
step_found form next ih c Start k l es e = start_found form next ih c k l es e
step_found form next ih c Over k l es e = absurd (let z : None ≡ Some es = e in cc)
step_found form next ih c (WantPrefix w) k l es e = want_prefix_found form next ih c w k l es e
step_found form next ih c (WantPrefixIri w p) k l es e = want_prefix_iri_found form next ih c w p k l es e
step_found form next ih c (WantBaseIri w) k l es e = want_base_iri_found form next ih c w k l es e
step_found form next ih c WantDot k l es e = want_dot_found form next ih c k l es e
step_found form next ih c (AfterLabel g) k l es e = after_label_found form next ih c g k l es e
step_found form next ih c GraphWord k l es e = graph_word_found form next ih c k l es e
step_found form next ih c (GraphBracket n) k l es e = graph_brackets_found form next ih c n k l es e
step_found form next ih c (WantBrace g) k l es e = want_brace_found form next ih c g k l es e
step_found form next ih c Inside k l es e = inside_found form next ih c k l es e
step_found form next ih c (Want p) k l es e = let x = object_found form next ih c p None None k l es e in ((x.obj, x.rest), x.events)
step_found form next ih c (After p) k l es e = after_found form next ih c p None k l es e
step_found form next ih c (AfterText w p) k l es e = after_text_found form next ih c w p k l es e
step_found form next ih c (WantType w p) k l es e = want_type_found form next ih c w p k l es e
step_found form next ih c (PropertyListStart n u) k l es e = brackets_mode_found form next ih c n u k l es e
step_found form next ih c (CollectionStart u) k l es e = collection_start_found form next ih c u k l es e
step_found form next ih c (WantVerb s a) k l es e = verb_found form next ih c s a k l es e
step_found form next ih c (AfterSemicolon s a) k l es e = semicolon_found form next ih c s a k l es e
step_found form next ih c (AfterPropertyList s v) k l es e = after_brackets_found form next ih c s v k l es e

-- at the end nothing is to come
stop_found : (form : DocForm) (c : Setting) (m : Mode) (es : List Event) → stop m ≡ Some es → Found form c m es
stop_found form c Over es e = (tt, cc)
stop_found form c m es e = absurd (let z : None ≡ Some es = e in cc)

-- so the tokens of each run to the end are the rest of some tree
found : (form : DocForm) (ts : List Token) (c : Setting) (m : Mode) (es : List Event) → run form c m ts ≡ Some es → Found form c m es
found form [] c m es e = stop_found form c m es e
found form (t ∷ ts) c m es e = step_found form (λ c' m'. run form c' m' ts) (found form ts) c m t.kind (leaf_of t) es e

-- the events of an accepted token have it first
reply_tokens : (t : Token) (w : Option Quad) (r : Reply) (next : Setting → Mode → Option (List Event)) (ts : List Token) →
    ((c : Setting) (m : Mode) (es : List Event) → next c m ≡ Some es → tokens es ≡ ts) →
    (es : List Event) → fronted w (go_on t r next) ≡ Some es → tokens es ≡ t ∷ ts
reply_tokens t w No next ts ih es e = absurd (let z : None ≡ Some es = e in cc)
reply_tokens t w (Go u early now c m) next ts ih es e =
    let x = unput w t u early now (next c m) es e in
    ap tokens x.2 ∙ tokens_give w _ ∙ ap (λ l. t ∷ l) (tokens_give early (give now x.0) ∙ tokens_give now x.0 ∙ ih c m x.0 x.1)

-- no token comes after the end
stop_tokens : (m : Mode) (es : List Event) → stop m ≡ Some es → tokens es ≡ []
stop_tokens Over es e = let z : [] ≡ es = cc in ap tokens (sym z)
stop_tokens m es e = absurd (let z : None ≡ Some es = e in cc)

-- the events of a run have the tokens that were read
pub same_tokens : (form : DocForm) (ts : List Token) (c : Setting) (m : Mode) (es : List Event) → run form c m ts ≡ Some es → tokens es ≡ ts
same_tokens form [] c m es e = stop_tokens m es e
same_tokens form (t ∷ ts) c m es e = reply_tokens t (waiting c m t.kind (leaf_of t)) (step form c m t.kind (leaf_of t))
    (λ c' m'. run form c' m' ts) ts (same_tokens form ts) es e

-- What is read is a document's tokens, with its events.
pub read_found : (form : DocForm) (ts : List Token) (c : Setting) (es : List Event) → run form c Start ts ≡ Some es →
    (d : Document form) × (es ≡ document_events c.scope d) × (tokens (document_events c.scope d) ≡ ts)
read_found form ts c es e = let f = found form ts c Start es e in (f.0, f.1, ap tokens (sym f.1) ∙ same_tokens form ts c Start es e)

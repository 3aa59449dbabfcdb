-- The tokens of each production, read off its tree from left to right. That the events of a document have these tokens is a law (`EventsTellTheTree` of Laws).
use Rattle.std.specs.Prelude.{List, [], ◌∷◌, ◌++◌, Option, Some, None}
use Rattle.rdf_terms.specs.declared.kind.Kind.TheVariants.{IriRef, LabelNode, ShortString, LongString, LangTag, Carets, Dot, Integer, Decimal, Double, True, False, A, AtPrefix, AtBase, Prefix, Base, Graph, PnameNs, PnameLn, Semicolon, Comma, OpenBracket, CloseBracket, OpenParen, CloseParen, OpenBrace, CloseBrace, End}
use Rattle.rdf_tokens.specs.Tokens.{Token}
use Rattle.rdf_tokens.specs.Leaves.{token}
use Rattle.rdf_trig.specs.declared.form.DocForm.{DocForm}
use Rattle.rdf_trig.specs.declared.form.DocForm.TheVariants.{Turtle, TriG}
use Rattle.rdf_trig.specs.Trees.{pname_ln, pname_ns, iri_ref, prefixed, label, anon, predicate, type_word, short, long, lang_tag, base_tag, prefix_tag, plain, tagged, typed, integer, decimal, double, true_word, false_word, rdf, numeric, boolean, iri_object, blank_object, collection_object, list_object, literal_object, collection, no_items, item, property_list, predicate_objects, no_more, semicolon, semicolon_objects, objects, no_commas, comma, iri_subject, blank_subject, collection_subject, subject_triples, list_triples, prefix_id, base, sparql_prefix, sparql_base, iri_label, blank_label, last, last_dot, dot, wrapped, named_graph, label_triples, list_triples2, collection_triples2, triples_or_graph, default_graph, triples2, graph_word, end, with_directive, with_body, PrefixedName, Iri, BlankNode, Verb, String, Tag, RDFLiteral, NumericLiteral, BooleanLiteral, Literal, Object, Collection, Items, BlankNodePropertyList, PredicateObjectList, More, ObjectList, Commas, Subject, Triples, Directive, LabelOrSubject, TriplesBlock, WrappedGraph, TriplesOrGraph, Triples2, Block, Document, Body}

-- one token, with a local part or without one
abbrev pub prefixed_tokens : PrefixedName → List Token
prefixed_tokens (pname_ln l) = token PnameLn l ∷ []
prefixed_tokens (pname_ns l) = token PnameNs l ∷ []

-- one token, an IRIREF or a prefixed name
abbrev pub iri_tokens : Iri → List Token
iri_tokens (iri_ref l) = token IriRef l ∷ []
iri_tokens (prefixed n) = prefixed_tokens n

-- one token for a label, two for ANON
abbrev pub blank_tokens : BlankNode → List Token
blank_tokens (label l) = token LabelNode l ∷ []
blank_tokens (anon l r) = token OpenBracket l ∷ token CloseBracket r ∷ []

-- those of the predicate, or the one of `a`
abbrev pub verb_tokens : Verb → List Token
verb_tokens (predicate i) = iri_tokens i
verb_tokens (type_word l) = token A l ∷ []

-- one token, with its quotes
abbrev pub string_tokens : String → List Token
string_tokens (short l) = token ShortString l ∷ []
string_tokens (long l) = token LongString l ∷ []

-- one token; a scanner takes `@base` and `@prefix` for the words of directives, and they are tags here
abbrev pub tag_tokens : Tag → List Token
tag_tokens (lang_tag l) = token LangTag l ∷ []
tag_tokens (base_tag l) = token AtBase l ∷ []
tag_tokens (prefix_tag l) = token AtPrefix l ∷ []

-- the string, and then its tag, or '^^' and its type, if it has one
abbrev pub rdf_tokens : RDFLiteral → List Token
rdf_tokens (plain s) = string_tokens s
rdf_tokens (tagged s t) = string_tokens s ++ tag_tokens t
rdf_tokens (typed s c i) = string_tokens s ++ (token Carets c ∷ []) ++ iri_tokens i

-- one token, with its sign
abbrev pub numeric_tokens : NumericLiteral → List Token
numeric_tokens (integer l) = token Integer l ∷ []
numeric_tokens (decimal l) = token Decimal l ∷ []
numeric_tokens (double l) = token Double l ∷ []

-- one token, a keyword
abbrev pub boolean_tokens : BooleanLiteral → List Token
boolean_tokens (true_word l) = token True l ∷ []
boolean_tokens (false_word l) = token False l ∷ []

-- those of one of the three sorts of literals
abbrev pub literal_tokens : Literal → List Token
literal_tokens (rdf r) = rdf_tokens r
literal_tokens (numeric n) = numeric_tokens n
literal_tokens (boolean b) = boolean_tokens b

-- The tokens of the productions that stand in each other: an object may be a collection or a property list, which have objects.
abbrev mutual
  pub object_tokens : Object → List Token
  object_tokens (iri_object i) = iri_tokens i
  object_tokens (blank_object b) = blank_tokens b
  object_tokens (collection_object c) = collection_tokens c
  object_tokens (list_object p) = list_tokens p
  object_tokens (literal_object l) = literal_tokens l

  pub collection_tokens : Collection → List Token
  collection_tokens (collection l os r) = (token OpenParen l ∷ []) ++ items_tokens os ++ (token CloseParen r ∷ [])

  pub items_tokens : Items → List Token
  items_tokens no_items = []
  items_tokens (item o os) = object_tokens o ++ items_tokens os

  pub list_tokens : BlankNodePropertyList → List Token
  list_tokens (property_list l ps r) = (token OpenBracket l ∷ []) ++ predicates_tokens ps ++ (token CloseBracket r ∷ [])

  pub predicates_tokens : PredicateObjectList → List Token
  predicates_tokens (predicate_objects v os m) = verb_tokens v ++ objects_tokens os ++ more_tokens m

  pub more_tokens : More → List Token
  more_tokens no_more = []
  more_tokens (semicolon l m) = (token Semicolon l ∷ []) ++ more_tokens m
  more_tokens (semicolon_objects l v os m) = (token Semicolon l ∷ []) ++ verb_tokens v ++ objects_tokens os ++ more_tokens m

  pub objects_tokens : ObjectList → List Token
  objects_tokens (objects o os) = object_tokens o ++ commas_tokens os

  pub commas_tokens : Commas → List Token
  commas_tokens no_commas = []
  commas_tokens (comma l o os) = (token Comma l ∷ []) ++ object_tokens o ++ commas_tokens os

-- those of an IRI, a blank node or a collection
abbrev pub subject_tokens : Subject → List Token
subject_tokens (iri_subject i) = iri_tokens i
subject_tokens (blank_subject b) = blank_tokens b
subject_tokens (collection_subject c) = collection_tokens c

-- those of a part that may be left out: '?' of a production
abbrev pub maybe_tokens : {T : Type 0} → (T → List Token) → Option T → List Token
maybe_tokens tokens None = []
maybe_tokens tokens (Some x) = tokens x

-- those of a statement without its dot; after a property list a predicateObjectList may be left out
abbrev pub triples_tokens : Triples → List Token
triples_tokens (subject_triples s ps) = subject_tokens s ++ predicates_tokens ps
triples_tokens (list_triples p ps) = list_tokens p ++ maybe_tokens predicates_tokens ps

-- a directive that begins with '@' ends in '.', and one in SPARQL's spelling does not
abbrev pub directive_tokens : Directive → List Token
directive_tokens (prefix_id w p i d) = token AtPrefix w ∷ token PnameNs p ∷ token IriRef i ∷ token Dot d ∷ []
directive_tokens (base w i d) = token AtBase w ∷ token IriRef i ∷ token Dot d ∷ []
directive_tokens (sparql_prefix w p i) = token Prefix w ∷ token PnameNs p ∷ token IriRef i ∷ []
directive_tokens (sparql_base w i) = token Base w ∷ token IriRef i ∷ []

-- those of a graph's label, or of a subject in its place
abbrev pub label_tokens : LabelOrSubject → List Token
label_tokens (iri_label i) = iri_tokens i
label_tokens (blank_label b) = blank_tokens b

-- the dot after the last triples of a triplesBlock may be left out
abbrev pub block_tokens : TriplesBlock → List Token
block_tokens (last t) = triples_tokens t
block_tokens (last_dot t d) = triples_tokens t ++ (token Dot d ∷ [])
block_tokens (dot t d b) = triples_tokens t ++ (token Dot d ∷ []) ++ block_tokens b

-- a block with its braces, which may be empty
abbrev pub wrapped_tokens : WrappedGraph → List Token
wrapped_tokens (wrapped l b r) = (token OpenBrace l ∷ []) ++ maybe_tokens block_tokens b ++ (token CloseBrace r ∷ [])

-- a label with its block, or a subject with its predicates and a dot
abbrev pub triples_or_graph_tokens : TriplesOrGraph → List Token
triples_or_graph_tokens (named_graph g w) = label_tokens g ++ wrapped_tokens w
triples_or_graph_tokens (label_triples s ps d) = label_tokens s ++ predicates_tokens ps ++ (token Dot d ∷ [])

-- triples whose subject is a property list or a collection, which can be no label, and their dot
abbrev pub triples2_tokens : Triples2 → List Token
triples2_tokens (list_triples2 p ps d) = list_tokens p ++ maybe_tokens predicates_tokens ps ++ (token Dot d ∷ [])
triples2_tokens (collection_triples2 c ps d) = collection_tokens c ++ predicates_tokens ps ++ (token Dot d ∷ [])

-- those of one block of TriG; the word GRAPH is a token of its own
abbrev pub trig_tokens : Block → List Token
trig_tokens (triples_or_graph t) = triples_or_graph_tokens t
trig_tokens (default_graph w) = wrapped_tokens w
trig_tokens (triples2 t) = triples2_tokens t
trig_tokens (graph_word l g w) = (token Graph l ∷ []) ++ label_tokens g ++ wrapped_tokens w

-- those of a statement of Turtle, with its dot, or of a block of TriG
abbrev pub body_tokens : (form : DocForm) → Body form → List Token
body_tokens Turtle s = triples_tokens s.triples ++ (token Dot s.dot ∷ [])
body_tokens TriG b = trig_tokens b

-- all tokens of a document; the last one is the end of the input
abbrev pub document_tokens : {form : DocForm} → Document form → List Token
document_tokens (end l) = token End l ∷ []
document_tokens (with_directive d rest) = directive_tokens d ++ document_tokens rest
document_tokens {form} (with_body b rest) = body_tokens form b ++ document_tokens rest

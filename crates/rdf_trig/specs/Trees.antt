-- Turtle (6.5) and TriG (4.5): a type for each production. A leaf is a token of the kind that the production names.
use Rattle.std.specs.Prelude.{Option}
use Rattle.rdf_tokens.specs.Leaves.{Leaf}
use Rattle.rdf_trig.specs.declared.form.DocForm.{DocForm}
use Rattle.rdf_trig.specs.declared.form.DocForm.TheVariants.{Turtle, TriG}

-- PrefixedName ::= PNAME_LN | PNAME_NS
pub data PrefixedName : Type 0 where
  pname_ln : Leaf → PrefixedName
  pname_ns : Leaf → PrefixedName

-- iri ::= IRIREF | PrefixedName
pub data Iri : Type 0 where
  iri_ref : Leaf → Iri
  prefixed : PrefixedName → Iri

-- BlankNode ::= BLANK_NODE_LABEL | ANON, where ANON is read as the tokens '[' and ']'
pub data BlankNode : Type 0 where
  label : Leaf → BlankNode
  anon : Leaf → Leaf → BlankNode

-- verb ::= predicate | 'a'; predicate ::= iri
pub data Verb : Type 0 where
  predicate : Iri → Verb
  type_word : Leaf → Verb

-- String ::= STRING_LITERAL_QUOTE | STRING_LITERAL_SINGLE_QUOTE | STRING_LITERAL_LONG_SINGLE_QUOTE | STRING_LITERAL_LONG_QUOTE
pub data String : Type 0 where
  short : Leaf → String
  long : Leaf → String

-- LANGTAG; the words '@base' and '@prefix' after a string are language tags too
pub data Tag : Type 0 where
  lang_tag : Leaf → Tag
  base_tag : Leaf → Tag
  prefix_tag : Leaf → Tag

-- RDFLiteral ::= String (LANGTAG | '^^' iri)?
pub data RDFLiteral : Type 0 where
  plain : String → RDFLiteral
  tagged : String → Tag → RDFLiteral
  typed : String → Leaf → Iri → RDFLiteral

-- NumericLiteral ::= INTEGER | DECIMAL | DOUBLE
pub data NumericLiteral : Type 0 where
  integer : Leaf → NumericLiteral
  decimal : Leaf → NumericLiteral
  double : Leaf → NumericLiteral

-- BooleanLiteral ::= 'true' | 'false'
pub data BooleanLiteral : Type 0 where
  true_word : Leaf → BooleanLiteral
  false_word : Leaf → BooleanLiteral

-- literal ::= RDFLiteral | NumericLiteral | BooleanLiteral
pub data Literal : Type 0 where
  rdf : RDFLiteral → Literal
  numeric : NumericLiteral → Literal
  boolean : BooleanLiteral → Literal

mutual
  -- object ::= iri | BlankNode | collection | blankNodePropertyList | literal
  pub data Object : Type 0 where
    iri_object : Iri → Object
    blank_object : BlankNode → Object
    collection_object : Collection → Object
    list_object : BlankNodePropertyList → Object
    literal_object : Literal → Object

  -- collection ::= '(' object* ')'
  pub data Collection : Type 0 where
    collection : Leaf → Items → Leaf → Collection

  -- object*
  pub data Items : Type 0 where
    no_items : Items
    item : Object → Items → Items

  -- blankNodePropertyList ::= '[' predicateObjectList ']'
  pub data BlankNodePropertyList : Type 0 where
    property_list : Leaf → PredicateObjectList → Leaf → BlankNodePropertyList

  -- predicateObjectList ::= verb objectList (';' (verb objectList)?)*
  pub data PredicateObjectList : Type 0 where
    predicate_objects : Verb → ObjectList → More → PredicateObjectList

  -- (';' (verb objectList)?)*
  pub data More : Type 0 where
    no_more : More
    semicolon : Leaf → More → More
    semicolon_objects : Leaf → Verb → ObjectList → More → More

  -- objectList ::= object (',' object)*
  pub data ObjectList : Type 0 where
    objects : Object → Commas → ObjectList

  -- (',' object)*
  pub data Commas : Type 0 where
    no_commas : Commas
    comma : Leaf → Object → Commas → Commas

-- subject ::= iri | BlankNode | collection
pub data Subject : Type 0 where
  iri_subject : Iri → Subject
  blank_subject : BlankNode → Subject
  collection_subject : Collection → Subject

-- triples ::= subject predicateObjectList | blankNodePropertyList predicateObjectList?
pub data Triples : Type 0 where
  subject_triples : Subject → PredicateObjectList → Triples
  list_triples : BlankNodePropertyList → Option PredicateObjectList → Triples

-- directive ::= prefixID | base | sparqlPrefix | sparqlBase
pub data Directive : Type 0 where
  -- prefixID ::= '@prefix' PNAME_NS IRIREF '.'
  prefix_id : Leaf → Leaf → Leaf → Leaf → Directive
  -- base ::= '@base' IRIREF '.'
  base : Leaf → Leaf → Leaf → Directive
  -- sparqlPrefix ::= "PREFIX" PNAME_NS IRIREF
  sparql_prefix : Leaf → Leaf → Leaf → Directive
  -- sparqlBase ::= "BASE" IRIREF
  sparql_base : Leaf → Leaf → Directive

-- labelOrSubject ::= iri | BlankNode
pub data LabelOrSubject : Type 0 where
  iri_label : Iri → LabelOrSubject
  blank_label : BlankNode → LabelOrSubject

-- triplesBlock ::= triples ('.' triplesBlock?)?
pub data TriplesBlock : Type 0 where
  last : Triples → TriplesBlock
  last_dot : Triples → Leaf → TriplesBlock
  dot : Triples → Leaf → TriplesBlock → TriplesBlock

-- wrappedGraph ::= '{' triplesBlock? '}'
pub data WrappedGraph : Type 0 where
  wrapped : Leaf → Option TriplesBlock → Leaf → WrappedGraph

-- triplesOrGraph ::= labelOrSubject (wrappedGraph | predicateObjectList '.')
pub data TriplesOrGraph : Type 0 where
  named_graph : LabelOrSubject → WrappedGraph → TriplesOrGraph
  label_triples : LabelOrSubject → PredicateObjectList → Leaf → TriplesOrGraph

-- triples2 ::= blankNodePropertyList predicateObjectList? '.' | collection predicateObjectList '.'
pub data Triples2 : Type 0 where
  list_triples2 : BlankNodePropertyList → Option PredicateObjectList → Leaf → Triples2
  collection_triples2 : Collection → PredicateObjectList → Leaf → Triples2

-- block ::= triplesOrGraph | wrappedGraph | triples2 | "GRAPH" labelOrSubject wrappedGraph
pub data Block : Type 0 where
  triples_or_graph : TriplesOrGraph → Block
  default_graph : WrappedGraph → Block
  triples2 : Triples2 → Block
  graph_word : Leaf → LabelOrSubject → WrappedGraph → Block

-- triples '.'
pub record Statement : Type 0 where
  pub triples : Triples
  pub dot : Leaf

-- what stands between directives
abbrev pub Body : DocForm → Type 0
Body Turtle = Statement
Body TriG = Block

-- turtleDoc ::= (directive | triples '.')*, trigDoc ::= (directive | block)*, and the end of the input
pub data Document (form : DocForm) : Type 0 where
  end : Leaf → Document form
  with_directive : Directive → Document form → Document form
  with_body : Body form → Document form → Document form

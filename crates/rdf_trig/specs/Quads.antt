-- The quads of a tree, in the order of the document, each with its mark: the number of the last token of its head.
use Rattle.std.specs.Prelude.{ℕ, List, [], drop, codes, Option, Some, None, option_map, unwrap_or}
use Rattle.rdf_terms.specs.Terms.{Node, Label, Anon, Cell, Lang, Typed, Blank, Term, Resource, Quad}
use Rattle.rdf_terms.specs.Terms as term
use Rattle.rdf_terms.specs.Known.{known_chars}
use Rattle.rdf_terms.specs.declared.constants.Known.TheVariants.{RdfType, RdfRest, RdfNil, XsdString, XsdInteger, XsdDecimal, XsdDouble, XsdBoolean}
use Rattle.rdf_terms.specs.Values.{string_value, inside}
use Rattle.rdf_iri.specs.Scope.{InForce}
use Rattle.rdf_tokens.specs.Leaves.{Leaf}
use Rattle.rdf_trig.specs.Trees.{pname_ln, pname_ns, Iri, iri_ref, prefixed, BlankNode, label, anon, Verb, predicate, type_word, String, short, long, Tag, lang_tag, base_tag, prefix_tag, plain, tagged, typed, integer, decimal, double, true_word, false_word, Literal, rdf, numeric, boolean, Object, iri_object, blank_object, collection_object, list_object, literal_object, Collection, collection, Items, no_items, item, BlankNodePropertyList, property_list, Subject, iri_subject, blank_subject, collection_subject, LabelOrSubject, iri_label, blank_label}
use Rattle.rdf_trig.specs.Names.{iri_in}

-- What a name that stands for nothing is part of, is nothing: a term, a graph label, a quad.

-- the scope, and the graph of the triples: none for those of the default graph
pub record Setting : Type 0 where
  pub scope : InForce
  pub graph : Option (Option term.Subject)

-- where the triples belong to the default graph
abbrev pub in_default : InForce → Setting
in_default s = record { scope = s; graph = Some None }

-- where the triples belong to a named graph, whose label may stand for nothing
abbrev pub in_graph : InForce → Option term.Subject → Setting
in_graph s g = record { scope = s; graph = option_map Some g }

-- the quad of a graph, a subject, a predicate and an object
abbrev pub stated : Option (Option term.Subject) → Option term.Subject → Option (List ℕ) → Option Term → Option Quad
stated (Some g) (Some s) (Some p) (Some o) = Some (record { subject = s; predicate = p; object = o; graph = g })
stated g s p o = None

-- Terms.
-- an IRI as a subject, if there is one
abbrev pub named : Option (List ℕ) → Option term.Subject
named i = option_map term.Iri i

-- a blank node as a subject, which no scope can leave without a meaning
abbrev pub node : Node → Option term.Subject
node n = Some (Blank n)

-- an IRI or a blank node as an object
abbrev pub resource : Option term.Subject → Option Term
resource s = option_map Resource s

-- a '[' names its node by its offset
abbrev pub anon_at : Leaf → Node
anon_at l = Anon l.at.offset

-- the node of a BLANK_NODE_LABEL: its label is the text after `_:`, and means the same node in all of a document (Turtle 2.6)
abbrev pub labelled : Leaf → Node
labelled l = Label (drop 2 l.text)

-- the node of a label, or the fresh one of `[]` (Turtle 7.1)
abbrev pub blank_of : BlankNode → Node
blank_of (label l) = labelled l
blank_of (anon l r) = anon_at l

-- the predicate's IRI: `a` is rdf:type (Turtle 2.4)
abbrev pub verb_of : InForce → Verb → Option (List ℕ)
verb_of s (predicate i) = iri_in s i
verb_of s (type_word l) = Some (known_chars RdfType)

-- the characters that a string with so many quotes at each end means; they are there, since each token is fit
abbrev pub value_in : ℕ → Leaf → List ℕ
value_in n l = unwrap_or (string_value (inside n l.text)) []

-- the lexical form of an RDFLiteral
abbrev pub lexical : String → List ℕ
lexical (short l) = value_in 1 l
lexical (long l) = value_in 3 l

-- a language tag without its '@'
abbrev pub tag_of : Leaf → List ℕ
tag_of l = drop 1 l.text

-- the tag of a string; `@base` and `@prefix` after a string are tags as well
abbrev pub language : Tag → List ℕ
language (lang_tag l) = tag_of l
language (base_tag l) = tag_of l
language (prefix_tag l) = tag_of l

-- a string without tag and type, whose datatype is xsd:string (Turtle 2.5.1)
abbrev pub plain_literal : List ℕ → Option Term
plain_literal w = Some (term.Literal w (Typed (known_chars XsdString)))

-- a string with its language tag
abbrev pub tagged_literal : List ℕ → List ℕ → Option Term
tagged_literal w t = Some (term.Literal w (Lang t))

-- a literal with a datatype IRI, or none if the IRI stands for nothing
abbrev pub typed_literal : List ℕ → Option (List ℕ) → Option Term
typed_literal w i = option_map (λ t. term.Literal w (Typed t)) i

-- a number or boolean keeps the form in which it is written, with the datatype that its form has (Turtle 2.5.2, 2.5.3)
abbrev pub literal_of : InForce → Literal → Option Term
literal_of s (rdf (plain w)) = plain_literal (lexical w)
literal_of s (rdf (tagged w t)) = tagged_literal (lexical w) (language t)
literal_of s (rdf (typed w c i)) = typed_literal (lexical w) (iri_in s i)
literal_of s (numeric (integer l)) = typed_literal l.text (Some (known_chars XsdInteger))
literal_of s (numeric (decimal l)) = typed_literal l.text (Some (known_chars XsdDecimal))
literal_of s (numeric (double l)) = typed_literal l.text (Some (known_chars XsdDouble))
literal_of s (boolean (true_word l)) = typed_literal (codes "true") (Some (known_chars XsdBoolean))
literal_of s (boolean (false_word l)) = typed_literal (codes "false") (Some (known_chars XsdBoolean))

-- the first token of an object
abbrev pub iri_leaf : Iri → Leaf
iri_leaf (iri_ref l) = l
iri_leaf (prefixed (pname_ln l)) = l
iri_leaf (prefixed (pname_ns l)) = l

-- the token of a string, which is its only one
abbrev pub string_leaf : String → Leaf
string_leaf (short l) = l
string_leaf (long l) = l

-- the first token of a literal
abbrev pub literal_leaf : Literal → Leaf
literal_leaf (rdf (plain w)) = string_leaf w
literal_leaf (rdf (tagged w t)) = string_leaf w
literal_leaf (rdf (typed w c i)) = string_leaf w
literal_leaf (numeric (integer l)) = l
literal_leaf (numeric (decimal l)) = l
literal_leaf (numeric (double l)) = l
literal_leaf (boolean (true_word l)) = l
literal_leaf (boolean (false_word l)) = l

-- the first token of an object: the bracket of one that has brackets
abbrev pub object_leaf : Object → Leaf
object_leaf (iri_object i) = iri_leaf i
object_leaf (blank_object (label l)) = l
object_leaf (blank_object (anon l r)) = l
object_leaf (collection_object (collection l os r)) = l
object_leaf (list_object (property_list l ps r)) = l
object_leaf (literal_object l) = literal_leaf l

-- the cell of an item is named by the offset of the item's first token
abbrev pub cell_at : Leaf → Node
cell_at l = Cell l.at.offset

-- the cell in which an item of a collection stands
abbrev pub cell_of : Object → Node
cell_of o = cell_at (object_leaf o)

-- what the items are as a list: the first cell, or rdf:nil
abbrev pub items_of : Items → term.Subject
items_of no_items = term.Iri (known_chars RdfNil)
items_of (item o os) = Blank (cell_of o)

-- what a collection means as a subject or an object (Turtle 2.8)
abbrev pub collection_of : Collection → term.Subject
collection_of (collection l os r) = items_of os

-- what a blankNodePropertyList means as a subject or an object: its node
abbrev pub list_of : BlankNodePropertyList → term.Subject
list_of (property_list l ps r) = Blank (anon_at l)

-- the term that an object means in a scope, or none
abbrev pub object_of : InForce → Object → Option Term
object_of s (iri_object i) = resource (named (iri_in s i))
object_of s (blank_object b) = resource (node (blank_of b))
object_of s (collection_object c) = resource (Some (collection_of c))
object_of s (list_object p) = resource (Some (list_of p))
object_of s (literal_object l) = literal_of s l

-- the rdf:rest of an item's cell, whose head ends at the token after the item
abbrev pub rest_quad : Setting → Node → term.Subject → Option Quad
rest_quad c cell rest = stated c.graph (node cell) (Some (known_chars RdfRest)) (resource (Some rest))

-- the IRI or blank node that a subject means in a scope, or none
abbrev pub subject_of : InForce → Subject → Option term.Subject
subject_of s (iri_subject i) = named (iri_in s i)
subject_of s (blank_subject b) = node (blank_of b)
subject_of s (collection_subject c) = Some (collection_of c)

-- what the label of a graph, or a subject in its place, means in a scope (TriG 4.5, labelOrSubject), or none
abbrev pub label_of : InForce → LabelOrSubject → Option term.Subject
label_of s (iri_label i) = named (iri_in s i)
label_of s (blank_label b) = node (blank_of b)

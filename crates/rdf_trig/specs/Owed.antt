-- What a reader has to hold after some tokens, and the most that it may hold.
use Rattle.std.specs.Prelude.{◌≡◌, ℕ, ◌+◌, ◌*◌, cond, List, [], ◌∷◌, ◌++◌, max, Option, Some, None, is_some}
use Rattle.std.specs.List.{sum_by}
use Rattle.rdf_terms.specs.Terms.{Node, Label, Anon, Cell}
use Rattle.rdf_terms.specs.Terms as term
use Rattle.rdf_tokens.specs.Tokens.{Token}
use Rattle.rdf_iri.specs.Limits.{Sizes}
use Rattle.rdf_iri.specs.Texts.{byte_len}
use Rattle.rdf_iri.specs.Scope.{InForce, bound_to, base_bytes, binding_bytes}
use Rattle.rdf_trig.specs.declared.form.DocForm.{DocForm}
use Rattle.rdf_trig.specs.declared.form.DocForm.TheVariants.{Turtle, TriG}
use Rattle.rdf_trig.specs.Trees.{BlankNode, label, anon, Verb, predicate, type_word, plain, tagged, typed, Literal, rdf, numeric, boolean, Object, iri_object, blank_object, collection_object, list_object, literal_object, Collection, collection, Items, no_items, item, BlankNodePropertyList, property_list, PredicateObjectList, predicate_objects, More, no_more, semicolon, semicolon_objects, ObjectList, objects, Commas, no_commas, comma, Subject, iri_subject, blank_subject, collection_subject, Triples, subject_triples, list_triples, Directive, prefix_id, base, sparql_prefix, sparql_base, LabelOrSubject, iri_label, blank_label, TriplesBlock, last, last_dot, dot, WrappedGraph, wrapped, named_graph, label_triples, list_triples2, collection_triples2, Block, triples_or_graph, default_graph, triples2, graph_word, Body, Document, end, with_directive, with_body}
use Rattle.rdf_trig.specs.Names.{iri_in, scope_after}
use Rattle.rdf_trig.specs.Quads.{subject_of, label_of}
use Rattle.rdf_trig.specs.Events.{Bound, document_events, tokens}

-- the bytes of an IRI
abbrev pub iri_size : Option (List ℕ) → ℕ
iri_size None = 0
iri_size (Some i) = byte_len i

-- the bytes of a node's label; a node without one has no text to hold
abbrev pub node_size : Node → ℕ
node_size (Label x) = byte_len x
node_size (Anon n) = 0
node_size (Cell n) = 0

-- the bytes of the IRI or label of a subject
abbrev pub term_size : Option term.Subject → ℕ
term_size None = 0
term_size (Some (term.Iri i)) = byte_len i
term_size (Some (term.Blank x)) = node_size x

-- a collection, rdf:nil too, is not held
abbrev pub subject_size : InForce → Subject → ℕ
subject_size s (collection_subject c) = 0
subject_size s (iri_subject i) = term_size (subject_of s (iri_subject i))
subject_size s (blank_subject x) = term_size (subject_of s (blank_subject x))

-- the bytes of a verb's IRI; `a` has none that would have to be held
abbrev pub verb_size : InForce → Verb → ℕ
verb_size s (predicate i) = iri_size (iri_in s i)
verb_size s (type_word l) = 0

-- A document from left to right, with the bytes that a reader has to hold after each token: for each predicate list whose verb has come and that may
-- go on, those of its subject's IRI or label; and those of its last verb, where a further object of it can come. Nodes without a label, and IRIs that no
-- token spells, are not held. In what follows b bytes are held outside of the tree, and what comes after it stands in the last argument.
-- a blank node: a label, or two brackets
abbrev pub blank_held : ℕ → BlankNode → List ℕ → List ℕ
blank_held b (label l) rest = b ∷ rest
blank_held b (anon l r) rest = b ∷ b ∷ rest

-- a literal: a string, its tag, or '^^' and its type; a number or boolean
abbrev pub literal_held : ℕ → Literal → List ℕ → List ℕ
literal_held b (rdf (plain w)) rest = b ∷ rest
literal_held b (rdf (tagged w t)) rest = b ∷ b ∷ rest
literal_held b (rdf (typed w c i)) rest = b ∷ b ∷ b ∷ rest
literal_held b (numeric n) rest = b ∷ rest
literal_held b (boolean x) rest = b ∷ rest

-- An object. A predicate list holds its subject from its first verb on, and each verb up to the end of its objects.
abbrev mutual
  pub object_held : InForce → ℕ → Object → List ℕ → List ℕ
  object_held s b (iri_object i) rest = b ∷ rest
  object_held s b (blank_object x) rest = blank_held b x rest
  object_held s b (collection_object c) rest = collection_held s b c rest
  object_held s b (list_object p) rest = list_held s b p rest
  object_held s b (literal_object l) rest = literal_held b l rest

  pub collection_held : InForce → ℕ → Collection → List ℕ → List ℕ
  collection_held s b (collection l os r) rest = b ∷ items_held s b os (b ∷ rest)

  pub items_held : InForce → ℕ → Items → List ℕ → List ℕ
  items_held s b no_items rest = rest
  items_held s b (item o os) rest = object_held s b o (items_held s b os rest)

  pub list_held : InForce → ℕ → BlankNodePropertyList → List ℕ → List ℕ
  list_held s b (property_list l ps r) rest = b ∷ predicates_held s b 0 ps (b ∷ rest)

  pub predicates_held : InForce → ℕ → ℕ → PredicateObjectList → List ℕ → List ℕ
  predicates_held s b size (predicate_objects v os m) rest =
      (b + size + verb_size s v) ∷ objects_held s (b + size + verb_size s v) os (more_held s b size m rest)

  pub more_held : InForce → ℕ → ℕ → More → List ℕ → List ℕ
  more_held s b size no_more rest = rest
  more_held s b size (semicolon l m) rest = (b + size) ∷ more_held s b size m rest
  more_held s b size (semicolon_objects l v os m) rest =
      (b + size) ∷ (b + size + verb_size s v) ∷ objects_held s (b + size + verb_size s v) os (more_held s b size m rest)

  pub objects_held : InForce → ℕ → ObjectList → List ℕ → List ℕ
  objects_held s b (objects o os) rest = object_held s b o (commas_held s b os rest)

  pub commas_held : InForce → ℕ → Commas → List ℕ → List ℕ
  commas_held s b no_commas rest = rest
  commas_held s b (comma l o os) rest = b ∷ object_held s b o (commas_held s b os rest)

-- a subject: nothing is held for it before its verb has come
abbrev pub subject_held : InForce → ℕ → Subject → List ℕ → List ℕ
subject_held s b (iri_subject i) rest = b ∷ rest
subject_held s b (blank_subject x) rest = blank_held b x rest
subject_held s b (collection_subject c) rest = collection_held s b c rest

-- the label of a graph, or a subject in its place
abbrev pub label_held : ℕ → LabelOrSubject → List ℕ → List ℕ
label_held b (iri_label i) rest = b ∷ rest
label_held b (blank_label x) rest = blank_held b x rest

-- a predicate list that may be left out after a property list, whose node is no text
abbrev pub maybe_held : InForce → ℕ → Option PredicateObjectList → List ℕ → List ℕ
maybe_held s b None rest = rest
maybe_held s b (Some ps) rest = predicates_held s b 0 ps rest

-- a subject with its predicate list
abbrev pub triples_held : InForce → ℕ → Triples → List ℕ → List ℕ
triples_held s b (subject_triples t ps) rest = subject_held s b t (predicates_held s b (subject_size s t) ps rest)
triples_held s b (list_triples p ps) rest = list_held s b p (maybe_held s b ps rest)

-- the triples of a block with the dots between them
abbrev pub block_held : InForce → ℕ → TriplesBlock → List ℕ → List ℕ
block_held s b (last t) rest = triples_held s b t rest
block_held s b (last_dot t d) rest = triples_held s b t (b ∷ rest)
block_held s b (dot t d ts) rest = triples_held s b t (b ∷ block_held s b ts rest)

-- what stands between '{' and '}'; the label of a block's graph is not counted
abbrev pub wrapped_held : InForce → ℕ → WrappedGraph → List ℕ → List ℕ
wrapped_held s b (wrapped l None r) rest = b ∷ b ∷ rest
wrapped_held s b (wrapped l (Some ts) r) rest = b ∷ block_held s b ts (b ∷ rest)

-- a block of TriG
abbrev pub trig_held : InForce → ℕ → Block → List ℕ → List ℕ
trig_held s b (triples_or_graph (named_graph g w)) rest = label_held b g (wrapped_held s b w rest)
trig_held s b (triples_or_graph (label_triples g ps d)) rest = label_held b g (predicates_held s b (term_size (label_of s g)) ps (b ∷ rest))
trig_held s b (default_graph w) rest = wrapped_held s b w rest
trig_held s b (triples2 (list_triples2 p ps d)) rest = list_held s b p (maybe_held s b ps (b ∷ rest))
trig_held s b (triples2 (collection_triples2 c ps d)) rest = collection_held s b c (predicates_held s b 0 ps (b ∷ rest))
trig_held s b (graph_word l g w) rest = b ∷ label_held b g (wrapped_held s b w rest)

-- a statement or a block
abbrev pub body_held : (form : DocForm) → InForce → ℕ → Body form → List ℕ → List ℕ
body_held Turtle s b x rest = triples_held s b x.triples (b ∷ rest)
body_held TriG s b x rest = trig_held s b x rest

-- a directive, which has no predicate list; from its IRIREF on a bytes are held, and before it b
abbrev pub directive_held : ℕ → ℕ → Directive → List ℕ → List ℕ
directive_held b a (prefix_id w p i d) rest = b ∷ b ∷ a ∷ a ∷ rest
directive_held b a (base w i d) rest = b ∷ a ∷ a ∷ rest
directive_held b a (sparql_prefix w p i) rest = b ∷ b ∷ a ∷ rest
directive_held b a (sparql_base w i) rest = b ∷ a ∷ rest

-- all of a document, in the scopes that its directives give, where w says how many bytes are held of a scope
abbrev pub document_held : {form : DocForm} → (InForce → ℕ) → InForce → Document form → List ℕ
document_held w s (end l) = w s ∷ []
document_held w s (with_directive d rest) = directive_held (w s) (w (scope_after s d)) d (document_held w (scope_after s d) rest)
document_held {form} w s (with_body b rest) = body_held form s (w s) b (document_held w s rest)

-- what is held after the last of some tokens, by the bytes after each; and b before the first
abbrev pub held_after : ℕ → List Token → List ℕ → ℕ
held_after b [] hs = b
held_after b (t ∷ ts) [] = b
held_after b (t ∷ ts) (h ∷ hs) = held_after h ts hs

-- what has to be held after some tokens of a document that begins with them, with so many bytes of the scope there
pub record HasToHold (w : InForce → ℕ) (form : DocForm) (start : InForce) (ts : List Token) (size : ℕ) : Type 0 where
  pub tree : Document form
  pub more : List Token
  pub tokens : ts ++ more ≡ tokens (document_events start tree)
  pub bound : Bound (document_events start tree)
  pub held : held_after (w start) ts (document_held w start tree) ≡ size

-- what is owed after some tokens: what has to be held, without the base and the prefixes
abbrev pub Owed : DocForm → InForce → List Token → ℕ → Type 0
Owed form start ts size = HasToHold (λ s. 0) form start ts size

-- the bindings of prefixes that are not bound by others, of each prefix the first: the one that is in force
abbrev pub in_force : List (List ℕ × List ℕ) → List (List ℕ × List ℕ) → List (List ℕ × List ℕ)
in_force others [] = []
in_force others (e ∷ es) = cond (is_some (bound_to others e.0)) (in_force others es) (e ∷ in_force (e ∷ others) es)

-- the bytes of the base, and of each bound prefix with its IRI
abbrev pub scope_size : InForce → ℕ
scope_size s = base_bytes s.base + sum_by binding_bytes (in_force [] s.bindings)

-- what is owed in all after some tokens, with the base in force there and each prefix that is bound there with its IRI
abbrev pub OwedInAll : DocForm → InForce → List Token → ℕ → Type 0
OwedInAll form start ts size = HasToHold scope_size form start ts size

-- the most bytes of the texts of the open frames and of what is read, of the base, and of the prefixes with their IRIs
abbrev pub most_kept : Sizes → ℕ
most_kept l = max l.iri (4 * l.token) * (2 * (l.depth + 1) + 3) + l.iri + l.bindings * (4 * l.token + l.iri)

-- the most bytes that may be held: a piece of a token, and these texts
abbrev pub most_held : Sizes → ℕ
most_held l = 4 * (l.token + 1) + 3 + most_kept l

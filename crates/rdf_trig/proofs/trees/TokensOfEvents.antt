-- The tokens of a tree's events are those that the tree derives.
use Rattle.rdf_trig.proofs.Prelude.{◌≡◌, ℕ, List, [], ◌∷◌, ◌++◌, Option, Some, None, refl, sym, ap, ◌∙◌, append_assoc, LabelNode, Carets, Dot, Integer, Decimal, Double, True, False, Graph, Semicolon, Comma, OpenBracket, CloseBracket, OpenParen, CloseParen, OpenBrace, CloseBrace, Node, Quad, known_chars, RdfFirst, Token, InForce, Leaf, token, DocForm, TriG, pname_ln, pname_ns, Iri, iri_ref, prefixed, BlankNode, label, anon, Verb, predicate, type_word, short, long, Tag, lang_tag, base_tag, prefix_tag, plain, tagged, typed, integer, decimal, double, true_word, false_word, Literal, rdf, numeric, boolean, Object, iri_object, blank_object, collection_object, list_object, literal_object, Collection, collection, Items, no_items, item, BlankNodePropertyList, property_list, PredicateObjectList, predicate_objects, More, no_more, semicolon, semicolon_objects, ObjectList, objects, Commas, no_commas, comma, iri_subject, blank_subject, collection_subject, Triples, subject_triples, list_triples, Directive, prefix_id, base, sparql_prefix, sparql_base, LabelOrSubject, iri_label, blank_label, TriplesBlock, last, last_dot, dot, WrappedGraph, wrapped, named_graph, label_triples, list_triples2, collection_triples2, triples_or_graph, default_graph, triples2, Body, Document, end, with_directive, with_body, iri_tokens, verb_tokens, string_tokens, tag_tokens, literal_tokens, blank_tokens, object_tokens, collection_tokens, items_tokens, list_tokens, predicates_tokens, more_tokens, objects_tokens, commas_tokens, subject_tokens, maybe_tokens, triples_tokens, directive_tokens, label_tokens, block_tokens, wrapped_tokens, body_tokens, document_tokens, scope_after, Setting, in_default, in_graph, node, anon_at, items_of, collection_of, list_of, subject_of, label_of, rest_quad, Event, give, iri_events, verb_events, string_events, tag_events, blank_object_events, literal_events, object_events, collection_events, items_events, rest_events, list_events, predicates_events, more_events, objects_events, commas_events, subject_events, maybe_events, triples_events, directive_events, label_events, block_events, maybe_block_events, wrapped_events, body_events, document_events}
use Rattle.rdf_terms.specs.Terms as term
use Rattle.rdf_trig.specs.declared.form.DocForm.TheVariants.{Turtle}
use Rattle.rdf_trig.specs.Trees.{String, Subject, graph_word}
use Rattle.rdf_trig.specs.Quads.{verb_of, cell_of}
use Rattle.rdf_trig.specs.Events.{take, object_quad, tokens}

pub tokens_give : (q : Option Quad) (es : List Event) → tokens (give q es) ≡ tokens es
tokens_give None es = refl
tokens_give (Some q) es = refl

-- four lists, bracketed from the right and from the left
three : (a b c d : List Token) → a ++ (b ++ (c ++ d)) ≡ (a ++ b ++ c) ++ d
three a b c d = sym (append_assoc a b (c ++ d)) ∙ sym (append_assoc (a ++ b) c d)

-- quads among the events are no tokens
give_both : (early q : Option Quad) (es : List Event) → tokens (give early (give q es)) ≡ tokens es
give_both early q es = tokens_give early (give q es) ∙ tokens_give q es

-- the events of an iri have its token, and then those of the rest
iri_told : (i : Iri) (s : InForce) (rest : List Event) → tokens (iri_events s i rest) ≡ iri_tokens i ++ tokens rest
iri_told (iri_ref l) s rest = refl
iri_told (prefixed (pname_ln l)) s rest = refl
iri_told (prefixed (pname_ns l)) s rest = refl

-- the events of a verb have its token, and then those of the rest
verb_told : (v : Verb) (s : InForce) (rest : List Event) → tokens (verb_events s v rest) ≡ verb_tokens v ++ tokens rest
verb_told (predicate i) s rest = iri_told i s rest
verb_told (type_word l) s rest = refl

-- the events of a string have its token, and then those of the rest
string_told : (w : String) (rest : List Event) → tokens (string_events w rest) ≡ string_tokens w ++ tokens rest
string_told (short l) rest = refl
string_told (long l) rest = refl

-- the events of a language tag have its token, and then those of the rest
tag_told : (t : Tag) (rest : List Event) → tokens (tag_events t rest) ≡ tag_tokens t ++ tokens rest
tag_told (lang_tag l) rest = refl
tag_told (base_tag l) rest = refl
tag_told (prefix_tag l) rest = refl

-- the events of a blank node have its tokens, whichever quads stand among them
blank_told : (b : BlankNode) (early q : Option Quad) (rest : List Event) → tokens (blank_object_events b early q rest) ≡ blank_tokens b ++ tokens rest
blank_told (label l) early q rest = ap (λ x. token LabelNode l ∷ x) (give_both early q rest)
blank_told (anon l r) early q rest = ap (λ x. token OpenBracket l ∷ x) (give_both early q (take CloseBracket r rest))

-- the events of a literal have its tokens, whichever quads stand among them
literal_told : (x : Literal) (s : InForce) (early q : Option Quad) (rest : List Event) →
    tokens (literal_events s x early q rest) ≡ literal_tokens x ++ tokens rest
literal_told (rdf (plain w)) s early q rest = string_told w (give early (give q rest)) ∙ ap (λ x. string_tokens w ++ x) (give_both early q rest)
literal_told (rdf (tagged w t)) s early q rest =
    string_told w (give early (tag_events t (give q rest)))
    ∙ ap (λ x. string_tokens w ++ x) (tokens_give early (tag_events t (give q rest)) ∙ tag_told t (give q rest)
    ∙ ap (λ x. tag_tokens t ++ x) (tokens_give q rest))
    ∙ sym (append_assoc (string_tokens w) (tag_tokens t) (tokens rest))
literal_told (rdf (typed w c i)) s early q rest =
    string_told w (give early (take Carets c (iri_events s i (give q rest))))
    ∙ ap (λ x. string_tokens w ++ x)
    (tokens_give early (take Carets c (iri_events s i (give q rest)))
    ∙ ap (λ x. token Carets c ∷ x) (iri_told i s (give q rest) ∙ ap (λ x. iri_tokens i ++ x) (tokens_give q rest)))
    ∙ simp append_assoc
literal_told (numeric (integer l)) s early q rest = ap (λ x. token Integer l ∷ x) (give_both early q rest)
literal_told (numeric (decimal l)) s early q rest = ap (λ x. token Decimal l ∷ x) (give_both early q rest)
literal_told (numeric (double l)) s early q rest = ap (λ x. token Double l ∷ x) (give_both early q rest)
literal_told (boolean (true_word l)) s early q rest = ap (λ x. token True l ∷ x) (give_both early q rest)
literal_told (boolean (false_word l)) s early q rest = ap (λ x. token False l ∷ x) (give_both early q rest)

mutual
  object_told : (o : Object) (c : Setting) (s : Option term.Subject) (p : Option (List ℕ)) (early : Option Quad) (rest : List Event) →
      tokens (object_events c o s p early rest) ≡ object_tokens o ++ tokens rest
  object_told (iri_object i) c s p early rest = iri_told i c.scope (give early (give (object_quad c s p (iri_object i)) rest))
      ∙ ap (λ x. iri_tokens i ++ x) (give_both early (object_quad c s p (iri_object i)) rest)
  object_told (blank_object b) c s p early rest = blank_told b early (object_quad c s p (blank_object b)) rest
  object_told (collection_object x) c s p early rest = collection_told x c early (object_quad c s p (collection_object x)) rest
  object_told (list_object x) c s p early rest = list_told x c early (object_quad c s p (list_object x)) rest
  object_told (literal_object x) c s p early rest = literal_told x c.scope early (object_quad c s p (literal_object x)) rest

  collection_told : (x : Collection) (c : Setting) (early q : Option Quad) (rest : List Event) →
      tokens (collection_events c x early q rest) ≡ collection_tokens x ++ tokens rest
  collection_told (collection l os r) c early q rest =
      ap (λ x. token OpenParen l ∷ x) (give_both early q (items_events c os r rest) ∙ items_told os c r rest
      ∙ sym (append_assoc (items_tokens os) (token CloseParen r ∷ []) (tokens rest)))

  items_told : (os : Items) (c : Setting) (r : Leaf) (rest : List Event) →
      tokens (items_events c os r rest) ≡ items_tokens os ++ token CloseParen r ∷ tokens rest
  items_told no_items c r rest = refl
  items_told (item o os) c r rest =
      object_told o c (node (cell_of o)) (Some (known_chars RdfFirst)) None (rest_events c os (cell_of o) r rest)
      ∙ ap (λ x. object_tokens o ++ x) (rest_told os c (cell_of o) r rest)
      ∙ sym (append_assoc (object_tokens o) (items_tokens os) (token CloseParen r ∷ tokens rest))

  rest_told : (os : Items) (c : Setting) (cell : Node) (r : Leaf) (rest : List Event) →
      tokens (rest_events c os cell r rest) ≡ items_tokens os ++ token CloseParen r ∷ tokens rest
  rest_told no_items c cell r rest = ap (λ x. token CloseParen r ∷ x) (tokens_give (rest_quad c cell (items_of no_items)) rest)
  rest_told (item o os) c cell r rest =
      object_told o c (node (cell_of o)) (Some (known_chars RdfFirst)) (rest_quad c cell (items_of (item o os))) (rest_events c os (cell_of o) r rest)
      ∙ ap (λ x. object_tokens o ++ x) (rest_told os c (cell_of o) r rest)
      ∙ sym (append_assoc (object_tokens o) (items_tokens os) (token CloseParen r ∷ tokens rest))

  list_told : (x : BlankNodePropertyList) (c : Setting) (early q : Option Quad) (rest : List Event) →
      tokens (list_events c x early q rest) ≡ list_tokens x ++ tokens rest
  list_told (property_list l ps r) c early q rest =
      ap (λ x. token OpenBracket l ∷ x)
      (give_both early q (predicates_events c ps (node (anon_at l)) (take CloseBracket r rest))
      ∙ predicates_told ps c (node (anon_at l)) (take CloseBracket r rest)
      ∙ sym (append_assoc (predicates_tokens ps) (token CloseBracket r ∷ []) (tokens rest)))

  predicates_told : (ps : PredicateObjectList) (c : Setting) (s : Option term.Subject) (rest : List Event) →
      tokens (predicates_events c ps s rest) ≡ predicates_tokens ps ++ tokens rest
  predicates_told (predicate_objects v os m) c s rest =
      verb_told v c.scope (objects_events c os s (verb_of c.scope v) (more_events c m s rest))
      ∙ ap (λ x. verb_tokens v ++ x) (objects_told os c s (verb_of c.scope v) (more_events c m s rest)
      ∙ ap (λ x. objects_tokens os ++ x) (more_told m c s rest))
      ∙ three (verb_tokens v) (objects_tokens os) (more_tokens m) (tokens rest)

  more_told : (m : More) (c : Setting) (s : Option term.Subject) (rest : List Event) → tokens (more_events c m s rest) ≡ more_tokens m ++ tokens rest
  more_told no_more c s rest = refl
  more_told (semicolon l m) c s rest = ap (λ x. token Semicolon l ∷ x) (more_told m c s rest)
  more_told (semicolon_objects l v os m) c s rest =
      ap (λ x. token Semicolon l ∷ x)
      (verb_told v c.scope (objects_events c os s (verb_of c.scope v) (more_events c m s rest))
      ∙ ap (λ x. verb_tokens v ++ x) (objects_told os c s (verb_of c.scope v) (more_events c m s rest)
      ∙ ap (λ x. objects_tokens os ++ x) (more_told m c s rest))
      ∙ three (verb_tokens v) (objects_tokens os) (more_tokens m) (tokens rest))

  objects_told : (os : ObjectList) (c : Setting) (s : Option term.Subject) (p : Option (List ℕ)) (rest : List Event) →
      tokens (objects_events c os s p rest) ≡ objects_tokens os ++ tokens rest
  objects_told (objects o os) c s p rest =
      object_told o c s p None (commas_events c os s p rest) ∙ ap (λ x. object_tokens o ++ x) (commas_told os c s p rest)
      ∙ sym (append_assoc (object_tokens o) (commas_tokens os) (tokens rest))

  commas_told : (os : Commas) (c : Setting) (s : Option term.Subject) (p : Option (List ℕ)) (rest : List Event) →
      tokens (commas_events c os s p rest) ≡ commas_tokens os ++ tokens rest
  commas_told no_commas c s p rest = refl
  commas_told (comma l o os) c s p rest =
      ap (λ x. token Comma l ∷ x)
      (object_told o c s p None (commas_events c os s p rest) ∙ ap (λ x. object_tokens o ++ x) (commas_told os c s p rest)
      ∙ sym (append_assoc (object_tokens o) (commas_tokens os) (tokens rest)))

maybe_told : (ps : Option PredicateObjectList) (c : Setting) (s : Option term.Subject) (rest : List Event) →
    tokens (maybe_events c s ps rest) ≡ maybe_tokens predicates_tokens ps ++ tokens rest
maybe_told None c s rest = refl
maybe_told (Some ps) c s rest = predicates_told ps c s rest

subject_told : (x : Subject) (c : Setting) (rest : List Event) → tokens (subject_events c x rest) ≡ subject_tokens x ++ tokens rest
subject_told (iri_subject i) c rest = iri_told i c.scope rest
subject_told (blank_subject b) c rest = blank_told b None None rest
subject_told (collection_subject x) c rest = collection_told x c None None rest

triples_told : (t : Triples) (c : Setting) (rest : List Event) → tokens (triples_events c t rest) ≡ triples_tokens t ++ tokens rest
triples_told (subject_triples x ps) c rest =
    let s = subject_of c.scope x in
    subject_told x c (predicates_events c ps s rest) ∙ ap (λ y. subject_tokens x ++ y) (predicates_told ps c s rest)
    ∙ sym (append_assoc (subject_tokens x) (predicates_tokens ps) (tokens rest))
triples_told (list_triples x ps) c rest =
    let s = Some (list_of x) in
    list_told x c None None (maybe_events c s ps rest) ∙ ap (λ y. list_tokens x ++ y) (maybe_told ps c s rest)
    ∙ sym (append_assoc (list_tokens x) (maybe_tokens predicates_tokens ps) (tokens rest))

label_told : (x : LabelOrSubject) (s : InForce) (rest : List Event) → tokens (label_events s x rest) ≡ label_tokens x ++ tokens rest
label_told (iri_label i) s rest = iri_told i s rest
label_told (blank_label b) s rest = blank_told b None None rest

block_told : (b : TriplesBlock) (c : Setting) (rest : List Event) → tokens (block_events c b rest) ≡ block_tokens b ++ tokens rest
block_told (last t) c rest = triples_told t c rest
block_told (last_dot t d) c rest = triples_told t c (take Dot d rest) ∙ sym (append_assoc (triples_tokens t) (token Dot d ∷ []) (tokens rest))
block_told (dot t d b) c rest =
    triples_told t c (take Dot d (block_events c b rest)) ∙ ap (λ x. triples_tokens t ++ token Dot d ∷ x) (block_told b c rest) ∙ simp append_assoc

maybe_block_told : (b : Option TriplesBlock) (c : Setting) (rest : List Event) →
    tokens (maybe_block_events c b rest) ≡ maybe_tokens block_tokens b ++ tokens rest
maybe_block_told None c rest = refl
maybe_block_told (Some b) c rest = block_told b c rest

wrapped_told : (w : WrappedGraph) (c : Setting) (rest : List Event) → tokens (wrapped_events c w rest) ≡ wrapped_tokens w ++ tokens rest
wrapped_told (wrapped l b r) c rest =
    ap (λ x. token OpenBrace l ∷ x) (maybe_block_told b c (take CloseBrace r rest)
    ∙ sym (append_assoc (maybe_tokens block_tokens b) (token CloseBrace r ∷ []) (tokens rest)))

-- the events of a statement or a block have the tokens that it derives
body_told : (form : DocForm) (b : Body form) (s : InForce) (rest : List Event) → tokens (body_events form s b rest) ≡ body_tokens form b ++ tokens rest
body_told Turtle b s rest = triples_told b.triples (in_default s) (take Dot b.dot rest)
    ∙ sym (append_assoc (triples_tokens b.triples) (token Dot b.dot ∷ []) (tokens rest))
body_told TriG (triples_or_graph (named_graph x w)) s rest =
    let c = in_graph s (label_of s x) in
    label_told x s (wrapped_events c w rest) ∙ ap (λ y. label_tokens x ++ y) (wrapped_told w c rest)
    ∙ sym (append_assoc (label_tokens x) (wrapped_tokens w) (tokens rest))
body_told TriG (triples_or_graph (label_triples x ps d)) s rest =
    label_told x s (predicates_events (in_default s) ps (label_of s x) (take Dot d rest))
    ∙ ap (λ y. label_tokens x ++ y) (predicates_told ps (in_default s) (label_of s x) (take Dot d rest)) ∙ simp append_assoc
body_told TriG (default_graph w) s rest = wrapped_told w (in_default s) rest
body_told TriG (triples2 (list_triples2 x ps d)) s rest =
    list_told x (in_default s) None None (maybe_events (in_default s) (Some (list_of x)) ps (take Dot d rest))
    ∙ ap (λ y. list_tokens x ++ y) (maybe_told ps (in_default s) (Some (list_of x)) (take Dot d rest)) ∙ simp append_assoc
body_told TriG (triples2 (collection_triples2 x ps d)) s rest =
    collection_told x (in_default s) None None (predicates_events (in_default s) ps (Some (collection_of x)) (take Dot d rest))
    ∙ ap (λ y. collection_tokens x ++ y) (predicates_told ps (in_default s) (Some (collection_of x)) (take Dot d rest)) ∙ simp append_assoc
body_told TriG (graph_word l x w) s rest =
    let c = in_graph s (label_of s x) in
    ap (λ y. token Graph l ∷ y) (label_told x s (wrapped_events c w rest) ∙ ap (λ y. label_tokens x ++ y) (wrapped_told w c rest)
    ∙ sym (append_assoc (label_tokens x) (wrapped_tokens w) (tokens rest)))

directive_told : (d : Directive) (s : InForce) (rest : List Event) → tokens (directive_events s d rest) ≡ directive_tokens d ++ tokens rest
directive_told (prefix_id w p i d) s rest = refl
directive_told (base w i d) s rest = refl
directive_told (sparql_prefix w p i) s rest = refl
directive_told (sparql_base w i) s rest = refl

-- the events of a document have its tokens, as the law of events says
pub document_told : {form : DocForm} (d : Document form) (s : InForce) → tokens (document_events s d) ≡ document_tokens d
document_told (end l) s = refl
document_told (with_directive d rest) s = directive_told d s (document_events (scope_after s d) rest)
    ∙ ap (λ x. directive_tokens d ++ x) (document_told rest (scope_after s d))
document_told {form} (with_body b rest) s = body_told form b s (document_events s rest) ∙ ap (λ x. body_tokens form b ++ x) (document_told rest s)

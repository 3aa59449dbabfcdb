-- The quads of a tree's events, each with the number of the token that it stands after, are the tree's quads with their marks.
use Rattle.rdf_trig.proofs.Prelude.{◌≡◌, ℕ, ◌+◌, List, [], ◌∷◌, ◌++◌, Option, Some, None, refl, sym, ap, ◌∙◌, append_assoc, length, length-append, arith, Kind, Carets, Dot, CloseBracket, CloseParen, CloseBrace, Node, Quad, known_chars, RdfFirst, Marked, InForce, Leaf, token, DocForm, TriG, pname_ln, pname_ns, Iri, iri_ref, prefixed, BlankNode, label, anon, Verb, predicate, type_word, short, long, Tag, lang_tag, base_tag, prefix_tag, plain, tagged, typed, integer, decimal, double, true_word, false_word, Literal, rdf, numeric, boolean, Object, iri_object, blank_object, collection_object, list_object, literal_object, Collection, collection, Items, no_items, item, BlankNodePropertyList, property_list, PredicateObjectList, predicate_objects, More, no_more, semicolon, semicolon_objects, ObjectList, objects, Commas, no_commas, comma, iri_subject, blank_subject, collection_subject, Triples, subject_triples, list_triples, Directive, prefix_id, base, sparql_prefix, sparql_base, LabelOrSubject, iri_label, blank_label, TriplesBlock, last, last_dot, dot, WrappedGraph, wrapped, named_graph, label_triples, list_triples2, collection_triples2, triples_or_graph, default_graph, triples2, Body, Document, end, with_directive, with_body, iri_tokens, verb_tokens, string_tokens, tag_tokens, literal_tokens, blank_tokens, object_tokens, collection_tokens, items_tokens, list_tokens, predicates_tokens, more_tokens, objects_tokens, commas_tokens, subject_tokens, maybe_tokens, triples_tokens, directive_tokens, label_tokens, block_tokens, wrapped_tokens, body_tokens, scope_after, Setting, in_default, in_graph, node, anon_at, items_of, collection_of, list_of, subject_of, label_of, rest_quad, marked_at, own_quad, first_quad, inner_quads, collection_quads, items_quads, list_quads, predicates_quads, more_quads, objects_quads, commas_quads, subject_quads, maybe_quads, triples_quads, block_quads, maybe_block, wrapped_quads, body_quads, document_quads, Event, give, iri_events, verb_events, string_events, tag_events, blank_object_events, literal_events, object_events, collection_events, items_events, rest_events, list_events, predicates_events, more_events, objects_events, commas_events, subject_events, maybe_events, triples_events, directive_events, label_events, block_events, maybe_block_events, wrapped_events, body_events, document_events, event_quads}
use Rattle.rdf_terms.specs.Terms as term
use Rattle.rdf_trig.specs.declared.form.DocForm.TheVariants.{Turtle}
use Rattle.rdf_trig.specs.Trees.{String, Subject, graph_word}
use Rattle.rdf_trig.specs.Quads.{verb_of, cell_of}
use Rattle.rdf_trig.specs.Events.{take, object_quad}

-- a quad among the events has the number of the tokens before it
marked_give : (q : Option Quad) (n : ℕ) (es : List Event) → event_quads n (give q es) ≡ marked_at n q ++ event_quads n es
marked_give None n es = refl
marked_give (Some q) n es = refl

-- a quad that waited and one that has just come have the number of the tokens before them
marked_both : (early q : Option Quad) (n : ℕ) (es : List Event) →
    event_quads n (give early (give q es)) ≡ marked_at n early ++ (marked_at n q ++ event_quads n es)
marked_both early q n es = marked_give early n (give q es) ∙ ap (λ x. marked_at n early ++ x) (marked_give q n es)

-- the same number under another spelling
moved : (qs : List Marked) (n j : ℕ) (es : List Event) → n ≡ j → qs ++ event_quads n es ≡ qs ++ event_quads j es
moved qs n j es e = ap (λ k. qs ++ event_quads k es) e

-- an iri is one token and gives no quad itself
iri_marks : (i : Iri) (s : InForce) (n : ℕ) (rest : List Event) → event_quads n (iri_events s i rest) ≡ event_quads (n + 1) rest
iri_marks (iri_ref l) s n rest = refl
iri_marks (prefixed (pname_ln l)) s n rest = refl
iri_marks (prefixed (pname_ns l)) s n rest = refl

-- an iri is one token
iri_one : (i : Iri) → length (iri_tokens i) ≡ 1
iri_one (iri_ref l) = refl
iri_one (prefixed (pname_ln l)) = refl
iri_one (prefixed (pname_ns l)) = refl

-- a verb is one token and gives no quad itself
verb_marks : (v : Verb) (s : InForce) (n : ℕ) (rest : List Event) → event_quads n (verb_events s v rest) ≡ event_quads (n + 1) rest
verb_marks (predicate i) s n rest = iri_marks i s n rest
verb_marks (type_word l) s n rest = refl

-- a verb is one token
verb_one : (v : Verb) → length (verb_tokens v) ≡ 1
verb_one (predicate i) = iri_one i
verb_one (type_word l) = refl

-- a string is one token and gives no quad itself
string_marks : (w : String) (n : ℕ) (rest : List Event) → event_quads n (string_events w rest) ≡ event_quads (n + 1) rest
string_marks (short l) n rest = refl
string_marks (long l) n rest = refl

-- a string is one token
string_one : (w : String) → length (string_tokens w) ≡ 1
string_one (short l) = refl
string_one (long l) = refl

-- a tag is one token and gives no quad itself
tag_marks : (t : Tag) (n : ℕ) (rest : List Event) → event_quads n (tag_events t rest) ≡ event_quads (n + 1) rest
tag_marks (lang_tag l) n rest = refl
tag_marks (base_tag l) n rest = refl
tag_marks (prefix_tag l) n rest = refl

-- a tag is one token
tag_one : (t : Tag) → length (tag_tokens t) ≡ 1
tag_one (lang_tag l) = refl
tag_one (base_tag l) = refl
tag_one (prefix_tag l) = refl

-- a quad after the last token of its head, which has the number j
abbrev Behind : ℕ → ℕ → Option Quad → Option Quad → List Event → List Event → Type 0
Behind n j early q es rest = event_quads n es ≡ marked_at (n + 1) early ++ (marked_at j q ++ event_quads j rest)

-- an object of one token has its quad right after it
one_token : (n j : ℕ) (early q : Option Quad) (rest : List Event) → j ≡ n + 1 →
    event_quads (n + 1) (give early (give q rest)) ≡ marked_at (n + 1) early ++ (marked_at j q ++ event_quads j rest)
one_token n j early q rest e = marked_both early q (n + 1) rest ∙ ap (λ k. marked_at (n + 1) early ++ (marked_at k q ++ event_quads k rest)) (sym e)

-- the quad of a literal has the number of its last token, and one that waited that of its first
literal_marks : (x : Literal) (s : InForce) (n j : ℕ) (early q : Option Quad) (rest : List Event) → j ≡ n + length (literal_tokens x) →
    Behind n j early q (literal_events s x early q rest) rest
literal_marks (rdf (plain w)) s n j early q rest e =
    string_marks w n (give early (give q rest)) ∙ one_token n j early q rest (e ∙ ap (λ k. n + k) (string_one w))
literal_marks (rdf (tagged w t)) s n j early q rest e =
    let size : n + 1 + 1 ≡ j = omega (arith, e, length-append (string_tokens w) (tag_tokens t), string_one w, tag_one t) in
    string_marks w n (give early (tag_events t (give q rest)))
    ∙ marked_give early (n + 1) (tag_events t (give q rest))
    ∙ ap (λ x. marked_at (n + 1) early ++ x) (tag_marks t (n + 1) (give q rest) ∙ marked_give q (n + 1 + 1) rest
    ∙ ap (λ k. marked_at k q ++ event_quads k rest) size)
literal_marks (rdf (typed w c i)) s n j early q rest e =
    let size : n + 1 + 1 + 1 ≡ j = omega (
      arith,
      e,
      length-append (string_tokens w ++ token Carets c ∷ []) (iri_tokens i),
      length-append (string_tokens w) (token Carets c ∷ []),
      string_one w,
      iri_one i,
    ) in
    string_marks w n (give early (take Carets c (iri_events s i (give q rest))))
    ∙ marked_give early (n + 1) (take Carets c (iri_events s i (give q rest)))
    ∙ ap (λ x. marked_at (n + 1) early ++ x) (iri_marks i s (n + 1 + 1) (give q rest) ∙ marked_give q (n + 1 + 1 + 1) rest
    ∙ ap (λ k. marked_at k q ++ event_quads k rest) size)
literal_marks (numeric (integer l)) s n j early q rest e = one_token n j early q rest e
literal_marks (numeric (decimal l)) s n j early q rest e = one_token n j early q rest e
literal_marks (numeric (double l)) s n j early q rest e = one_token n j early q rest e
literal_marks (boolean (true_word l)) s n j early q rest e = one_token n j early q rest e
literal_marks (boolean (false_word l)) s n j early q rest e = one_token n j early q rest e

-- the quad of a blank node has the number of its first token, also where it is ANON
blank_marks : (b : BlankNode) (n j : ℕ) (early q : Option Quad) (rest : List Event) → j ≡ n + length (blank_tokens b) →
    event_quads n (blank_object_events b early q rest) ≡ marked_at (n + 1) early ++ (marked_at (n + 1) q ++ event_quads j rest)
blank_marks (label l) n j early q rest e =
    marked_both early q (n + 1) rest ∙ ap (λ k. marked_at (n + 1) early ++ (marked_at (n + 1) q ++ event_quads k rest)) (sym e)
blank_marks (anon l r) n j early q rest e =
    let size : n + 1 + 1 ≡ j = omega (arith, e) in
    marked_both early q (n + 1) (take CloseBracket r rest) ∙ ap (λ k. marked_at (n + 1) early ++ (marked_at (n + 1) q ++ event_quads k rest)) size

-- what an object gives, where j tokens are after it
abbrev ObjectMarks : Setting → ℕ → ℕ → Option term.Subject → Option (List ℕ) → Option Quad → Object → List Event → Type 0
ObjectMarks c n j s p early o rest = event_quads n (object_events c o s p early rest) ≡ marked_at (n + 1) early
    ++ (own_quad c n s p o ++ (inner_quads c n o ++ event_quads j rest))

mutual
  object_marks : (o : Object) (c : Setting) (n j : ℕ) (s : Option term.Subject) (p : Option (List ℕ)) (early : Option Quad) (rest : List Event) →
      j ≡ n + length (object_tokens o) → ObjectMarks c n j s p early o rest
  object_marks (iri_object i) c n j s p early rest e =
      let q = object_quad c s p (iri_object i) in
      iri_marks i c.scope n (give early (give q rest)) ∙ marked_both early q (n + 1) rest
      ∙ ap (λ k. marked_at (n + 1) early ++ (marked_at (n + 1) q ++ event_quads k rest)) (sym (e ∙ ap (λ k. n + k) (iri_one i)))
  object_marks (blank_object b) c n j s p early rest e = blank_marks b n j early (object_quad c s p (blank_object b)) rest e
  object_marks (collection_object x) c n j s p early rest e = collection_marks x c n j early (object_quad c s p (collection_object x)) rest e
  object_marks (list_object x) c n j s p early rest e = list_marks x c n j early (object_quad c s p (list_object x)) rest e
  object_marks (literal_object x) c n j s p early rest e =
      literal_marks x c.scope n j early (object_quad c s p (literal_object x)) rest e
      ∙ ap (λ k. marked_at (n + 1) early ++ (marked_at k (object_quad c s p (literal_object x)) ++ event_quads j rest)) e

  collection_marks : (x : Collection) (c : Setting) (n j : ℕ) (early q : Option Quad) (rest : List Event) → j ≡ n + length (collection_tokens x) →
      event_quads n (collection_events c x early q rest) ≡ marked_at (n + 1) early ++ (marked_at (n + 1) q ++ (collection_quads c n x ++ event_quads j rest))
  collection_marks (collection l os r) c n j early q rest e =
      marked_both early q (n + 1) (items_events c os r rest)
      ∙ ap (λ x. marked_at (n + 1) early ++ (marked_at (n + 1) q ++ x))
      (items_marks os c (n + 1) j r rest (omega (arith, e, length-append (items_tokens os) (token CloseParen r ∷ []))))

  items_marks : (os : Items) (c : Setting) (n j : ℕ) (r : Leaf) (rest : List Event) → j ≡ n + length (items_tokens os) + 1 →
      event_quads n (items_events c os r rest) ≡ items_quads c n os ++ event_quads j rest
  items_marks no_items c n j r rest e = moved [] (n + 1) j rest (omega (arith, e))
  items_marks (item o os) c n j r rest e =
      let i = n + length (object_tokens o) in
      object_marks o c n i (node (cell_of o)) (Some (known_chars RdfFirst)) None (rest_events c os (cell_of o) r rest) refl
      ∙ ap (λ x. first_quad c n o ++ (inner_quads c n o ++ x))
      (rest_marks os c i j (cell_of o) r rest (omega (arith, e, length-append (object_tokens o) (items_tokens os))))
      ∙ simp append_assoc

  rest_marks : (os : Items) (c : Setting) (n j : ℕ) (cell : Node) (r : Leaf) (rest : List Event) → j ≡ n + length (items_tokens os) + 1 →
      event_quads n (rest_events c os cell r rest) ≡ marked_at (n + 1) (rest_quad c cell (items_of os)) ++ (items_quads c n os ++ event_quads j rest)
  rest_marks no_items c n j cell r rest e = marked_give (rest_quad c cell (items_of no_items)) (n + 1) rest
      ∙ moved (marked_at (n + 1) (rest_quad c cell (items_of no_items))) (n + 1) j rest (omega (arith, e))
  rest_marks (item o os) c n j cell r rest e =
      let i = n + length (object_tokens o) in
      let q = rest_quad c cell (items_of (item o os)) in
      object_marks o c n i (node (cell_of o)) (Some (known_chars RdfFirst)) q (rest_events c os (cell_of o) r rest) refl
      ∙ ap (λ x. marked_at (n + 1) q ++ (first_quad c n o ++ (inner_quads c n o ++ x)))
      (rest_marks os c i j (cell_of o) r rest (omega (arith, e, length-append (object_tokens o) (items_tokens os))))
      ∙ simp append_assoc

  list_marks : (x : BlankNodePropertyList) (c : Setting) (n j : ℕ) (early q : Option Quad) (rest : List Event) → j ≡ n + length (list_tokens x) →
      event_quads n (list_events c x early q rest) ≡ marked_at (n + 1) early ++ (marked_at (n + 1) q ++ (list_quads c n x ++ event_quads j rest))
  list_marks (property_list l ps r) c n j early q rest e =
      let i = n + 1 + length (predicates_tokens ps) in
      marked_both early q (n + 1) (predicates_events c ps (node (anon_at l)) (take CloseBracket r rest))
      ∙ ap (λ x. marked_at (n + 1) early ++ (marked_at (n + 1) q ++ x))
      (predicates_marks ps c (n + 1) i (node (anon_at l)) (take CloseBracket r rest) refl
      ∙ moved (predicates_quads c (n + 1) (node (anon_at l)) ps) (i + 1) j rest
      (omega (arith, e, length-append (predicates_tokens ps) (token CloseBracket r ∷ []))))

  predicates_marks : (ps : PredicateObjectList) (c : Setting) (n j : ℕ) (s : Option term.Subject) (rest : List Event) → j ≡ n + length (predicates_tokens ps) →
      event_quads n (predicates_events c ps s rest) ≡ predicates_quads c n s ps ++ event_quads j rest
  predicates_marks (predicate_objects v os m) c n j s rest e =
      let i = n + 1 + length (objects_tokens os) in
      verb_marks v c.scope n (objects_events c os s (verb_of c.scope v) (more_events c m s rest))
      ∙ objects_marks os c (n + 1) i s (verb_of c.scope v) (more_events c m s rest) refl
      ∙ ap (λ x. objects_quads c (n + 1) s (verb_of c.scope v) os ++ x)
      (more_marks m c i j s rest (omega (
        arith,
        e,
        verb_one v,
        length-append (verb_tokens v ++ objects_tokens os) (more_tokens m),
        length-append (verb_tokens v) (objects_tokens os),
      )))
      ∙ sym (append_assoc (objects_quads c (n + 1) s (verb_of c.scope v) os) (more_quads c i s m) (event_quads j rest))

  more_marks : (m : More) (c : Setting) (n j : ℕ) (s : Option term.Subject) (rest : List Event) → j ≡ n + length (more_tokens m) →
      event_quads n (more_events c m s rest) ≡ more_quads c n s m ++ event_quads j rest
  more_marks no_more c n j s rest e = moved [] n j rest (omega (arith, e))
  more_marks (semicolon l m) c n j s rest e = more_marks m c (n + 1) j s rest (omega (arith, e))
  more_marks (semicolon_objects l v os m) c n j s rest e =
      let i = n + 2 + length (objects_tokens os) in
      let two : n + 1 + 1 ≡ n + 2 = omega arith in
      verb_marks v c.scope (n + 1) (objects_events c os s (verb_of c.scope v) (more_events c m s rest))
      ∙ ap (λ k. event_quads k (objects_events c os s (verb_of c.scope v) (more_events c m s rest))) two
      ∙ objects_marks os c (n + 2) i s (verb_of c.scope v) (more_events c m s rest) refl
      ∙ ap (λ x. objects_quads c (n + 2) s (verb_of c.scope v) os ++ x)
      (more_marks m c i j s rest (omega (
        arith,
        e,
        verb_one v,
        length-append (verb_tokens v ++ objects_tokens os) (more_tokens m),
        length-append (verb_tokens v) (objects_tokens os),
      )))
      ∙ sym (append_assoc (objects_quads c (n + 2) s (verb_of c.scope v) os) (more_quads c i s m) (event_quads j rest))

  objects_marks : (os : ObjectList) (c : Setting) (n j : ℕ) (s : Option term.Subject) (p : Option (List ℕ)) (rest : List Event) →
      j ≡ n + length (objects_tokens os) →
      event_quads n (objects_events c os s p rest) ≡ objects_quads c n s p os ++ event_quads j rest
  objects_marks (objects o os) c n j s p rest e =
      let i = n + length (object_tokens o) in
      object_marks o c n i s p None (commas_events c os s p rest) refl
      ∙ ap (λ x. own_quad c n s p o ++ (inner_quads c n o ++ x))
      (commas_marks os c i j s p rest (omega (arith, e, length-append (object_tokens o) (commas_tokens os))))
      ∙ simp append_assoc

  commas_marks : (os : Commas) (c : Setting) (n j : ℕ) (s : Option term.Subject) (p : Option (List ℕ)) (rest : List Event) → j ≡ n + length (commas_tokens os) →
      event_quads n (commas_events c os s p rest) ≡ commas_quads c n s p os ++ event_quads j rest
  commas_marks no_commas c n j s p rest e = moved [] n j rest (omega (arith, e))
  commas_marks (comma l o os) c n j s p rest e =
      let i = n + 1 + length (object_tokens o) in
      object_marks o c (n + 1) i s p None (commas_events c os s p rest) refl
      ∙ ap (λ x. own_quad c (n + 1) s p o ++ (inner_quads c (n + 1) o ++ x))
      (commas_marks os c i j s p rest (omega (arith, e, length-append (object_tokens o) (commas_tokens os))))
      ∙ simp append_assoc

-- the quads of a predicate list that may be left out
maybe_marks : (ps : Option PredicateObjectList) (c : Setting) (n j : ℕ) (s : Option term.Subject) (rest : List Event) →
    j ≡ n + length (maybe_tokens predicates_tokens ps) →
    event_quads n (maybe_events c s ps rest) ≡ maybe_quads c n s ps ++ event_quads j rest
maybe_marks None c n j s rest e = moved [] n j rest (omega (arith, e))
maybe_marks (Some ps) c n j s rest e = predicates_marks ps c n j s rest e

-- the quads inside a subject
subject_marks : (x : Subject) (c : Setting) (n j : ℕ) (rest : List Event) → j ≡ n + length (subject_tokens x) →
    event_quads n (subject_events c x rest) ≡ subject_quads c n x ++ event_quads j rest
subject_marks (iri_subject i) c n j rest e = iri_marks i c.scope n rest ∙ moved [] (n + 1) j rest (omega (arith, e, iri_one i))
subject_marks (blank_subject b) c n j rest e = blank_marks b n j None None rest e
subject_marks (collection_subject x) c n j rest e = collection_marks x c n j None None rest e

-- the quads of a subject and its predicates
triples_marks : (t : Triples) (c : Setting) (n j : ℕ) (rest : List Event) → j ≡ n + length (triples_tokens t) →
    event_quads n (triples_events c t rest) ≡ triples_quads c n t ++ event_quads j rest
triples_marks (subject_triples x ps) c n j rest e =
    let i = n + length (subject_tokens x) in
    let s = subject_of c.scope x in
    subject_marks x c n i (predicates_events c ps s rest) refl
    ∙ ap (λ y. subject_quads c n x ++ y) (predicates_marks ps c i j s rest (omega (arith, e, length-append (subject_tokens x) (predicates_tokens ps))))
    ∙ sym (append_assoc (subject_quads c n x) (predicates_quads c i s ps) (event_quads j rest))
triples_marks (list_triples x ps) c n j rest e =
    let i = n + length (list_tokens x) in
    let s = Some (list_of x) in
    list_marks x c n i None None (maybe_events c s ps rest) refl
    ∙ ap (λ y. list_quads c n x ++ y) (maybe_marks ps c i j s rest (omega (arith, e, length-append (list_tokens x) (maybe_tokens predicates_tokens ps))))
    ∙ sym (append_assoc (list_quads c n x) (maybe_quads c i s ps) (event_quads j rest))

-- a label gives no quad
label_marks : (x : LabelOrSubject) (s : InForce) (n j : ℕ) (rest : List Event) → j ≡ n + length (label_tokens x) →
    event_quads n (label_events s x rest) ≡ event_quads j rest
label_marks (iri_label i) s n j rest e = iri_marks i s n rest ∙ moved [] (n + 1) j rest (omega (arith, e, iri_one i))
label_marks (blank_label b) s n j rest e = blank_marks b n j None None rest e

-- the same, with a token after the tree
dotted : (qs : List Marked) (n j i : ℕ) (k : Kind) (l : Leaf) (rest : List Event) → i ≡ j + 1 → qs ++ event_quads j (take k l rest) ≡ qs ++ event_quads i rest
dotted qs n j i k l rest e = moved qs (j + 1) i rest (sym e)

-- the quads of a block's triples
block_marks : (b : TriplesBlock) (c : Setting) (n j : ℕ) (rest : List Event) → j ≡ n + length (block_tokens b) →
    event_quads n (block_events c b rest) ≡ block_quads c n b ++ event_quads j rest
block_marks (last t) c n j rest e = triples_marks t c n j rest e
block_marks (last_dot t d) c n j rest e =
    let i = n + length (triples_tokens t) in
    triples_marks t c n i (take Dot d rest) refl ∙ dotted (triples_quads c n t) n i j Dot d rest
    (omega (arith, e, length-append (triples_tokens t) (token Dot d ∷ [])))
block_marks (dot t d b) c n j rest e =
    let i = n + length (triples_tokens t) in
    triples_marks t c n i (take Dot d (block_events c b rest)) refl
    ∙ ap (λ y. triples_quads c n t ++ y)
    (block_marks b c (i + 1) j rest (omega (
      arith,
      e,
      length-append (triples_tokens t ++ token Dot d ∷ []) (block_tokens b),
      length-append (triples_tokens t) (token Dot d ∷ []),
    )))
    ∙ sym (append_assoc (triples_quads c n t) (block_quads c (i + 1) b) (event_quads j rest))

-- the quads of a block that may be empty
maybe_block_marks : (b : Option TriplesBlock) (c : Setting) (n j : ℕ) (rest : List Event) → j ≡ n + length (maybe_tokens block_tokens b) →
    event_quads n (maybe_block_events c b rest) ≡ maybe_block c n b ++ event_quads j rest
maybe_block_marks None c n j rest e = moved [] n j rest (omega (arith, e))
maybe_block_marks (Some b) c n j rest e = block_marks b c n j rest e

-- the quads between '{' and '}'
wrapped_marks : (w : WrappedGraph) (c : Setting) (n j : ℕ) (rest : List Event) → j ≡ n + length (wrapped_tokens w) →
    event_quads n (wrapped_events c w rest) ≡ wrapped_quads c n w ++ event_quads j rest
wrapped_marks (wrapped l b r) c n j rest e =
    let i = n + 1 + length (maybe_tokens block_tokens b) in
    maybe_block_marks b c (n + 1) i (take CloseBrace r rest) refl
    ∙ dotted (maybe_block c (n + 1) b) n i j CloseBrace r rest (omega (arith, e, length-append (maybe_tokens block_tokens b) (token CloseBrace r ∷ [])))

-- the quads of a statement or a block
body_marks : (form : DocForm) (b : Body form) (s : InForce) (n j : ℕ) (rest : List Event) → j ≡ n + length (body_tokens form b) →
    event_quads n (body_events form s b rest) ≡ body_quads form s n b ++ event_quads j rest
body_marks Turtle b s n j rest e =
    let i = n + length (triples_tokens b.triples) in
    triples_marks b.triples (in_default s) n i (take Dot b.dot rest) refl
    ∙ dotted (triples_quads (in_default s) n b.triples) n i j Dot b.dot rest (omega (arith, e, length-append (triples_tokens b.triples) (token Dot b.dot ∷ [])))
body_marks TriG (triples_or_graph (named_graph x w)) s n j rest e =
    let i = n + length (label_tokens x) in
    let c = in_graph s (label_of s x) in
    label_marks x s n i (wrapped_events c w rest) refl ∙ wrapped_marks w c i j rest (omega (arith, e, length-append (label_tokens x) (wrapped_tokens w)))
body_marks TriG (triples_or_graph (label_triples x ps d)) s n j rest e =
    let i = n + length (label_tokens x) in
    let k = i + length (predicates_tokens ps) in
    label_marks x s n i (predicates_events (in_default s) ps (label_of s x) (take Dot d rest)) refl
    ∙ predicates_marks ps (in_default s) i k (label_of s x) (take Dot d rest) refl
    ∙ dotted (predicates_quads (in_default s) i (label_of s x) ps) n k j Dot d rest
    (omega (arith, e, length-append (label_tokens x ++ predicates_tokens ps) (token Dot d ∷ []), length-append (label_tokens x) (predicates_tokens ps)))
body_marks TriG (default_graph w) s n j rest e = wrapped_marks w (in_default s) n j rest e
body_marks TriG (triples2 (list_triples2 x ps d)) s n j rest e =
    let c = in_default s in
    let i = n + length (list_tokens x) in
    let k = i + length (maybe_tokens predicates_tokens ps) in
    list_marks x c n i None None (maybe_events c (Some (list_of x)) ps (take Dot d rest)) refl
    ∙ ap (λ y. list_quads c n x ++ y) (maybe_marks ps c i k (Some (list_of x)) (take Dot d rest) refl)
    ∙ sym (append_assoc (list_quads c n x) (maybe_quads c i (Some (list_of x)) ps) (event_quads k (take Dot d rest)))
    ∙ dotted (list_quads c n x ++ maybe_quads c i (Some (list_of x)) ps) n k j Dot d rest
    (omega (
      arith,
      e,
      length-append (list_tokens x ++ maybe_tokens predicates_tokens ps) (token Dot d ∷ []),
      length-append (list_tokens x) (maybe_tokens predicates_tokens ps),
    ))
body_marks TriG (triples2 (collection_triples2 x ps d)) s n j rest e =
    let c = in_default s in
    let i = n + length (collection_tokens x) in
    let k = i + length (predicates_tokens ps) in
    collection_marks x c n i None None (predicates_events c ps (Some (collection_of x)) (take Dot d rest)) refl
    ∙ ap (λ y. collection_quads c n x ++ y) (predicates_marks ps c i k (Some (collection_of x)) (take Dot d rest) refl)
    ∙ sym (append_assoc (collection_quads c n x) (predicates_quads c i (Some (collection_of x)) ps) (event_quads k (take Dot d rest)))
    ∙ dotted (collection_quads c n x ++ predicates_quads c i (Some (collection_of x)) ps) n k j Dot d rest
    (omega (
      arith,
      e,
      length-append (collection_tokens x ++ predicates_tokens ps) (token Dot d ∷ []),
      length-append (collection_tokens x) (predicates_tokens ps),
    ))
body_marks TriG (graph_word l x w) s n j rest e =
    let i = n + 1 + length (label_tokens x) in
    let c = in_graph s (label_of s x) in
    label_marks x s (n + 1) i (wrapped_events c w rest) refl ∙ wrapped_marks w c i j rest (omega (arith, e, length-append (label_tokens x) (wrapped_tokens w)))

-- a directive gives no quad
directive_marks : (d : Directive) (s : InForce) (n j : ℕ) (rest : List Event) → j ≡ n + length (directive_tokens d) →
    event_quads n (directive_events s d rest) ≡ event_quads j rest
directive_marks (prefix_id w p i d) s n j rest e = moved [] (n + 1 + 1 + 1 + 1) j rest (omega (arith, e))
directive_marks (base w i d) s n j rest e = moved [] (n + 1 + 1 + 1) j rest (omega (arith, e))
directive_marks (sparql_prefix w p i) s n j rest e = moved [] (n + 1 + 1 + 1) j rest (omega (arith, e))
directive_marks (sparql_base w i) s n j rest e = moved [] (n + 1 + 1) j rest (omega (arith, e))

-- the marks by the events of a document are those by its tree, as the law of events says
pub document_marks : {form : DocForm} (d : Document form) (s : InForce) (n : ℕ) → event_quads n (document_events s d) ≡ document_quads s n d
document_marks (end l) s n = refl
document_marks (with_directive d rest) s n =
    let j = n + length (directive_tokens d) in
    directive_marks d s n j (document_events (scope_after s d) rest) refl ∙ document_marks rest (scope_after s d) j
document_marks {form} (with_body b rest) s n =
    let j = n + length (body_tokens form b) in
    body_marks form b s n j (document_events s rest) refl ∙ ap (λ y. body_quads form s n b ++ y) (document_marks rest s j)

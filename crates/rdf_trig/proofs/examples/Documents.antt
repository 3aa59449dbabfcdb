-- Documents whose quads, with their marks, are computed from the definitions: from a list of tokens to what it means.
use Rattle.rdf_trig.proofs.Prelude.{◌≡◌, ◌≤◌, ℕ, Bool, true, List, [], ◌∷◌, ◌++◌, ◌&&◌, drop, Option, Some, None, refl, sym, ◌∙◌, codes, and_parts, Typed, Lang, Resource, resolved, IriRef, LabelNode, ShortString, LangTag, Carets, Dot, Integer, True, False, A, AtBase, Prefix, Base, Graph, PnameNs, PnameLn, Comma, OpenBracket, CloseBracket, OpenParen, CloseParen, OpenBrace, CloseBrace, End, Label, Anon, Cell, Blank, Term, Quad, known_chars, RdfType, RdfFirst, RdfRest, RdfNil, XsdString, XsdInteger, XsdBoolean, Token, Marked, InForce, bytes_held, Leaf, token, TriG, pname_ln, Iri, iri_ref, prefixed, label, anon, predicate, type_word, short, lang_tag, base_tag, plain, tagged, typed, integer, true_word, false_word, Literal, rdf, numeric, boolean, iri_object, blank_object, collection_object, list_object, literal_object, collection, no_items, item, property_list, predicate_objects, no_more, objects, no_commas, comma, iri_subject, blank_subject, collection_subject, subject_triples, list_triples, base, sparql_prefix, sparql_base, iri_label, blank_label, last, last_dot, dot, wrapped, named_graph, label_triples, triples_or_graph, default_graph, Document, end, with_directive, with_body, reference_in, name_in, is_full, Event, Took, Gave, document_events, event_quads, Bound, documents, document_held, held_after, Owed, OwedInAll, scope_size, most_held, encode}
use Rattle.std.proofs.Common.{take}
use Rattle.rdf_terms.specs.Classes.{has}
use Rattle.rdf_iri.specs.Parts.{parts_of}
use Rattle.rdf_iri.specs.Dots.{remove_dots, finish, step}
use Rattle.rdf_terms.specs.Terms as term
use Rattle.rdf_trig.specs.declared.form.DocForm.TheVariants.{Turtle}
use Rattle.rdf_trig.specs.Trees as tree
use Rattle.rdf_trig.proofs.machine.ClosingTokens.{has_iri}
use Rattle.rdf_trig.proofs.machine.ViableTokens.{use_bound}
use Rattle.rdf_trig.proofs.machine.OpenSizes.{held_is_settled}
use Rattle.rdf_trig.proofs.code.ScopeSizes.{scopes_alike}

abbrev pub leaf : List ℕ → ℕ → ℕ → Leaf
leaf w offset line = record { text = w; at = record { offset = offset; line = line } }

abbrev pub quad : term.Subject → List ℕ → Term → Option term.Subject → Quad
quad s p o g = record { subject = s; predicate = p; object = o; graph = g }

abbrev pub at : ℕ → Quad → Marked
at n q = record { item = q; mark = n }

-- no base, no bindings, and the limits that a reader has if nothing else is said
abbrev pub start : InForce
start = record { base = None; bindings = []; limits = record { token = 16777216; depth = 1024; bindings = 65536; iri = 1048576 } }

abbrev all_named : List Event → Bool
all_named [] = true
all_named (Took t u ∷ es) = has_iri u && all_named es
all_named (Gave q ∷ es) = all_named es

named_bound : (es : List Event) → all_named es ≡ true → Bound es
named_bound [] h = tt
named_bound (Took t u ∷ es) h = let p = and_parts (has_iri u) (all_named es) h in (use_bound u p.0, named_bound es p.1)
named_bound (Gave q ∷ es) h = named_bound es h

-- A prefix, a property list with a collection of numbers in it: `PREFIX : <http://e/>` and `:s :p [ :q ( 1 2 ) ] .` on the next line.
abbrev pub nested_tokens : List Token
nested_tokens =
    token Prefix (leaf (codes "PREFIX") 0 1) ∷ token PnameNs (leaf (codes ":") 7 1) ∷ token IriRef (leaf (codes "<http://e/>") 9 1) ∷
    token PnameLn (leaf (codes ":s") 21 2) ∷ token PnameLn (leaf (codes ":p") 24 2) ∷ token OpenBracket (leaf (codes "[") 27 2) ∷
    token PnameLn (leaf (codes ":q") 29 2) ∷ token OpenParen (leaf (codes "(") 32 2) ∷ token Integer (leaf (codes "1") 34 2) ∷
    token Integer (leaf (codes "2") 36 2) ∷ token CloseParen (leaf (codes ")") 38 2) ∷ token CloseBracket (leaf (codes "]") 40 2) ∷
    token Dot (leaf (codes ".") 42 2) ∷ token End (leaf (codes "") 43 2) ∷ []

abbrev pub nested_tree : Document TriG
nested_tree =
    with_directive (sparql_prefix (leaf (codes "PREFIX") 0 1) (leaf (codes ":") 7 1) (leaf (codes "<http://e/>") 9 1)) (with_body
    (triples_or_graph (label_triples (iri_label (prefixed (pname_ln (leaf (codes ":s") 21 2)))) (predicate_objects (predicate (prefixed
    (pname_ln (leaf (codes ":p") 24 2)))) (objects (list_object (property_list (leaf (codes "[") 27 2) (predicate_objects (predicate
    (prefixed (pname_ln (leaf (codes ":q") 29 2)))) (objects (collection_object (collection (leaf (codes "(") 32 2) (item (literal_object
    (numeric (integer (leaf (codes "1") 34 2)))) (item (literal_object (numeric (integer (leaf (codes "2") 36 2)))) no_items)) (leaf
    (codes ")") 38 2))) no_commas) no_more) (leaf (codes "]") 40 2))) no_commas) no_more) (leaf (codes ".") 42 2))) (end (leaf
    (codes "") 43 2)))

abbrev pub nested_quads : List Marked
nested_quads =
    at 6 (quad (term.Iri (codes "http://e/s")) (codes "http://e/p") (Resource (Blank (Anon 27))) None) ∷
    at 8 (quad (Blank (Anon 27)) (codes "http://e/q") (Resource (Blank (Cell 34))) None) ∷
    at 9 (quad (Blank (Cell 34)) (known_chars RdfFirst) (term.Literal (codes "1") (Typed (known_chars XsdInteger))) None) ∷
    at 10 (quad (Blank (Cell 34)) (known_chars RdfRest) (Resource (Blank (Cell 36))) None) ∷
    at 10 (quad (Blank (Cell 36)) (known_chars RdfFirst) (term.Literal (codes "2") (Typed (known_chars XsdInteger))) None) ∷
    at 11 (quad (Blank (Cell 36)) (known_chars RdfRest) (Resource (term.Iri (known_chars RdfNil))) None) ∷ []

pub nested_is : documents TriG start nested_tokens nested_quads
unfolding reference_in name_in resolved is_full has
nested_is = (nested_tree, refl, named_bound (document_events start nested_tree) refl, refl)

-- Two booleans in a collection: `S P (truefalse) .`, where S is `<http://a/s>` and P is `<http://a/p>` here and below.
abbrev pub booleans_tokens : List Token
booleans_tokens =
    token IriRef (leaf (codes "<http://a/s>") 0 1) ∷ token IriRef (leaf (codes "<http://a/p>") 13 1) ∷ token OpenParen (leaf (codes "(") 26 1) ∷
    token True (leaf (codes "true") 27 1) ∷ token False (leaf (codes "false") 31 1) ∷ token CloseParen (leaf (codes ")") 36 1) ∷
    token Dot (leaf (codes ".") 38 1) ∷ token End (leaf (codes "") 39 1) ∷ []

abbrev pub booleans_tree : Document TriG
booleans_tree =
    with_body (triples_or_graph (label_triples (iri_label (iri_ref (leaf (codes "<http://a/s>") 0 1))) (predicate_objects (predicate
    (iri_ref (leaf (codes "<http://a/p>") 13 1))) (objects (collection_object (collection (leaf (codes "(") 26 1) (item (literal_object
    (boolean (true_word (leaf (codes "true") 27 1)))) (item (literal_object (boolean (false_word (leaf (codes "false") 31 1)))) no_items))
    (leaf (codes ")") 36 1))) no_commas) no_more) (leaf (codes ".") 38 1))) (end (leaf (codes "") 39 1))

abbrev pub booleans_quads : List Marked
booleans_quads =
    at 3 (quad (term.Iri (codes "http://a/s")) (codes "http://a/p") (Resource (Blank (Cell 27))) None) ∷
    at 4 (quad (Blank (Cell 27)) (known_chars RdfFirst) (term.Literal (codes "true") (Typed (known_chars XsdBoolean))) None) ∷
    at 5 (quad (Blank (Cell 27)) (known_chars RdfRest) (Resource (Blank (Cell 31))) None) ∷
    at 5 (quad (Blank (Cell 31)) (known_chars RdfFirst) (term.Literal (codes "false") (Typed (known_chars XsdBoolean))) None) ∷
    at 6 (quad (Blank (Cell 31)) (known_chars RdfRest) (Resource (term.Iri (known_chars RdfNil))) None) ∷ []

pub booleans_is : documents TriG start booleans_tokens booleans_quads
unfolding reference_in name_in resolved is_full has
booleans_is = (booleans_tree, refl, named_bound (document_events start booleans_tree) refl, refl)

-- A block with a label: `<http://g/> { S P S }`.
abbrev pub labelled_block_tokens : List Token
labelled_block_tokens =
    token IriRef (leaf (codes "<http://g/>") 0 1) ∷ token OpenBrace (leaf (codes "{") 12 1) ∷ token IriRef (leaf (codes "<http://a/s>") 14 1) ∷
    token IriRef (leaf (codes "<http://a/p>") 27 1) ∷ token IriRef (leaf (codes "<http://a/s>") 40 1) ∷ token CloseBrace (leaf (codes "}") 53 1) ∷
    token End (leaf (codes "") 54 1) ∷ []

abbrev pub labelled_block_tree : Document TriG
labelled_block_tree =
    with_body (triples_or_graph (named_graph (iri_label (iri_ref (leaf (codes "<http://g/>") 0 1))) (wrapped (leaf (codes "{") 12 1) (Some
    (last (subject_triples (iri_subject (iri_ref (leaf (codes "<http://a/s>") 14 1))) (predicate_objects (predicate (iri_ref (leaf
    (codes "<http://a/p>") 27 1))) (objects (iri_object (iri_ref (leaf (codes "<http://a/s>") 40 1))) no_commas) no_more)))) (leaf
    (codes "}") 53 1)))) (end (leaf (codes "") 54 1))

abbrev pub labelled_block_quads : List Marked
labelled_block_quads =
    at 5 (quad (term.Iri (codes "http://a/s")) (codes "http://a/p") (Resource (term.Iri (codes "http://a/s"))) (Some (term.Iri (codes "http://g/")))) ∷ []

pub labelled_block_is : documents TriG start labelled_block_tokens labelled_block_quads
unfolding reference_in name_in resolved is_full has
labelled_block_is = (labelled_block_tree, refl, named_bound (document_events start labelled_block_tree) refl, refl)

-- An empty block, and a graph without a name: `{ } GRAPH [] { S P S }`.
abbrev pub unnamed_graph_tokens : List Token
unnamed_graph_tokens =
    token OpenBrace (leaf (codes "{") 0 1) ∷ token CloseBrace (leaf (codes "}") 2 1) ∷ token Graph (leaf (codes "GRAPH") 4 1) ∷
    token OpenBracket (leaf (codes "[") 10 1) ∷ token CloseBracket (leaf (codes "]") 11 1) ∷ token OpenBrace (leaf (codes "{") 13 1) ∷
    token IriRef (leaf (codes "<http://a/s>") 15 1) ∷ token IriRef (leaf (codes "<http://a/p>") 28 1) ∷ token IriRef (leaf (codes "<http://a/s>") 41 1) ∷
    token CloseBrace (leaf (codes "}") 54 1) ∷ token End (leaf (codes "") 55 1) ∷ []

abbrev pub unnamed_graph_tree : Document TriG
unnamed_graph_tree =
    with_body (default_graph (wrapped (leaf (codes "{") 0 1) None (leaf (codes "}") 2 1))) (with_body (tree.graph_word (leaf
    (codes "GRAPH") 4 1) (blank_label (anon (leaf (codes "[") 10 1) (leaf (codes "]") 11 1))) (wrapped (leaf (codes "{") 13 1) (Some (last
    (subject_triples (iri_subject (iri_ref (leaf (codes "<http://a/s>") 15 1))) (predicate_objects (predicate (iri_ref (leaf
    (codes "<http://a/p>") 28 1))) (objects (iri_object (iri_ref (leaf (codes "<http://a/s>") 41 1))) no_commas) no_more)))) (leaf
    (codes "}") 54 1))) (end (leaf (codes "") 55 1)))

abbrev pub unnamed_graph_quads : List Marked
unnamed_graph_quads =
    at 9 (quad (term.Iri (codes "http://a/s")) (codes "http://a/p") (Resource (term.Iri (codes "http://a/s"))) (Some (Blank (Anon 10)))) ∷ []

pub unnamed_graph_is : documents TriG start unnamed_graph_tokens unnamed_graph_quads
unfolding reference_in name_in resolved is_full has
unnamed_graph_is = (unnamed_graph_tree, refl, named_bound (document_events start unnamed_graph_tree) refl, refl)

-- An empty collection in a collection: `S P ( "a" ( ) ) .`.
abbrev pub inner_collection_tokens : List Token
inner_collection_tokens =
    token IriRef (leaf (codes "<http://a/s>") 0 1) ∷ token IriRef (leaf (codes "<http://a/p>") 13 1) ∷ token OpenParen (leaf (codes "(") 26 1) ∷
    token ShortString (leaf (codes "\"a\"") 28 1) ∷ token OpenParen (leaf (codes "(") 32 1) ∷ token CloseParen (leaf (codes ")") 34 1) ∷
    token CloseParen (leaf (codes ")") 36 1) ∷ token Dot (leaf (codes ".") 38 1) ∷ token End (leaf (codes "") 39 1) ∷ []

abbrev pub inner_collection_tree : Document TriG
inner_collection_tree =
    with_body (triples_or_graph (label_triples (iri_label (iri_ref (leaf (codes "<http://a/s>") 0 1))) (predicate_objects (predicate
    (iri_ref (leaf (codes "<http://a/p>") 13 1))) (objects (collection_object (collection (leaf (codes "(") 26 1) (item (literal_object (rdf
    (plain (short (leaf (codes "\"a\"") 28 1))))) (item (collection_object (collection (leaf (codes "(") 32 1) no_items (leaf
    (codes ")") 34 1))) no_items)) (leaf (codes ")") 36 1))) no_commas) no_more) (leaf (codes ".") 38 1))) (end (leaf (codes "") 39 1))

abbrev pub inner_collection_quads : List Marked
inner_collection_quads =
    at 3 (quad (term.Iri (codes "http://a/s")) (codes "http://a/p") (Resource (Blank (Cell 28))) None) ∷
    at 4 (quad (Blank (Cell 28)) (known_chars RdfFirst) (term.Literal (codes "a") (Typed (known_chars XsdString))) None) ∷
    at 5 (quad (Blank (Cell 28)) (known_chars RdfRest) (Resource (Blank (Cell 32))) None) ∷
    at 5 (quad (Blank (Cell 32)) (known_chars RdfFirst) (Resource (term.Iri (known_chars RdfNil))) None) ∷
    at 7 (quad (Blank (Cell 32)) (known_chars RdfRest) (Resource (term.Iri (known_chars RdfNil))) None) ∷ []

pub inner_collection_is : documents TriG start inner_collection_tokens inner_collection_quads
unfolding reference_in name_in resolved is_full has
inner_collection_is = (inner_collection_tree, refl, named_bound (document_events start inner_collection_tree) refl, refl)

-- A collection as subject, in Turtle: `( S ) P [] , () .`.
abbrev pub list_subject_tokens : List Token
list_subject_tokens =
    token OpenParen (leaf (codes "(") 0 1) ∷ token IriRef (leaf (codes "<http://a/s>") 2 1) ∷ token CloseParen (leaf (codes ")") 15 1) ∷
    token IriRef (leaf (codes "<http://a/p>") 17 1) ∷ token OpenBracket (leaf (codes "[") 30 1) ∷ token CloseBracket (leaf (codes "]") 31 1) ∷
    token Comma (leaf (codes ",") 33 1) ∷ token OpenParen (leaf (codes "(") 35 1) ∷ token CloseParen (leaf (codes ")") 36 1) ∷
    token Dot (leaf (codes ".") 38 1) ∷ token End (leaf (codes "") 39 1) ∷ []

abbrev pub list_subject_tree : Document Turtle
list_subject_tree =
    with_body record {
      triples = subject_triples (collection_subject (collection (leaf (codes "(") 0 1) (item (iri_object (iri_ref (leaf
          (codes "<http://a/s>") 2 1))) no_items) (leaf (codes ")") 15 1))) (predicate_objects (predicate (iri_ref (leaf
          (codes "<http://a/p>") 17 1))) (objects (blank_object (anon (leaf (codes "[") 30 1) (leaf (codes "]") 31 1))) (comma (leaf
          (codes ",") 33 1) (collection_object (collection (leaf (codes "(") 35 1) no_items (leaf (codes ")") 36 1))) no_commas)) no_more);
      dot =
          (leaf (codes ".") 38 1);
    } (end (leaf (codes "") 39 1))

abbrev pub list_subject_quads : List Marked
list_subject_quads =
    at 2 (quad (Blank (Cell 2)) (known_chars RdfFirst) (Resource (term.Iri (codes "http://a/s"))) None) ∷
    at 3 (quad (Blank (Cell 2)) (known_chars RdfRest) (Resource (term.Iri (known_chars RdfNil))) None) ∷
    at 5 (quad (Blank (Cell 2)) (codes "http://a/p") (Resource (Blank (Anon 30))) None) ∷
    at 8 (quad (Blank (Cell 2)) (codes "http://a/p") (Resource (term.Iri (known_chars RdfNil))) None) ∷ []

pub list_subject_is : documents Turtle start list_subject_tokens list_subject_quads
unfolding reference_in name_in resolved is_full has
list_subject_is = (list_subject_tree, refl, named_bound (document_events start list_subject_tree) refl, refl)

-- A property list in a collection, in Turtle: `S P ( [ P S ] 1 ) .`.
abbrev pub list_in_collection_tokens : List Token
list_in_collection_tokens =
    token IriRef (leaf (codes "<http://a/s>") 0 1) ∷ token IriRef (leaf (codes "<http://a/p>") 13 1) ∷ token OpenParen (leaf (codes "(") 26 1) ∷
    token OpenBracket (leaf (codes "[") 28 1) ∷ token IriRef (leaf (codes "<http://a/p>") 30 1) ∷ token IriRef (leaf (codes "<http://a/s>") 43 1) ∷
    token CloseBracket (leaf (codes "]") 56 1) ∷ token Integer (leaf (codes "1") 58 1) ∷ token CloseParen (leaf (codes ")") 60 1) ∷
    token Dot (leaf (codes ".") 62 1) ∷ token End (leaf (codes "") 63 1) ∷ []

abbrev pub list_in_collection_tree : Document Turtle
list_in_collection_tree =
    with_body record {
      triples = subject_triples (iri_subject (iri_ref (leaf (codes "<http://a/s>") 0 1))) (predicate_objects (predicate
          (iri_ref (leaf (codes "<http://a/p>") 13 1))) (objects (collection_object (collection (leaf (codes "(") 26 1) (item (list_object
          (property_list (leaf (codes "[") 28 1) (predicate_objects (predicate (iri_ref (leaf (codes "<http://a/p>") 30 1))) (objects (iri_object
          (iri_ref (leaf (codes "<http://a/s>") 43 1))) no_commas) no_more) (leaf (codes "]") 56 1))) (item (literal_object (numeric (integer
          (leaf (codes "1") 58 1)))) no_items)) (leaf (codes ")") 60 1))) no_commas) no_more);
      dot = (leaf (codes ".") 62 1);
    } (end (leaf
    (codes "") 63 1))

abbrev pub list_in_collection_quads : List Marked
list_in_collection_quads =
    at 3 (quad (term.Iri (codes "http://a/s")) (codes "http://a/p") (Resource (Blank (Cell 28))) None) ∷
    at 4 (quad (Blank (Cell 28)) (known_chars RdfFirst) (Resource (Blank (Anon 28))) None) ∷
    at 6 (quad (Blank (Anon 28)) (codes "http://a/p") (Resource (term.Iri (codes "http://a/s"))) None) ∷
    at 8 (quad (Blank (Cell 28)) (known_chars RdfRest) (Resource (Blank (Cell 58))) None) ∷
    at 8 (quad (Blank (Cell 58)) (known_chars RdfFirst) (term.Literal (codes "1") (Typed (known_chars XsdInteger))) None) ∷
    at 9 (quad (Blank (Cell 58)) (known_chars RdfRest) (Resource (term.Iri (known_chars RdfNil))) None) ∷ []

pub list_in_collection_is : documents Turtle start list_in_collection_tokens list_in_collection_quads
unfolding reference_in name_in resolved is_full has
list_in_collection_is = (list_in_collection_tree, refl, named_bound (document_events start list_in_collection_tree) refl, refl)

-- One label in and outside of a block: `<http://g/> { _:x P S . } _:x P S .`.
abbrev pub one_label_tokens : List Token
one_label_tokens =
    token IriRef (leaf (codes "<http://g/>") 0 1) ∷ token OpenBrace (leaf (codes "{") 12 1) ∷ token LabelNode (leaf (codes "_:x") 14 1) ∷
    token IriRef (leaf (codes "<http://a/p>") 18 1) ∷ token IriRef (leaf (codes "<http://a/s>") 31 1) ∷ token Dot (leaf (codes ".") 44 1) ∷
    token CloseBrace (leaf (codes "}") 46 1) ∷ token LabelNode (leaf (codes "_:x") 48 1) ∷ token IriRef (leaf (codes "<http://a/p>") 52 1) ∷
    token IriRef (leaf (codes "<http://a/s>") 65 1) ∷ token Dot (leaf (codes ".") 78 1) ∷ token End (leaf (codes "") 79 1) ∷ []

abbrev pub one_label_tree : Document TriG
one_label_tree =
    with_body (triples_or_graph (named_graph (iri_label (iri_ref (leaf (codes "<http://g/>") 0 1))) (wrapped (leaf (codes "{") 12 1) (Some
    (last_dot (subject_triples (blank_subject (label (leaf (codes "_:x") 14 1))) (predicate_objects (predicate (iri_ref (leaf
    (codes "<http://a/p>") 18 1))) (objects (iri_object (iri_ref (leaf (codes "<http://a/s>") 31 1))) no_commas) no_more)) (leaf
    (codes ".") 44 1))) (leaf (codes "}") 46 1)))) (with_body (triples_or_graph (label_triples (blank_label (label (leaf
    (codes "_:x") 48 1))) (predicate_objects (predicate (iri_ref (leaf (codes "<http://a/p>") 52 1))) (objects (iri_object (iri_ref (leaf
    (codes "<http://a/s>") 65 1))) no_commas) no_more) (leaf (codes ".") 78 1))) (end (leaf (codes "") 79 1)))

abbrev pub one_label_quads : List Marked
one_label_quads =
    at 5 (quad (Blank (Label (codes "x"))) (codes "http://a/p") (Resource (term.Iri (codes "http://a/s"))) (Some (term.Iri (codes "http://g/")))) ∷
    at 10 (quad (Blank (Label (codes "x"))) (codes "http://a/p") (Resource (term.Iri (codes "http://a/s"))) None) ∷ []

pub one_label_is : documents TriG start one_label_tokens one_label_quads
unfolding reference_in name_in resolved is_full has
one_label_is = (one_label_tree, refl, named_bound (document_events start one_label_tree) refl, refl)

-- A block after GRAPH: `GRAPH <http://g/> { [ P S ] . S P ( ) }`.
abbrev pub word_and_label_tokens : List Token
word_and_label_tokens =
    token Graph (leaf (codes "GRAPH") 0 1) ∷ token IriRef (leaf (codes "<http://g/>") 6 1) ∷ token OpenBrace (leaf (codes "{") 18 1) ∷
    token OpenBracket (leaf (codes "[") 20 1) ∷ token IriRef (leaf (codes "<http://a/p>") 22 1) ∷ token IriRef (leaf (codes "<http://a/s>") 35 1) ∷
    token CloseBracket (leaf (codes "]") 48 1) ∷ token Dot (leaf (codes ".") 50 1) ∷ token IriRef (leaf (codes "<http://a/s>") 52 1) ∷
    token IriRef (leaf (codes "<http://a/p>") 65 1) ∷ token OpenParen (leaf (codes "(") 78 1) ∷ token CloseParen (leaf (codes ")") 80 1) ∷
    token CloseBrace (leaf (codes "}") 82 1) ∷ token End (leaf (codes "") 83 1) ∷ []

abbrev pub word_and_label_tree : Document TriG
word_and_label_tree =
    with_body (tree.graph_word (leaf (codes "GRAPH") 0 1) (iri_label (iri_ref (leaf (codes "<http://g/>") 6 1))) (wrapped (leaf
    (codes "{") 18 1) (Some (dot (list_triples (property_list (leaf (codes "[") 20 1) (predicate_objects (predicate (iri_ref (leaf
    (codes "<http://a/p>") 22 1))) (objects (iri_object (iri_ref (leaf (codes "<http://a/s>") 35 1))) no_commas) no_more) (leaf
    (codes "]") 48 1)) None) (leaf (codes ".") 50 1) (last (subject_triples (iri_subject (iri_ref (leaf (codes "<http://a/s>") 52 1)))
    (predicate_objects (predicate (iri_ref (leaf (codes "<http://a/p>") 65 1))) (objects (collection_object (collection (leaf
    (codes "(") 78 1) no_items (leaf (codes ")") 80 1))) no_commas) no_more))))) (leaf (codes "}") 82 1))) (end (leaf (codes "") 83 1))

abbrev pub word_and_label_quads : List Marked
word_and_label_quads =
    at 6 (quad (Blank (Anon 20)) (codes "http://a/p") (Resource (term.Iri (codes "http://a/s"))) (Some (term.Iri (codes "http://g/")))) ∷
    at 11 (quad (term.Iri (codes "http://a/s")) (codes "http://a/p") (Resource (term.Iri (known_chars RdfNil))) (Some (term.Iri (codes "http://g/")))) ∷ []

pub word_and_label_is : documents TriG start word_and_label_tokens word_and_label_quads
unfolding reference_in name_in resolved is_full has
word_and_label_is = (word_and_label_tree, refl, named_bound (document_events start word_and_label_tree) refl, refl)

-- A base, and a second one that is resolved against it, in Turtle: `BASE <http://h/b/> <s> a <t> . @base <c/> . <s> a <t> .`.
abbrev pub bases_tokens : List Token
bases_tokens =
    token Base (leaf (codes "BASE") 0 1) ∷ token IriRef (leaf (codes "<http://h/b/>") 5 1) ∷ token IriRef (leaf (codes "<s>") 19 1) ∷
    token A (leaf (codes "a") 23 1) ∷ token IriRef (leaf (codes "<t>") 25 1) ∷ token Dot (leaf (codes ".") 29 1) ∷ token AtBase (leaf (codes "@base") 31 1) ∷
    token IriRef (leaf (codes "<c/>") 37 1) ∷ token Dot (leaf (codes ".") 42 1) ∷ token IriRef (leaf (codes "<s>") 44 1) ∷ token A (leaf (codes "a") 48 1) ∷
    token IriRef (leaf (codes "<t>") 50 1) ∷ token Dot (leaf (codes ".") 54 1) ∷ token End (leaf (codes "") 55 1) ∷ []

abbrev pub bases_tree : Document Turtle
bases_tree =
    with_directive (sparql_base (leaf (codes "BASE") 0 1) (leaf (codes "<http://h/b/>") 5 1)) (with_body record {
      triples = subject_triples
          (iri_subject (iri_ref (leaf (codes "<s>") 19 1))) (predicate_objects (type_word (leaf (codes "a") 23 1)) (objects (iri_object (iri_ref
          (leaf (codes "<t>") 25 1))) no_commas) no_more);
      dot = (leaf (codes ".") 29 1);
    } (with_directive (base (leaf (codes "@base") 31 1) (leaf
    (codes "<c/>") 37 1) (leaf (codes ".") 42 1)) (with_body record {
      triples = subject_triples (iri_subject (iri_ref (leaf
          (codes "<s>") 44 1))) (predicate_objects (type_word (leaf (codes "a") 48 1)) (objects (iri_object (iri_ref (leaf
          (codes "<t>") 50 1))) no_commas) no_more);
      dot = (leaf (codes ".") 54 1);
    } (end (leaf (codes "") 55 1)))))

abbrev pub bases_quads : List Marked
bases_quads =
    at 5 (quad (term.Iri (codes "http://h/b/s")) (known_chars RdfType) (Resource (term.Iri (codes "http://h/b/t"))) None) ∷
    at 12 (quad (term.Iri (codes "http://h/b/c/s")) (known_chars RdfType) (Resource (term.Iri (codes "http://h/b/c/t"))) None) ∷ []

pub bases_is : documents Turtle start bases_tokens bases_quads
unfolding reference_in name_in resolved is_full has parts_of remove_dots finish step
bases_is = (bases_tree, refl, named_bound (document_events start bases_tree) refl, refl)

-- A prefix that is bound anew: `PREFIX x: <http://x/> x:s x:p x:o . PREFIX x: <http://y/> x:s x:p x:o .`.
abbrev pub rebound_tokens : List Token
rebound_tokens =
    token Prefix (leaf (codes "PREFIX") 0 1) ∷ token PnameNs (leaf (codes "x:") 7 1) ∷ token IriRef (leaf (codes "<http://x/>") 10 1) ∷
    token PnameLn (leaf (codes "x:s") 22 1) ∷ token PnameLn (leaf (codes "x:p") 26 1) ∷ token PnameLn (leaf (codes "x:o") 30 1) ∷
    token Dot (leaf (codes ".") 34 1) ∷ token Prefix (leaf (codes "PREFIX") 36 1) ∷ token PnameNs (leaf (codes "x:") 43 1) ∷
    token IriRef (leaf (codes "<http://y/>") 46 1) ∷ token PnameLn (leaf (codes "x:s") 58 1) ∷ token PnameLn (leaf (codes "x:p") 62 1) ∷
    token PnameLn (leaf (codes "x:o") 66 1) ∷ token Dot (leaf (codes ".") 70 1) ∷ token End (leaf (codes "") 71 1) ∷ []

abbrev pub rebound_tree : Document TriG
rebound_tree =
    with_directive (sparql_prefix (leaf (codes "PREFIX") 0 1) (leaf (codes "x:") 7 1) (leaf (codes "<http://x/>") 10 1)) (with_body
    (triples_or_graph (label_triples (iri_label (prefixed (pname_ln (leaf (codes "x:s") 22 1)))) (predicate_objects (predicate (prefixed
    (pname_ln (leaf (codes "x:p") 26 1)))) (objects (iri_object (prefixed (pname_ln (leaf (codes "x:o") 30 1)))) no_commas) no_more) (leaf
    (codes ".") 34 1))) (with_directive (sparql_prefix (leaf (codes "PREFIX") 36 1) (leaf (codes "x:") 43 1) (leaf
    (codes "<http://y/>") 46 1)) (with_body (triples_or_graph (label_triples (iri_label (prefixed (pname_ln (leaf (codes "x:s") 58 1))))
    (predicate_objects (predicate (prefixed (pname_ln (leaf (codes "x:p") 62 1)))) (objects (iri_object (prefixed (pname_ln (leaf
    (codes "x:o") 66 1)))) no_commas) no_more) (leaf (codes ".") 70 1))) (end (leaf (codes "") 71 1)))))

abbrev pub rebound_quads : List Marked
rebound_quads =
    at 6 (quad (term.Iri (codes "http://x/s")) (codes "http://x/p") (Resource (term.Iri (codes "http://x/o"))) None) ∷
    at 13 (quad (term.Iri (codes "http://y/s")) (codes "http://y/p") (Resource (term.Iri (codes "http://y/o"))) None) ∷ []

pub rebound_is : documents TriG start rebound_tokens rebound_quads
unfolding reference_in name_in resolved is_full has
rebound_is = (rebound_tree, refl, named_bound (document_events start rebound_tree) refl, refl)

-- Strings with tags and with a type, in Turtle: `S P "A"@base , "b"@en , "c"^^<a:t> .`.
abbrev pub strings_tokens : List Token
strings_tokens =
    token IriRef (leaf (codes "<http://a/s>") 0 1) ∷ token IriRef (leaf (codes "<http://a/p>") 13 1) ∷ token ShortString (leaf (codes "\"A\"") 26 1) ∷
    token AtBase (leaf (codes "@base") 29 1) ∷ token Comma (leaf (codes ",") 35 1) ∷ token ShortString (leaf (codes "\"b\"") 37 1) ∷
    token LangTag (leaf (codes "@en") 40 1) ∷ token Comma (leaf (codes ",") 44 1) ∷ token ShortString (leaf (codes "\"c\"") 46 1) ∷
    token Carets (leaf (codes "^^") 49 1) ∷ token IriRef (leaf (codes "<a:t>") 51 1) ∷ token Dot (leaf (codes ".") 57 1) ∷ token End (leaf (codes "") 58 1) ∷ []

abbrev pub strings_tree : Document Turtle
strings_tree =
    with_body record {
      triples = subject_triples (iri_subject (iri_ref (leaf (codes "<http://a/s>") 0 1))) (predicate_objects (predicate
          (iri_ref (leaf (codes "<http://a/p>") 13 1))) (objects (literal_object (rdf (tagged (short (leaf (codes "\"A\"") 26 1)) (base_tag (leaf
          (codes "@base") 29 1))))) (comma (leaf (codes ",") 35 1) (literal_object (rdf (tagged (short (leaf (codes "\"b\"") 37 1)) (lang_tag
          (leaf (codes "@en") 40 1))))) (comma (leaf (codes ",") 44 1) (literal_object (rdf (typed (short (leaf (codes "\"c\"") 46 1)) (leaf
          (codes "^^") 49 1) (iri_ref (leaf (codes "<a:t>") 51 1))))) no_commas))) no_more);
      dot = (leaf (codes ".") 57 1);
    } (end (leaf
    (codes "") 58 1))

abbrev pub strings_quads : List Marked
strings_quads =
    at 4 (quad (term.Iri (codes "http://a/s")) (codes "http://a/p") (term.Literal (codes "A") (Lang (codes "base"))) None) ∷
    at 7 (quad (term.Iri (codes "http://a/s")) (codes "http://a/p") (term.Literal (codes "b") (Lang (codes "en"))) None) ∷
    at 11 (quad (term.Iri (codes "http://a/s")) (codes "http://a/p") (term.Literal (codes "c") (Typed (codes "a:t"))) None) ∷ []

pub strings_is : documents Turtle start strings_tokens strings_quads
unfolding reference_in name_in resolved is_full has
strings_is = (strings_tree, refl, named_bound (document_events start strings_tree) refl, refl)

-- What is owed in `S P [ P ( ) ] .`: after the parenthesis that opens, subject and verb of the statement and the verb of the property list; after the
-- bracket that closes, those of the statement; after the dot nothing.
abbrev pub open_tokens : List Token
open_tokens =
    token IriRef (leaf (codes "<http://a/s>") 0 1) ∷ token IriRef (leaf (codes "<http://a/p>") 13 1) ∷ token OpenBracket (leaf (codes "[") 26 1) ∷
    token IriRef (leaf (codes "<http://a/p>") 28 1) ∷ token OpenParen (leaf (codes "(") 41 1) ∷ token CloseParen (leaf (codes ")") 43 1) ∷
    token CloseBracket (leaf (codes "]") 45 1) ∷ token Dot (leaf (codes ".") 47 1) ∷ token End (leaf (codes "") 48 1) ∷ []

abbrev pub open_tree : Document TriG
open_tree =
    with_body (triples_or_graph (label_triples (iri_label (iri_ref (leaf (codes "<http://a/s>") 0 1))) (predicate_objects (predicate
    (iri_ref (leaf (codes "<http://a/p>") 13 1))) (objects (list_object (property_list (leaf (codes "[") 26 1) (predicate_objects (predicate
    (iri_ref (leaf (codes "<http://a/p>") 28 1))) (objects (collection_object (collection (leaf (codes "(") 41 1) no_items (leaf
    (codes ")") 43 1))) no_commas) no_more) (leaf (codes "]") 45 1))) no_commas) no_more) (leaf (codes ".") 47 1))) (end (leaf
    (codes "") 48 1))

open_bound : Bound (document_events start open_tree)
unfolding reference_in name_in resolved is_full has
open_bound = named_bound (document_events start open_tree) refl

owed_by : (k size : ℕ) → take k open_tokens ++ drop k open_tokens ≡ open_tokens →
    held_after 0 (take k open_tokens) (document_held (λ s. 0) start open_tree) ≡ size → Owed TriG start (take k open_tokens) size
unfolding reference_in resolved has
owed_by k size e h = record { tree = open_tree; more = drop k open_tokens; tokens = e; bound = open_bound; held = h }

pub owed_inside : Owed TriG start (take 5 open_tokens) 30
unfolding reference_in name_in resolved is_full has encode
owed_inside = owed_by 5 30 refl refl

pub owed_after : Owed TriG start (take 7 open_tokens) 20
unfolding reference_in name_in resolved is_full has encode
owed_after = owed_by 7 20 refl refl

pub owed_not : Owed TriG start (take 8 open_tokens) 0
unfolding reference_in name_in resolved is_full has encode
owed_not = owed_by 8 0 refl refl

-- and in no other document that begins so another amount
pub owed_alone : (size : ℕ) → Owed TriG start (take 5 open_tokens) size → size ≡ 30
unfolding reference_in name_in resolved is_full has encode
owed_alone size o =
    let settled = held_is_settled (λ s. 0) TriG start (take 5 open_tokens) (
      drop 5 open_tokens,
      event_quads 0 (document_events start open_tree),
      (open_tree, refl, open_bound, refl),
    ) in
    settled.2 size o ∙ sym (settled.2 30 owed_inside)

-- with a base of ten bytes and a prefix of ten, its IRI included, so many more have to be held
abbrev pub started : InForce
started = record start { base = Some (codes "http://a/b"); bindings = (codes "x", codes "http://x/") ∷ [] }

pub owed_in_all : OwedInAll TriG started (take 5 open_tokens) 50
unfolding reference_in name_in resolved is_full has encode
owed_in_all = record { tree = open_tree; more = drop 5 open_tokens; tokens = refl; bound = named_bound (document_events started open_tree) refl; held = refl }

-- a reader holds no less of it
pub started_within : scope_size started ≤ bytes_held started
started_within = (scopes_alike started started record { base = refl; limits = refl; bound = λ q. refl; count = refl }).1

-- the most that may be held, for two sets of limits
pub most_of_some : most_held (record { token = 16; depth = 2; bindings = 1; iri = 64 }) ≡ 839
most_of_some = refl

pub most_of_least : most_held (record { token = 1; depth = 0; bindings = 0; iri = 1 }) ≡ 32
most_of_least = refl

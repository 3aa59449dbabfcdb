-- A tree's tokens are read, with its events.
use Rattle.rdf_trig.proofs.Prelude.{◌≡◌, ℕ, List, [], ◌∷◌, Option, Some, None, refl, sym, ap, ◌∙◌, Kind, IriRef, LabelNode, ShortString, LongString, LangTag, Carets, Dot, Integer, Decimal, Double, True, False, A, AtPrefix, AtBase, Prefix, Base, Graph, PnameNs, PnameLn, Semicolon, Comma, OpenBracket, CloseBracket, OpenParen, CloseParen, OpenBrace, CloseBrace, End, Anon, Cell, Blank, Quad, Token, InForce, Leaf, leaf_of, token, DocForm, TriG, pname_ln, pname_ns, Iri, iri_ref, prefixed, BlankNode, label, anon, Verb, predicate, type_word, short, long, Tag, lang_tag, base_tag, prefix_tag, plain, tagged, typed, integer, decimal, double, true_word, false_word, Literal, rdf, numeric, boolean, Object, iri_object, blank_object, collection_object, list_object, literal_object, Collection, collection, Items, no_items, item, BlankNodePropertyList, property_list, PredicateObjectList, predicate_objects, More, no_more, semicolon, semicolon_objects, ObjectList, objects, Commas, no_commas, comma, iri_subject, blank_subject, collection_subject, Triples, subject_triples, list_triples, prefix_id, base, sparql_prefix, sparql_base, LabelOrSubject, iri_label, blank_label, TriplesBlock, last, last_dot, dot, WrappedGraph, wrapped, named_graph, label_triples, list_triples2, collection_triples2, triples_or_graph, default_graph, triples2, Body, Document, end, with_directive, with_body, reference_in, name_in, iri_in, scope_after, Setting, in_default, in_graph, named, node, resource, anon_at, blank_of, lexical, plain_literal, tagged_literal, typed_literal, literal_of, iri_leaf, string_leaf, literal_leaf, object_leaf, cell_at, items_of, collection_of, list_of, label_of, rest_quad, Use, itself, stands, Event, Took, give, iri_events, verb_events, string_events, tag_events, blank_object_events, literal_events, object_events, collection_events, items_events, rest_events, list_events, predicates_events, more_events, objects_events, commas_events, maybe_events, triples_events, label_events, block_events, maybe_block_events, wrapped_events, body_events, document_events, Topic, Spelt, sized, unsized, spelt, verb_in, Top, InBlock, Listed, InCollection, Around, Statement, InPropertyList, Up, At, Start, AfterLabel, GraphWord, WantBrace, Inside, Want, After, AfterText, WantType, PropertyListStart, CollectionStart, WantVerb, AfterSemicolon, AfterPropertyList, Reply, No, Go, goes, cell, subject_at, verb_at, quad_at, quad_up, nil, object_start, verb_start, after_subject, collection_closed, subject_start, waiting, fronted, put, go_on, run}
use Rattle.rdf_trig.specs.declared.form.DocForm.TheVariants.{Turtle}
use Rattle.rdf_trig.specs.Trees.{String}
use Rattle.rdf_trig.specs.Trees as tree
use Rattle.rdf_trig.specs.Quads.{language}
use Rattle.rdf_trig.specs.Events.{take, object_quad, tokens}
use Rattle.rdf_trig.specs.Machine.{Level, Place, Subject, Mode, after, step}
use Rattle.rdf_trig.proofs.trees.TokensOfEvents.{tokens_give}

module _ (form : DocForm) where
  -- the run from a state takes these events' tokens, and has these events
  pub record Good (c : Setting) (m : Mode) (es : List Event) : Type 0 where
    pub runs : run form c m (tokens es) ≡ Some es

  one : (k : Kind) (l : Leaf) (before : Option Quad) (u : Use)
      (early now : Option Quad) {c : Setting} {m : Mode} {c' : Setting} {m' : Mode} {rest : List Event} →
      waiting c m k l ≡ before → step form c m k l ≡ Go u early now c' m' → Good c' m' rest →
      Good c m (give before (Took (token k l) u ∷ give early (give now rest)))
  one k l before u early now {c} {m} {c'} {m'} {rest} w s g = record {
    runs =
        rw (tokens_give before (Took (token k l) u ∷ give early (give now rest)), tokens_give early (give now rest), tokens_give now rest)
        (ap (λ b. fronted b (go_on (token k l) (step form c m k l) (λ c1 m1. run form c1 m1 (tokens rest)))) w
        ∙ ap (λ r. fronted before (go_on (token k l) r (λ c1 m1. run form c1 m1 (tokens rest)))) s
        ∙ ap (λ o. fronted before (put (token k l) u early now o)) g.runs);
  }

  alone : (k : Kind) (l : Leaf) {c : Setting} {m : Mode} {c' : Setting} {m' : Mode} {rest : List Event} → waiting c m k l ≡ None →
      step form c m k l ≡ goes c' m' → Good c' m' rest → Good c m (take k l rest)
  alone k l w s g = one k l None itself None None w s g

  -- A string's quad waits for the token after it.
  shift : (q : Option Quad) (o : Option (List Event)) (es : List Event) → fronted None o ≡ Some es → fronted q o ≡ Some (give q es)
  shift q None es e = absurd (let z : None ≡ Some es = e in cc)
  shift q (Some fs) es e = let z : fs ≡ es = cc in ap (λ x. Some (give q x)) z

  -- no tag, and no type
  pub no_tag : (c : Setting) (p : Place) (l : Leaf) →
      (after c p LangTag l ≡ No) × (after c p AtBase l ≡ No) × (after c p AtPrefix l ≡ No) × (after c p Carets l ≡ No)
  no_tag c (Listed s v (Statement Top)) l = (refl, refl, refl, refl)
  no_tag c (Listed s v (Statement InBlock)) l = (refl, refl, refl, refl)
  no_tag c (Listed s v (InPropertyList u)) l = (refl, refl, refl, refl)
  no_tag c (InCollection f n u) l = (refl, refl, refl, refl)

  dead : {T : Type 0} (r : Reply) (t : Token) (next : Setting → Mode → Option (List Event)) (es : List Event) → r ≡ No →
      fronted None (go_on t r next) ≡ Some es → T
  dead r t next es n e = absurd (let h = ap (λ x. fronted None (go_on t x next)) n in let z : None ≡ Some es = sym h ∙ e in cc)

  text_step : (c : Setting) (w : List ℕ) (p : Place) (k : Kind) (l : Leaf) (ts : List Token) (es : List Event) →
      run form c (After p) (token k l ∷ ts) ≡ Some es →
      run form c (AfterText w p) (token k l ∷ ts) ≡ Some (give (quad_at c p (plain_literal w)) es)
  text_step c w p LangTag l ts es e = dead (after c p LangTag l) (token LangTag l) (λ c' m'. run form c' m' ts) es (no_tag c p l).0 e
  text_step c w p AtBase l ts es e = dead (after c p AtBase l) (token AtBase l) (λ c' m'. run form c' m' ts) es (no_tag c p l).1 e
  text_step c w p AtPrefix l ts es e = dead (after c p AtPrefix l) (token AtPrefix l) (λ c' m'. run form c' m' ts) es (no_tag c p l).2 e
  text_step c w p Carets l ts es e = dead (after c p Carets l) (token Carets l) (λ c' m'. run form c' m' ts) es (no_tag c p l).3 e
  text_step c w p k l ts es e = shift _ _ es e

  pub text_run : (c : Setting) (w : List ℕ) (p : Place) (ts : List Token) (es : List Event) → run form c (After p) ts ≡ Some es →
      run form c (AfterText w p) ts ≡ Some (give (quad_at c p (plain_literal w)) es)
  text_run c w p [] es e = absurd (let z : None ≡ Some es = e in cc)
  text_run c w p (t ∷ ts) es e = text_step c w p t.kind (leaf_of t) ts es e

  text_good : {c : Setting} {p : Place} {rest : List Event} (w : List ℕ) → Good c (After p) rest →
      Good c (AfterText w p) (give (quad_at c p (plain_literal w)) rest)
  text_good {c} {p} {rest} w g = record { runs = rw (tokens_give (quad_at c p (plain_literal w)) rest) (text_run c w p (tokens rest) rest g.runs) }

  -- The state takes a name, whose first token is this, and stands after it where it says.
  pub record TakesIri (c : Setting) (m : Mode) (s : InForce) (before early : Option Quad) (now : Option (List ℕ) → Option Quad)
      (c' : Setting) (next : Option (List ℕ) → Mode) (l : Leaf) : Type 0 where
    pub waits : (waiting c m IriRef l ≡ before) × (waiting c m PnameLn l ≡ before) × (waiting c m PnameNs l ≡ before)
    pub ref : step form c m IriRef l ≡ Go (stands (reference_in s l)) early (now (reference_in s l)) c' (next (reference_in s l))
    pub ln : step form c m PnameLn l ≡ Go (stands (name_in s l)) early (now (name_in s l)) c' (next (name_in s l))
    pub ns : step form c m PnameNs l ≡ Go (stands (name_in s l)) early (now (name_in s l)) c' (next (name_in s l))

  iri_good : (i : Iri) (c : Setting) (m : Mode) (s : InForce) (before early : Option Quad) (now : Option (List ℕ) → Option Quad) (c' : Setting)
      (next : Option (List ℕ) → Mode) (rest : List Event) →
      TakesIri c m s before early now c' next (iri_leaf i) → Good c' (next (iri_in s i)) rest →
      Good c m (give before (iri_events s i (give early (give (now (iri_in s i)) rest))))
  iri_good (iri_ref l) c m s before early now c' next rest h g = one IriRef l before _ early _ h.waits.0 h.ref g
  iri_good (prefixed (pname_ln l)) c m s before early now c' next rest h g = one PnameLn l before _ early _ h.waits.1 h.ln g
  iri_good (prefixed (pname_ns l)) c m s before early now c' next rest h g = one PnameNs l before _ early _ h.waits.2 h.ns g

  -- a state that takes an object at this place, whose first token is this
  abbrev pub Starts : Setting → Mode → Place → Option Quad → Option Quad → Kind → Leaf → Type 0
  Starts c m p before early k l = (waiting c m k l ≡ before) × (step form c m k l ≡ object_start c p early k l)

  pub record TakesObject (c : Setting) (m : Mode) (p : Place) (before early : Option Quad) (l : Leaf) : Type 0 where
    pub iri : TakesIri c m c.scope before early (λ i. quad_at c p (resource (named i))) c (λ i. After p) l
    pub label : Starts c m p before early LabelNode l
    pub short : Starts c m p before early ShortString l
    pub long : Starts c m p before early LongString l
    pub integer : Starts c m p before early Integer l
    pub decimal : Starts c m p before early Decimal l
    pub double : Starts c m p before early Double l
    pub true_word : Starts c m p before early True l
    pub false_word : Starts c m p before early False l
    pub property_list_start : Starts c m p before early OpenBracket l
    pub list : Starts c m p before early OpenParen l

  pub want_takes : (c : Setting) (p : Place) (l : Leaf) → TakesObject c (Want p) p None None l
  want_takes c p l = record {
    iri = record { waits = (refl, refl, refl); ref = refl; ln = refl; ns = refl };
    label = (refl, refl);
    short = (refl, refl);
    long = (refl, refl);
    integer = (refl, refl);
    decimal = (refl, refl);
    double = (refl, refl);
    true_word = (refl, refl);
    false_word = (refl, refl);
    property_list_start = (refl, refl);
    list = (refl, refl);
  }

  pub collection_start_takes : (c : Setting) (u : Up) (l : Leaf) → TakesObject c (CollectionStart u)
      (InCollection l.at.offset l.at.offset u) (quad_up c u (Blank (cell_at l))) None l
  collection_start_takes c u l = record {
    iri = record { waits = (refl, refl, refl); ref = refl; ln = refl; ns = refl };
    label = (refl, refl);
    short = (refl, refl);
    long = (refl, refl);
    integer = (refl, refl);
    decimal = (refl, refl);
    double = (refl, refl);
    true_word = (refl, refl);
    false_word = (refl, refl);
    property_list_start = (refl, refl);
    list = (refl, refl);
  }

  pub item_takes : (c : Setting) (f n : ℕ) (u : Up) (l : Leaf) →
      TakesObject c (After (InCollection f n u)) (InCollection f l.at.offset u) None (rest_quad c (Cell n) (Blank (cell_at l))) l
  item_takes c f n u l = record {
    iri = record { waits = (refl, refl, refl); ref = refl; ln = refl; ns = refl };
    label = (refl, refl);
    short = (refl, refl);
    long = (refl, refl);
    integer = (refl, refl);
    decimal = (refl, refl);
    double = (refl, refl);
    true_word = (refl, refl);
    false_word = (refl, refl);
    property_list_start = (refl, refl);
    list = (refl, refl);
  }

  pub record TakesVerb (c : Setting) (m : Mode) (s : Topic) (a : Around) : Type 0 where
    pub iri : (l : Leaf) → TakesIri c m c.scope None None (λ i. None) c (λ i. Want (Listed s (spelt i) a)) l
    pub type : (l : Leaf) → (waiting c m A l ≡ None) × (step form c m A l ≡ verb_start c s a A l)

  -- a token that ends a predicate list, and the state after it
  pub record Ends (c : Setting) (s : Topic) (a : Around) (k : Kind) (l : Leaf) (c' : Setting) (m' : Mode) : Type 0 where
    pub after : (p : Spelt) → step form c (After (Listed s p a)) k l ≡ goes c' m'
    pub after_semicolon : step form c (AfterSemicolon s a) k l ≡ goes c' m'

  verb_good : (v : Verb) (c : Setting) (m : Mode) (s : Topic) (a : Around) (rest : List Event) → TakesVerb c m s a →
      Good c (Want (Listed s (verb_in c.scope v) a)) rest → Good c m (verb_events c.scope v rest)
  verb_good (predicate i) c m s a rest h g = iri_good i c m c.scope None None (λ i. None) c (λ i. Want (Listed s (spelt i) a)) rest (h.iri (iri_leaf i)) g
  verb_good (type_word l) c m s a rest h g = alone A l (h.type l).0 (h.type l).1 g

  string_good : (w : String) (c : Setting) (m : Mode) (p : Place) (before early : Option Quad) (rest : List Event) →
      TakesObject c m p before early (string_leaf w) →
      Good c (AfterText (lexical w) p) rest → Good c m (give before (string_events w (give early rest)))
  string_good (short l) c m p before early rest h g = one ShortString l before itself early None h.short.0 h.short.1 g
  string_good (long l) c m p before early rest h g = one LongString l before itself early None h.long.0 h.long.1 g

  tag_good : (t : Tag) (c : Setting) (w : List ℕ) (p : Place) (rest : List Event) → Good c (After p) rest →
      Good c (AfterText w p) (tag_events t (give (quad_at c p (tagged_literal w (language t))) rest))
  tag_good (lang_tag l) c w p rest g = one LangTag l None itself None _ refl refl g
  tag_good (base_tag l) c w p rest g = one AtBase l None itself None _ refl refl g
  tag_good (prefix_tag l) c w p rest g = one AtPrefix l None itself None _ refl refl g

  pub type_takes : (c : Setting) (w : List ℕ) (p : Place) (l : Leaf) →
      TakesIri c (WantType w p) c.scope None None (λ i. quad_at c p (typed_literal w i)) c (λ i. After p) l
  type_takes c w p l = record { waits = (refl, refl, refl); ref = refl; ln = refl; ns = refl }

  literal_good : (x : Literal) (c : Setting) (m : Mode) (p : Place) (before early : Option Quad) (rest : List Event) →
      TakesObject c m p before early (literal_leaf x) → Good c (After p) rest →
      Good c m (give before (literal_events c.scope x early (quad_at c p (literal_of c.scope x)) rest))
  literal_good (rdf (plain w)) c m p before early rest h g = string_good w c m p before early _ h (text_good (lexical w) g)
  literal_good (rdf (tagged w t)) c m p before early rest h g = string_good w c m p before early _ h (tag_good t c (lexical w) p rest g)
  literal_good (rdf (typed w l i)) c m p before early rest h g =
      string_good w c m p before early _ h
      (alone Carets l refl refl (iri_good i c (WantType (lexical w) p) c.scope None None (λ j. quad_at c p (typed_literal (lexical w) j)) c
      (λ j. After p) rest (type_takes c (lexical w) p (iri_leaf i)) g))
  literal_good (numeric (integer l)) c m p before early rest h g = one Integer l before itself early _ h.integer.0 h.integer.1 g
  literal_good (numeric (decimal l)) c m p before early rest h g = one Decimal l before itself early _ h.decimal.0 h.decimal.1 g
  literal_good (numeric (double l)) c m p before early rest h g = one Double l before itself early _ h.double.0 h.double.1 g
  literal_good (boolean (true_word l)) c m p before early rest h g = one True l before itself early _ h.true_word.0 h.true_word.1 g
  literal_good (boolean (false_word l)) c m p before early rest h g = one False l before itself early _ h.false_word.0 h.false_word.1 g

  pub brackets_verb : (c : Setting) (n : ℕ) (u : Up) → TakesVerb c (PropertyListStart n u) (sized (node (Anon n))) (InPropertyList u)
  brackets_verb c n u = record { iri = λ l. record { waits = (refl, refl, refl); ref = refl; ln = refl; ns = refl }; type = λ l. (refl, refl) }

  pub semicolon_verb : (c : Setting) (s : Topic) (a : Around) → TakesVerb c (AfterSemicolon s a) s a
  semicolon_verb c s a = record { iri = λ l. record { waits = (refl, refl, refl); ref = refl; ln = refl; ns = refl }; type = λ l. (refl, refl) }

  pub want_verb : (c : Setting) (s : Topic) (a : Around) → TakesVerb c (WantVerb s a) s a
  want_verb c s a = record { iri = λ l. record { waits = (refl, refl, refl); ref = refl; ln = refl; ns = refl }; type = λ l. (refl, refl) }

  mutual
    object_good : (o : Object) (c : Setting) (m : Mode) (p : Place) (before early : Option Quad) (rest : List Event) →
        TakesObject c m p before early (object_leaf o) → Good c (After p) rest →
        Good c m (give before (object_events c o (subject_at p) (verb_at p) early rest))
    object_good (iri_object i) c m p before early rest h g =
        iri_good i c m c.scope before early (λ j. quad_at c p (resource (named j))) c (λ j. After p) rest h.iri g
    object_good (blank_object (label l)) c m p before early rest h g = one LabelNode l before itself early _ h.label.0 h.label.1 g
    object_good (blank_object (anon l r)) c m p before early rest h g =
        one OpenBracket l before itself early _ h.property_list_start.0 h.property_list_start.1 (alone CloseBracket r refl refl g)
    object_good (collection_object os) c m p before early rest h g = collection_object_good os c m p before early rest h g
    object_good (list_object ps) c m p before early rest h g = list_object_good ps c m p before early rest h g
    object_good (literal_object x) c m p before early rest h g = literal_good x c m p before early rest h g

    collection_object_good : (os : Collection) (c : Setting) (m : Mode) (p : Place) (before early : Option Quad) (rest : List Event) →
        TakesObject c m p before early (object_leaf (collection_object os)) →
        Good c (After p) rest → Good c m (give before (collection_events c os early (object_quad c (subject_at p) (verb_at p) (collection_object os)) rest))
    collection_object_good (collection l os r) c m p before early rest h g =
        one OpenParen l before itself early None h.list.0 h.list.1 (items_good os c (At p) r rest g)

    list_object_good : (ps : BlankNodePropertyList) (c : Setting) (m : Mode) (p : Place) (before early : Option Quad) (rest : List Event) →
        TakesObject c m p before early (object_leaf (list_object ps)) →
        Good c (After p) rest → Good c m (give before (list_events c ps early (object_quad c (subject_at p) (verb_at p) (list_object ps)) rest))
    list_object_good (property_list l ps r) c m p before early rest h g =
        one OpenBracket l before itself early _ h.property_list_start.0 h.property_list_start.1
        (predicates_good ps c (PropertyListStart l.at.offset (At p)) (sized (node (anon_at l))) (InPropertyList (At p)) CloseBracket r c
        (After p) rest (brackets_verb c l.at.offset (At p)) record { after = λ v. refl; after_semicolon = refl } g)

    items_good : (os : Items) (c : Setting) (u : Up) (r : Leaf) (rest : List Event) → Good c (collection_closed u (unsized (Some (items_of os)))) rest →
        Good c (CollectionStart u) (give (quad_up c u (items_of os)) (items_events c os r rest))
    items_good no_items c u r rest g = one CloseParen r (quad_up c u nil) itself None None refl refl g
    items_good (item o os) c u r rest g =
        let l = object_leaf o in
        object_good o c (CollectionStart u) (InCollection l.at.offset l.at.offset u) (quad_up c u (Blank (cell_at l))) None _
        (collection_start_takes c u l) (rest_good os c l.at.offset l.at.offset u r rest g)

    rest_good : (os : Items) (c : Setting) (f n : ℕ) (u : Up) (r : Leaf) (rest : List Event) → Good c (collection_closed u (unsized (cell f))) rest →
        Good c (After (InCollection f n u)) (rest_events c os (Cell n) r rest)
    rest_good no_items c f n u r rest g = one CloseParen r None itself None (rest_quad c (Cell n) nil) refl refl g
    rest_good (item o os) c f n u r rest g =
        let l = object_leaf o in
        object_good o c (After (InCollection f n u)) (InCollection f l.at.offset u) None (rest_quad c (Cell n) (Blank (cell_at l))) _
        (item_takes c f n u l) (rest_good os c f l.at.offset u r rest g)

    predicates_good : (ps : PredicateObjectList) (c : Setting) (m : Mode) (s : Topic) (a : Around) (k : Kind) (l : Leaf) (c' : Setting)
        (m' : Mode) (rest : List Event) →
        TakesVerb c m s a → Ends c s a k l c' m' → Good c' m' rest → Good c m (predicates_events c ps s.term (take k l rest))
    predicates_good (predicate_objects v os ms) c m s a k l c' m' rest h e g =
        verb_good v c m s a _ h (objects_good os c s (verb_in c.scope v) a _ (more_good ms c s (verb_in c.scope v) a k l c' m' rest e g))

    objects_good : (os : ObjectList) (c : Setting) (s : Topic) (v : Spelt) (a : Around) (rest : List Event) →
        Good c (After (Listed s v a)) rest →
        Good c (Want (Listed s v a)) (objects_events c os s.term v.iri rest)
    objects_good (objects o os) c s v a rest g = object_good o c (Want (Listed s v a)) (Listed s v a) None None _
        (want_takes c (Listed s v a) (object_leaf o)) (commas_good os c s v a rest g)

    commas_good : (os : Commas) (c : Setting) (s : Topic) (v : Spelt) (a : Around) (rest : List Event) →
        Good c (After (Listed s v a)) rest →
        Good c (After (Listed s v a)) (commas_events c os s.term v.iri rest)
    commas_good no_commas c s v a rest g = g
    commas_good (comma l o os) c s v a rest g =
        alone Comma l refl refl (object_good o c (Want (Listed s v a)) (Listed s v a) None None _
        (want_takes c (Listed s v a) (object_leaf o)) (commas_good os c s v a rest g))

    more_good : (ms : More) (c : Setting) (s : Topic) (v : Spelt) (a : Around) (k : Kind) (l : Leaf) (c' : Setting)
        (m' : Mode) (rest : List Event) →
        Ends c s a k l c' m' → Good c' m' rest →
        Good c (After (Listed s v a)) (more_events c ms s.term (take k l rest))
    more_good no_more c s v a k l c' m' rest e g = alone k l refl (e.after v) g
    more_good (semicolon d ms) c s v a k l c' m' rest e g = alone Semicolon d refl refl (semicolon_good ms c s a k l c' m' rest e g)
    more_good (semicolon_objects d w os ms) c s v a k l c' m' rest e g =
        alone Semicolon d refl refl (verb_good w c (AfterSemicolon s a) s a _ (semicolon_verb c s a)
        (objects_good os c s (verb_in c.scope w) a _ (more_good ms c s (verb_in c.scope w) a k l c' m' rest e g)))

    semicolon_good : (ms : More) (c : Setting) (s : Topic) (a : Around) (k : Kind) (l : Leaf) (c' : Setting) (m' : Mode) (rest : List Event) →
        Ends c s a k l c' m' → Good c' m' rest →
        Good c (AfterSemicolon s a) (more_events c ms s.term (take k l rest))
    semicolon_good no_more c s a k l c' m' rest e g = alone k l refl e.after_semicolon g
    semicolon_good (semicolon d ms) c s a k l c' m' rest e g = alone Semicolon d refl refl (semicolon_good ms c s a k l c' m' rest e g)
    semicolon_good (semicolon_objects d w os ms) c s a k l c' m' rest e g =
        alone Semicolon d refl refl (verb_good w c (AfterSemicolon s a) s a _ (semicolon_verb c s a)
        (objects_good os c s (verb_in c.scope w) a _ (more_good ms c s (verb_in c.scope w) a k l c' m' rest e g)))

  -- a state that takes the subject of triples
  pub record TakesSubject (c0 : Setting) (m : Mode) (c : Setting) (v : Level) : Type 0 where
    pub iri : (l : Leaf) → TakesIri c0 m c.scope None None (λ i. None) c (λ i. after_subject form v (sized (named i))) l
    pub label : (l : Leaf) → (waiting c0 m LabelNode l ≡ None) × (step form c0 m LabelNode l ≡ subject_start form c v LabelNode l)
    pub property_list_start : (l : Leaf) → (waiting c0 m OpenBracket l ≡ None) × (step form c0 m OpenBracket l ≡ subject_start form c v OpenBracket l)
    pub list : (l : Leaf) → (waiting c0 m OpenParen l ≡ None) × (step form c0 m OpenParen l ≡ subject_start form c v OpenParen l)

  pub record EndsTriples (c : Setting) (v : Level) (k : Kind) (l : Leaf) (c' : Setting) (m' : Mode) : Type 0 where
    pub list : (s : Topic) → Ends c s (Statement v) k l c' m'
    pub property_list_start : (s : Topic) → step form c (AfterPropertyList s v) k l ≡ goes c' m'

  pub label_verb : (c : Setting) (s : Topic) → TakesVerb c (AfterLabel s) s (Statement Top)
  label_verb c s = record { iri = λ l. record { waits = (refl, refl, refl); ref = refl; ln = refl; ns = refl }; type = λ l. (refl, refl) }

  pub brackets_then_verb : (c : Setting) (s : Topic) (v : Level) → TakesVerb c (AfterPropertyList s v) s (Statement v)
  brackets_then_verb c s v = record { iri = λ l. record { waits = (refl, refl, refl); ref = refl; ln = refl; ns = refl }; type = λ l. (refl, refl) }

  maybe_good : (ps : Option PredicateObjectList) (c : Setting) (s : Topic) (v : Level) (k : Kind) (l : Leaf) (c' : Setting) (m' : Mode)
      (rest : List Event) →
      EndsTriples c v k l c' m' → Good c' m' rest →
      Good c (AfterPropertyList s v) (maybe_events c s.term ps (take k l rest))
  maybe_good None c s v k l c' m' rest e g = alone k l refl (e.property_list_start s) g
  maybe_good (Some ps) c s v k l c' m' rest e g =
      predicates_good ps c (AfterPropertyList s v) s (Statement v) k l c' m' rest (brackets_then_verb c s v) (e.list s) g

  list_good : (p : BlankNodePropertyList) (c0 : Setting) (m : Mode) (c : Setting) (v : Level) (rest : List Event) → TakesSubject c0 m c v →
      Good c (AfterPropertyList (sized (Some (list_of p))) v) rest → Good c0 m (list_events c p None None rest)
  list_good (property_list l ps r) c0 m c v rest h g =
      alone OpenBracket l (h.property_list_start l).0 (h.property_list_start l).1
      (predicates_good ps c (PropertyListStart l.at.offset (Subject v)) (sized (node (anon_at l))) (InPropertyList (Subject v)) CloseBracket
      r c (AfterPropertyList (sized (node (anon_at l))) v) rest
      (brackets_verb c l.at.offset (Subject v)) record { after = λ x. refl; after_semicolon = refl } g)

  collection_good : (x : Collection) (c0 : Setting) (m : Mode) (c : Setting) (v : Level) (rest : List Event) → TakesSubject c0 m c v →
      Good c (WantVerb (unsized (Some (collection_of x))) (Statement v)) rest →
      Good c0 m (collection_events c x None None rest)
  collection_good (collection l os r) c0 m c v rest h g = alone OpenParen l (h.list l).0 (h.list l).1 (items_good os c (Subject v) r rest g)

  blank_good : (b : BlankNode) (c0 : Setting) (m : Mode) (c : Setting) (v : Level) (rest : List Event) → TakesSubject c0 m c v →
      Good c (after_subject form v (sized (node (blank_of b)))) rest →
      Good c0 m (blank_object_events b None None rest)
  blank_good (label l) c0 m c v rest h g = alone LabelNode l (h.label l).0 (h.label l).1 g
  blank_good (anon l r) c0 m c v rest h g = alone OpenBracket l (h.property_list_start l).0 (h.property_list_start l).1 (alone CloseBracket r refl refl g)

-- after a subject a verb may come, in both forms
pub subject_verb : (form : DocForm) (v : Level) (c : Setting) (s : Topic) → TakesVerb form c (after_subject form v s) s (Statement v)
subject_verb form InBlock c s = want_verb form c s (Statement InBlock)
subject_verb Turtle Top c s = want_verb Turtle c s (Statement Top)
subject_verb TriG Top c s = label_verb TriG c s

module _ (form : DocForm) where
  triples_good : (t : Triples) (c0 : Setting) (m : Mode) (c : Setting) (v : Level) (k : Kind) (l : Leaf) (c' : Setting) (m' : Mode) (rest : List Event) →
      TakesSubject form c0 m c v → EndsTriples form c v k l c' m' →
      Good form c' m' rest → Good form c0 m (triples_events c t (take k l rest))
  triples_good (subject_triples (iri_subject i) ps) c0 m c v k l c' m' rest h e g =
      let s = sized (named (iri_in c.scope i)) in
      iri_good form i c0 m c.scope None None (λ j. None) c (λ j. after_subject form v (sized (named j))) _ (h.iri (iri_leaf i))
      (predicates_good form ps c (after_subject form v s) s (Statement v) k l c' m' rest (subject_verb form v c s) (e.list s) g)
  triples_good (subject_triples (blank_subject b) ps) c0 m c v k l c' m' rest h e g =
      let s = sized (node (blank_of b)) in
      blank_good form b c0 m c v _ h (predicates_good form ps c (after_subject form v s) s (Statement v) k l c' m' rest (subject_verb form v c s) (e.list s) g)
  triples_good (subject_triples (collection_subject x) ps) c0 m c v k l c' m' rest h e g =
      let s = unsized (Some (collection_of x)) in
      collection_good form x c0 m c v _ h (predicates_good form ps c (WantVerb s (Statement v)) s (Statement v) k l c' m' rest
      (want_verb form c s (Statement v)) (e.list s) g)
  triples_good (list_triples p ps) c0 m c v k l c' m' rest h e g =
      list_good form p c0 m c v _ h (maybe_good form ps c (sized (Some (list_of p))) v k l c' m' rest e g)

  pub start_takes : (c : Setting) → TakesSubject form c Start (in_default c.scope) Top
  start_takes c = record {
    iri = λ l. record { waits = (refl, refl, refl); ref = refl; ln = refl; ns = refl };
    label = λ l. (refl, refl);
    property_list_start = λ l. (refl, refl);
    list = λ l. (refl, refl);
  }

  pub inside_takes : (c : Setting) → TakesSubject form c Inside c InBlock
  inside_takes c = record {
    iri = λ l. record { waits = (refl, refl, refl); ref = refl; ln = refl; ns = refl };
    label = λ l. (refl, refl);
    property_list_start = λ l. (refl, refl);
    list = λ l. (refl, refl);
  }

  pub top_ends : (c : Setting) (l : Leaf) → EndsTriples form c Top Dot l c Start
  top_ends c l = record { list = λ s. record { after = λ v. refl; after_semicolon = refl }; property_list_start = λ s. refl }

  pub dot_ends : (c : Setting) (l : Leaf) → EndsTriples form c InBlock Dot l c Inside
  dot_ends c l = record { list = λ s. record { after = λ v. refl; after_semicolon = refl }; property_list_start = λ s. refl }

  pub brace_ends : (c : Setting) (l : Leaf) → EndsTriples form c InBlock CloseBrace l (in_default c.scope) Start
  brace_ends c l = record { list = λ s. record { after = λ v. refl; after_semicolon = refl }; property_list_start = λ s. refl }

  block_good : (b : TriplesBlock) (c : Setting) (r : Leaf) (rest : List Event) → Good form (in_default c.scope) Start rest →
      Good form c Inside (block_events c b (take CloseBrace r rest))
  block_good (last t) c r rest g = triples_good t c Inside c InBlock CloseBrace r (in_default c.scope) Start rest (inside_takes c) (brace_ends c r) g
  block_good (last_dot t d) c r rest g =
      triples_good t c Inside c InBlock Dot d c Inside _ (inside_takes c) (dot_ends c d) (alone form CloseBrace r refl refl g)
  block_good (dot t d b) c r rest g = triples_good t c Inside c InBlock Dot d c Inside _ (inside_takes c) (dot_ends c d) (block_good b c r rest g)

  maybe_block_good : (b : Option TriplesBlock) (c : Setting) (r : Leaf) (rest : List Event) → Good form (in_default c.scope) Start rest →
      Good form c Inside (maybe_block_events c b (take CloseBrace r rest))
  maybe_block_good None c r rest g = alone form CloseBrace r refl refl g
  maybe_block_good (Some b) c r rest g = block_good b c r rest g

  wrapped_good : (w : WrappedGraph) (c0 : Setting) (m : Mode) (c : Setting) (rest : List Event) →
      ((l : Leaf) → (waiting c0 m OpenBrace l ≡ None) × (step form c0 m OpenBrace l ≡ goes c Inside)) →
      Good form (in_default c.scope) Start rest → Good form c0 m (wrapped_events c w rest)
  wrapped_good (wrapped l b r) c0 m c rest h g = alone form OpenBrace l (h l).0 (h l).1 (maybe_block_good b c r rest g)

-- a label that begins a block
label_good : (x : LabelOrSubject) (c : Setting) (rest : List Event) → Good TriG (in_default c.scope) (AfterLabel (sized (label_of c.scope x))) rest →
    Good TriG c Start (label_events c.scope x rest)
label_good (iri_label i) c rest g = iri_good TriG i c Start c.scope None None (λ j. None) (in_default c.scope)
    (λ j. AfterLabel (sized (named j))) rest ((start_takes TriG c).iri (iri_leaf i)) g
label_good (blank_label b) c rest g = blank_good TriG b c Start (in_default c.scope) Top rest (start_takes TriG c) g

-- a label after GRAPH
graph_good : (x : LabelOrSubject) (c : Setting) (rest : List Event) → Good TriG c (WantBrace (label_of c.scope x)) rest →
    Good TriG c GraphWord (label_events c.scope x rest)
graph_good (iri_label i) c rest g = iri_good TriG i c GraphWord c.scope None None (λ j. None) c
    (λ j. WantBrace (named j)) rest record { waits = (refl, refl, refl); ref = refl; ln = refl; ns = refl } g
graph_good (blank_label (label l)) c rest g = alone TriG LabelNode l refl refl g
graph_good (blank_label (anon l r)) c rest g = alone TriG OpenBracket l refl refl (alone TriG CloseBracket r refl refl g)

-- the machine reads a statement or a block as its events say
body_good : (form : DocForm) (b : Body form) (c : Setting) (rest : List Event) → Good form (in_default c.scope) Start rest →
    Good form c Start (body_events form c.scope b rest)
body_good Turtle b c rest g = triples_good Turtle b.triples c Start (in_default c.scope) Top Dot b.dot (in_default c.scope) Start rest
    (start_takes Turtle c) (top_ends Turtle (in_default c.scope) b.dot) g
body_good TriG (triples_or_graph (named_graph x w)) c rest g =
    label_good x c _ (wrapped_good TriG w (in_default c.scope) (AfterLabel (sized (label_of c.scope x)))
    (in_graph c.scope (label_of c.scope x)) rest (λ l. (refl, refl)) g)
body_good TriG (triples_or_graph (label_triples x ps d)) c rest g =
    label_good x c _
    (predicates_good TriG ps (in_default c.scope) (AfterLabel (sized (label_of c.scope x))) (sized (label_of c.scope x))
    (Statement Top) Dot d (in_default c.scope) Start rest (label_verb TriG (in_default c.scope) (sized (label_of c.scope x)))
    ((top_ends TriG (in_default c.scope) d).list (sized (label_of c.scope x))) g)
body_good TriG (default_graph w) c rest g = wrapped_good TriG w c Start (in_default c.scope) rest (λ l. (refl, refl)) g
body_good TriG (triples2 (list_triples2 p ps d)) c rest g =
    list_good TriG p c Start (in_default c.scope) Top _ (start_takes TriG c) (maybe_good TriG ps (in_default c.scope)
    (sized (Some (list_of p))) Top Dot d (in_default c.scope) Start rest (top_ends TriG (in_default c.scope) d) g)
body_good TriG (triples2 (collection_triples2 x ps d)) c rest g =
    let s = unsized (Some (collection_of x)) in
    collection_good TriG x c Start (in_default c.scope) Top _ (start_takes TriG c)
    (predicates_good TriG ps (in_default c.scope) (WantVerb s (Statement Top)) s (Statement Top) Dot d (in_default c.scope) Start rest
    (want_verb TriG (in_default c.scope) s (Statement Top)) ((top_ends TriG (in_default c.scope) d).list s) g)
body_good TriG (tree.graph_word l x w) c rest g =
    alone TriG Graph l refl refl (graph_good x c _
    (wrapped_good TriG w c (WantBrace (label_of c.scope x)) (in_graph c.scope (label_of c.scope x)) rest (λ r. (refl, refl)) g))

-- the machine reads a document as its events say, which the law of accepted documents rests on
pub document_good : {form : DocForm} (d : Document form) (c : Setting) → Good form c Start (document_events c.scope d)
document_good {form} (end l) c = alone form End l refl refl record { runs = refl }
document_good {form} (with_directive (prefix_id w p i d) rest) c =
    alone form AtPrefix w refl refl (alone form PnameNs p refl refl (one form IriRef i None _ None None refl refl
    (alone form Dot d refl refl (document_good rest (in_default (scope_after c.scope (prefix_id w p i d)))))))
document_good {form} (with_directive (base w i d) rest) c =
    alone form AtBase w refl refl (one form IriRef i None _ None None refl refl
    (alone form Dot d refl refl (document_good rest (in_default (scope_after c.scope (base w i d))))))
document_good {form} (with_directive (sparql_prefix w p i) rest) c =
    alone form Prefix w refl refl (alone form PnameNs p refl refl
    (one form IriRef i None _ None None refl refl (document_good rest (in_default (scope_after c.scope (sparql_prefix w p i))))))
document_good {form} (with_directive (sparql_base w i) rest) c =
    alone form Base w refl refl (one form IriRef i None _ None None refl refl (document_good rest (in_default (scope_after c.scope (sparql_base w i)))))
document_good {form} (with_body b rest) c = body_good form b c (document_events c.scope rest) (document_good rest (in_default c.scope))

-- What has to be held after some tokens of a document is what the open predicate lists hold where the machine stands.
use Rattle.rdf_trig.proofs.Prelude.{◌≡◌, ℕ, ◌+◌, true, List, [], ◌∷◌, ◌++◌, Option, Some, None, refl, sym, ap, subst, ◌∙◌, arith, Kind, IriRef, LabelNode, ShortString, LongString, LangTag, Carets, Dot, Integer, Decimal, Double, True, False, A, AtPrefix, AtBase, Prefix, Base, Graph, PnameNs, PnameLn, Semicolon, Comma, OpenBracket, CloseBracket, OpenParen, CloseParen, OpenBrace, CloseBrace, End, Cell, Blank, Quad, Token, Viable, InForce, Leaf, leaf_of, token, DocForm, TriG, Iri, iri_ref, prefixed, pname_ln, pname_ns, BlankNode, label, anon, Verb, predicate, type_word, short, long, Tag, lang_tag, base_tag, prefix_tag, plain, tagged, typed, integer, decimal, double, true_word, false_word, Literal, rdf, numeric, boolean, Object, iri_object, blank_object, collection_object, list_object, literal_object, Collection, collection, Items, no_items, item, BlankNodePropertyList, property_list, PredicateObjectList, predicate_objects, More, no_more, semicolon, semicolon_objects, ObjectList, objects, Commas, no_commas, comma, iri_subject, blank_subject, collection_subject, Triples, subject_triples, list_triples, prefix_id, base, sparql_prefix, sparql_base, LabelOrSubject, iri_label, blank_label, TriplesBlock, last, last_dot, dot, WrappedGraph, wrapped, named_graph, label_triples, list_triples2, collection_triples2, triples_or_graph, default_graph, triples2, Body, Document, end, with_directive, with_body, iri_in, scope_after, Setting, in_default, in_graph, named, node, resource, anon_at, blank_of, lexical, plain_literal, tagged_literal, typed_literal, literal_of, iri_leaf, string_leaf, literal_leaf, object_leaf, cell_at, items_of, collection_of, list_of, label_of, rest_quad, Use, itself, Event, Took, give, iri_events, verb_events, string_events, tag_events, blank_object_events, literal_events, object_events, collection_events, items_events, rest_events, list_events, predicates_events, more_events, objects_events, commas_events, maybe_events, triples_events, label_events, block_events, wrapped_events, body_events, document_events, documents, verb_size, blank_held, literal_held, object_held, collection_held, items_held, list_held, predicates_held, more_held, objects_held, commas_held, label_held, maybe_held, triples_held, block_held, wrapped_held, body_held, document_held, held_after, HasToHold, Topic, Spelt, sized, unsized, spelt, verb_in, Top, InBlock, Listed, InCollection, Around, Statement, InPropertyList, Up, At, Start, AfterLabel, GraphWord, WantBrace, Inside, Want, After, AfterText, WantType, PropertyListStart, CollectionStart, WantVerb, AfterSemicolon, AfterPropertyList, Reply, No, Go, goes, cell, subject_at, verb_at, quad_at, quad_up, nil, after_subject, collection_closed, place_size, around_size, up_size, mode_size, at_start, ran, accept_all}
use Rattle.rdf_trig.specs.declared.form.DocForm.TheVariants.{Turtle}
use Rattle.rdf_trig.specs.Trees.{String}
use Rattle.rdf_trig.specs.Trees as tree
use Rattle.rdf_trig.specs.Quads.{language}
use Rattle.rdf_trig.specs.Events.{take, object_quad, tokens}
use Rattle.rdf_trig.specs.Machine.{Level, Place, Subject, Mode, after, step, State}
use Rattle.rdf_trig.proofs.trees.TokensOfEvents.{tokens_give}
use Rattle.rdf_trig.proofs.machine.Completeness.{no_tag, TakesIri, TakesObject, want_takes, collection_start_takes, item_takes, TakesVerb, Ends, type_takes, brackets_verb, semicolon_verb, want_verb, TakesSubject, EndsTriples, label_verb, brackets_then_verb, subject_verb, start_takes, inside_takes, top_ends, dot_ends, brace_ends}
use Rattle.rdf_trig.proofs.machine.ViableTokens.{Stand, stand, on_reply, reach, viable_reached, lax_true}
use Rattle.rdf_trig.proofs.machine.AcceptedTokens.{ran_tokens}
use Rattle.rdf_trig.proofs.machine.ClosingTokens.{admits}

-- The bytes of the open predicate lists over those that are held outside of them.
abbrev mutual
  place_over : ℕ → Place → ℕ
  place_over n (Listed s p a) = around_over n a + s.size + p.size
  place_over n (InCollection f m u) = up_over n u

  around_over : ℕ → Around → ℕ
  around_over n (Statement v) = n
  around_over n (InPropertyList u) = up_over n u

  up_over : ℕ → Up → ℕ
  up_over n (Subject v) = n
  up_over n (At p) = place_over n p

-- those in a mode
abbrev mode_over : ℕ → Mode → ℕ
mode_over n (Want p) = place_over n p
mode_over n (After p) = place_over n p
mode_over n (AfterText w p) = place_over n p
mode_over n (WantType w p) = place_over n p
mode_over n (PropertyListStart m u) = up_over n u
mode_over n (CollectionStart u) = up_over n u
mode_over n (WantVerb s a) = around_over n a
mode_over n (AfterSemicolon s a) = around_over n a + s.size
mode_over n m = n

-- They are the sum of both.
mutual
  place_sum : (n : ℕ) (p : Place) → place_over n p ≡ n + place_size p
  place_sum n (Listed s p a) = let h = around_sum n a in omega (arith, h)
  place_sum n (InCollection f m u) = up_sum n u

  around_sum : (n : ℕ) (a : Around) → around_over n a ≡ n + around_size a
  around_sum n (Statement v) = omega arith
  around_sum n (InPropertyList u) = up_sum n u

  up_sum : (n : ℕ) (u : Up) → up_over n u ≡ n + up_size u
  up_sum n (Subject v) = omega arith
  up_sum n (At p) = place_sum n p

mode_sum : (n : ℕ) (m : Mode) → mode_over n m ≡ n + mode_size m
mode_sum n (Want p) = place_sum n p
mode_sum n (After p) = place_sum n p
mode_sum n (AfterText w p) = place_sum n p
mode_sum n (WantType w p) = place_sum n p
mode_sum n (PropertyListStart m u) = up_sum n u
mode_sum n (CollectionStart u) = up_sum n u
mode_sum n (WantVerb s a) = around_sum n a
mode_sum n (AfterSemicolon s a) = let h = around_sum n a in omega (arith, h)
mode_sum n m = omega arith

-- one size before others, if there are any
abbrev with_size : ℕ → Option (List ℕ) → Option (List ℕ)
with_size n None = None
with_size n (Some hs) = Some (n ∷ hs)

-- the size after a token, and those after it
abbrev sized_reply : (InForce → ℕ) → Reply → (Setting → Mode → Option (List ℕ)) → Option (List ℕ)
sized_reply out No next = None
sized_reply out (Go u early now c m) next = with_size (mode_over (out c.scope) m) (next c m)

-- the sizes after each of some tokens, none where one is refused
abbrev sizes : (InForce → ℕ) → DocForm → Setting → Mode → List Token → Option (List ℕ)
sizes out form c m [] = Some []
sizes out form c m (t ∷ ts) = sized_reply out (step form c m t.kind (leaf_of t)) (λ c' m'. sizes out form c' m' ts)

-- after a subject nothing is held yet, whatever the form
subject_none : (form : DocForm) (n : ℕ) (v : Level) (s : Topic) → mode_over n (after_subject form v s) ≡ n
subject_none form n InBlock s = refl
subject_none Turtle n Top s = refl
subject_none TriG n Top s = refl

-- after a collection as much is held as outside of it
list_size : (n : ℕ) (u : Up) (s : Topic) → mode_over n (collection_closed u s) ≡ up_over n u
list_size n (Subject v) s = refl
list_size n (At p) s = refl

module _ (out : InForce → ℕ) (form : DocForm) where
  -- the run from a state over these events' tokens has these sizes
  record Sized (c : Setting) (m : Mode) (es : List Event) (hs : List ℕ) : Type 0 where
    has : sizes out form c m (tokens es) ≡ Some hs

  one : (k : Kind) (l : Leaf) (before : Option Quad) (u : Use) (early now : Option Quad) {c : Setting} {m : Mode} {c' : Setting} {m' : Mode}
      {rest : List Event} {hs : List ℕ} →
      step form c m k l ≡ Go u early now c' m' → Sized c' m' rest hs →
      Sized c m (give before (Took (token k l) u ∷ give early (give now rest))) (mode_over (out c'.scope) m' ∷ hs)
  one k l before u early now {c} {m} {c'} {m'} {rest} {hs} s g = record {
    has =
        rw (tokens_give before (Took (token k l) u ∷ give early (give now rest)), tokens_give early (give now rest), tokens_give now rest)
        (ap (λ r. sized_reply out r (λ c1 m1. sizes out form c1 m1 (tokens rest))) s ∙ ap (with_size (mode_over (out c'.scope) m')) g.has);
  }

  alone : (k : Kind) (l : Leaf) {c : Setting} {m : Mode} {c' : Setting} {m' : Mode} {rest : List Event} {hs : List ℕ} →
      step form c m k l ≡ goes c' m' → Sized c' m' rest hs → Sized c m (take k l rest) (mode_over (out c'.scope) m' ∷ hs)
  alone k l s g = one k l None itself None None s g

  -- a first size by another that is the same
  by_size : {c : Setting} {m : Mode} {es : List Event} {a b : ℕ} {hs : List ℕ} → a ≡ b → Sized c m es (a ∷ hs) → Sized c m es (b ∷ hs)
  by_size {c} {m} {es} {a} {b} {hs} e g = subst (λ n. Sized c m es (n ∷ hs)) e g

  -- no token that only a string has after it follows an object
  dead : {T : Type 0} (r : Reply) (next : Setting → Mode → Option (List ℕ)) (hs : List ℕ) → r ≡ No → sized_reply out r next ≡ Some hs → T
  dead r next hs n e = absurd (let h = ap (λ x. sized_reply out x next) n in let z : None ≡ Some hs = sym h ∙ e in cc)

  text_step : (c : Setting) (w : List ℕ) (p : Place) (k : Kind) (l : Leaf) (ts : List Token) (hs : List ℕ) →
      sizes out form c (After p) (token k l ∷ ts) ≡ Some hs → sizes out form c (AfterText w p) (token k l ∷ ts) ≡ Some hs
  text_step c w p LangTag l ts hs e = dead (after c p LangTag l) (λ c' m'. sizes out form c' m' ts) hs (no_tag form c p l).0 e
  text_step c w p AtBase l ts hs e = dead (after c p AtBase l) (λ c' m'. sizes out form c' m' ts) hs (no_tag form c p l).1 e
  text_step c w p AtPrefix l ts hs e = dead (after c p AtPrefix l) (λ c' m'. sizes out form c' m' ts) hs (no_tag form c p l).2 e
  text_step c w p Carets l ts hs e = dead (after c p Carets l) (λ c' m'. sizes out form c' m' ts) hs (no_tag form c p l).3 e
  text_step c w p k l ts hs e = e

  text_sizes : (c : Setting) (w : List ℕ) (p : Place) (ts : List Token) (hs : List ℕ) → sizes out form c (After p) ts ≡ Some hs →
      sizes out form c (AfterText w p) ts ≡ Some hs
  text_sizes c w p [] hs e = e
  text_sizes c w p (t ∷ ts) hs e = text_step c w p t.kind (leaf_of t) ts hs e

  text_sized : {c : Setting} {p : Place} {rest : List Event} {hs : List ℕ} (w : List ℕ) → Sized c (After p) rest hs →
      Sized c (AfterText w p) (give (quad_at c p (plain_literal w)) rest) hs
  text_sized {c} {p} {rest} {hs} w g = record { has = rw (tokens_give (quad_at c p (plain_literal w)) rest) (text_sizes c w p (tokens rest) hs g.has) }

  iri_sized : (i : Iri) (c : Setting) (m : Mode) (s : InForce) (before early : Option Quad) (now : Option (List ℕ) → Option Quad) (c' : Setting)
      (next : Option (List ℕ) → Mode) (rest : List Event) (hs : List ℕ) →
      TakesIri form c m s before early now c' next (iri_leaf i) → Sized c' (next (iri_in s i)) rest hs →
      Sized c m (give before (iri_events s i (give early (give (now (iri_in s i)) rest)))) (mode_over (out c'.scope) (next (iri_in s i)) ∷ hs)
  iri_sized (iri_ref l) c m s before early now c' next rest hs h g = one IriRef l before _ early _ h.ref g
  iri_sized (prefixed (pname_ln l)) c m s before early now c' next rest hs h g = one PnameLn l before _ early _ h.ln g
  iri_sized (prefixed (pname_ns l)) c m s before early now c' next rest hs h g = one PnameNs l before _ early _ h.ns g

  verb_sized : (v : Verb) (c : Setting) (m : Mode) (s : Topic) (a : Around) (rest : List Event) (hs : List ℕ) → TakesVerb form c m s a →
      Sized c (Want (Listed s (verb_in c.scope v) a)) rest hs →
      Sized c m (verb_events c.scope v rest) ((around_over (out c.scope) a + s.size + verb_size c.scope v) ∷ hs)
  verb_sized (predicate i) c m s a rest hs h g =
      iri_sized i c m c.scope None None (λ i. None) c (λ i. Want (Listed s (spelt i) a)) rest hs (h.iri (iri_leaf i)) g
  verb_sized (type_word l) c m s a rest hs h g = alone A l (h.type l).1 g

  string_sized : (w : String) (c : Setting) (m : Mode) (p : Place) (before early : Option Quad) (rest : List Event) (hs : List ℕ) →
      TakesObject form c m p before early (string_leaf w) →
      Sized c (AfterText (lexical w) p) rest hs → Sized c m (give before (string_events w (give early rest))) (place_over (out c.scope) p ∷ hs)
  string_sized (short l) c m p before early rest hs h g = one ShortString l before itself early None h.short.1 g
  string_sized (long l) c m p before early rest hs h g = one LongString l before itself early None h.long.1 g

  tag_sized : (t : Tag) (c : Setting) (w : List ℕ) (p : Place) (rest : List Event) (hs : List ℕ) → Sized c (After p) rest hs →
      Sized c (AfterText w p) (tag_events t (give (quad_at c p (tagged_literal w (language t))) rest)) (place_over (out c.scope) p ∷ hs)
  tag_sized (lang_tag l) c w p rest hs g = one LangTag l None itself None _ refl g
  tag_sized (base_tag l) c w p rest hs g = one AtBase l None itself None _ refl g
  tag_sized (prefix_tag l) c w p rest hs g = one AtPrefix l None itself None _ refl g

  literal_sized : (x : Literal) (c : Setting) (m : Mode) (p : Place) (before early : Option Quad) (rest : List Event) (hs : List ℕ) →
      TakesObject form c m p before early (literal_leaf x) → Sized c (After p) rest hs →
      Sized c m (give before (literal_events c.scope x early (quad_at c p (literal_of c.scope x)) rest)) (literal_held (place_over (out c.scope) p) x hs)
  literal_sized (rdf (plain w)) c m p before early rest hs h g = string_sized w c m p before early _ _ h (text_sized (lexical w) g)
  literal_sized (rdf (tagged w t)) c m p before early rest hs h g = string_sized w c m p before early _ _ h (tag_sized t c (lexical w) p rest hs g)
  literal_sized (rdf (typed w l i)) c m p before early rest hs h g =
      string_sized w c m p before early _ _ h
      (alone Carets l refl (iri_sized i c (WantType (lexical w) p) c.scope None None (λ j. quad_at c p (typed_literal (lexical w) j)) c
      (λ j. After p) rest hs (type_takes form c (lexical w) p (iri_leaf i)) g))
  literal_sized (numeric (integer l)) c m p before early rest hs h g = one Integer l before itself early _ h.integer.1 g
  literal_sized (numeric (decimal l)) c m p before early rest hs h g = one Decimal l before itself early _ h.decimal.1 g
  literal_sized (numeric (double l)) c m p before early rest hs h g = one Double l before itself early _ h.double.1 g
  literal_sized (boolean (true_word l)) c m p before early rest hs h g = one True l before itself early _ h.true_word.1 g
  literal_sized (boolean (false_word l)) c m p before early rest hs h g = one False l before itself early _ h.false_word.1 g

  mutual
    object_sized : (o : Object) (c : Setting) (m : Mode) (p : Place) (before early : Option Quad) (rest : List Event) (hs : List ℕ) →
        TakesObject form c m p before early (object_leaf o) → Sized c (After p) rest hs →
        Sized c m (give before (object_events c o (subject_at p) (verb_at p) early rest)) (object_held c.scope (place_over (out c.scope) p) o hs)
    object_sized (iri_object i) c m p before early rest hs h g =
        iri_sized i c m c.scope before early (λ j. quad_at c p (resource (named j))) c (λ j. After p) rest hs h.iri g
    object_sized (blank_object (label l)) c m p before early rest hs h g = one LabelNode l before itself early _ h.label.1 g
    object_sized (blank_object (anon l r)) c m p before early rest hs h g =
        one OpenBracket l before itself early _ h.property_list_start.1 (alone CloseBracket r refl g)
    object_sized (collection_object os) c m p before early rest hs h g = collection_object_sized os c m p before early rest hs h g
    object_sized (list_object ps) c m p before early rest hs h g = list_object_sized ps c m p before early rest hs h g
    object_sized (literal_object x) c m p before early rest hs h g = literal_sized x c m p before early rest hs h g

    collection_object_sized : (os : Collection) (c : Setting) (m : Mode) (p : Place) (before early : Option Quad) (rest : List Event) (hs : List ℕ) →
        TakesObject form c m p before early (object_leaf (collection_object os)) → Sized c (After p) rest hs →
        Sized c m (give before (collection_events c os early (object_quad c (subject_at p) (verb_at p) (collection_object os)) rest))
        (collection_held c.scope (place_over (out c.scope) p) os hs)
    collection_object_sized (collection l os r) c m p before early rest hs h g =
        one OpenParen l before itself early None h.list.1 (items_sized os c (At p) r rest hs g)

    list_object_sized : (ps : BlankNodePropertyList) (c : Setting) (m : Mode) (p : Place) (before early : Option Quad) (rest : List Event) (hs : List ℕ) →
        TakesObject form c m p before early (object_leaf (list_object ps)) → Sized c (After p) rest hs →
        Sized c m (give before (list_events c ps early (object_quad c (subject_at p) (verb_at p) (list_object ps)) rest))
        (list_held c.scope (place_over (out c.scope) p) ps hs)
    list_object_sized (property_list l ps r) c m p before early rest hs h g =
        one OpenBracket l before itself early _ h.property_list_start.1
        (predicates_sized ps c (PropertyListStart l.at.offset (At p)) (sized (node (anon_at l))) (InPropertyList (At p)) CloseBracket r c
        (After p) rest hs (brackets_verb form c l.at.offset (At p)) record { after = λ v. refl; after_semicolon = refl } g)

    items_sized : (os : Items) (c : Setting) (u : Up) (r : Leaf) (rest : List Event) (hs : List ℕ) →
        Sized c (collection_closed u (unsized (Some (items_of os)))) rest hs →
        Sized c (CollectionStart u) (give (quad_up c u (items_of os)) (items_events c os r rest))
        (items_held c.scope (up_over (out c.scope) u) os (up_over (out c.scope) u ∷ hs))
    items_sized no_items c u r rest hs g = by_size (list_size (out c.scope) u (unsized (Some nil))) (one CloseParen r (quad_up c u nil) itself None None refl g)
    items_sized (item o os) c u r rest hs g =
        let l = object_leaf o in
        object_sized o c (CollectionStart u) (InCollection l.at.offset l.at.offset u) (quad_up c u (Blank (cell_at l))) None _ _
        (collection_start_takes form c u l) (rest_sized os c l.at.offset l.at.offset u r rest hs g)

    rest_sized : (os : Items) (c : Setting) (f n : ℕ) (u : Up) (r : Leaf) (rest : List Event) (hs : List ℕ) →
        Sized c (collection_closed u (unsized (cell f))) rest hs →
        Sized c (After (InCollection f n u)) (rest_events c os (Cell n) r rest) (items_held c.scope (up_over (out c.scope) u) os (up_over (out c.scope) u ∷ hs))
    rest_sized no_items c f n u r rest hs g =
        by_size (list_size (out c.scope) u (unsized (cell f))) (one CloseParen r None itself None (rest_quad c (Cell n) nil) refl g)
    rest_sized (item o os) c f n u r rest hs g =
        let l = object_leaf o in
        object_sized o c (After (InCollection f n u)) (InCollection f l.at.offset u) None (rest_quad c (Cell n) (Blank (cell_at l))) _ _
        (item_takes form c f n u l) (rest_sized os c f l.at.offset u r rest hs g)

    predicates_sized : (ps : PredicateObjectList) (c : Setting) (m : Mode) (s : Topic) (a : Around) (k : Kind) (l : Leaf) (c' : Setting)
        (m' : Mode) (rest : List Event) (hs : List ℕ) →
        TakesVerb form c m s a → Ends form c s a k l c' m' → Sized c' m' rest hs →
        Sized c m (predicates_events c ps s.term (take k l rest))
        (predicates_held c.scope (around_over (out c.scope) a) s.size ps (mode_over (out c'.scope) m' ∷ hs))
    predicates_sized (predicate_objects v os ms) c m s a k l c' m' rest hs h e g =
        verb_sized v c m s a _ _ h (objects_sized os c s (verb_in c.scope v) a _ _ (more_sized ms c s (verb_in c.scope v) a k l c' m' rest hs e g))

    objects_sized : (os : ObjectList) (c : Setting) (s : Topic) (v : Spelt) (a : Around) (rest : List Event) (hs : List ℕ) →
        Sized c (After (Listed s v a)) rest hs →
        Sized c (Want (Listed s v a)) (objects_events c os s.term v.iri rest) (objects_held c.scope (place_over (out c.scope) (Listed s v a)) os hs)
    objects_sized (objects o os) c s v a rest hs g =
        object_sized o c (Want (Listed s v a)) (Listed s v a) None None _ _ (want_takes form c (Listed s v a) (object_leaf o))
        (commas_sized os c s v a rest hs g)

    commas_sized : (os : Commas) (c : Setting) (s : Topic) (v : Spelt) (a : Around) (rest : List Event) (hs : List ℕ) →
        Sized c (After (Listed s v a)) rest hs →
        Sized c (After (Listed s v a)) (commas_events c os s.term v.iri rest) (commas_held c.scope (place_over (out c.scope) (Listed s v a)) os hs)
    commas_sized no_commas c s v a rest hs g = g
    commas_sized (comma l o os) c s v a rest hs g =
        alone Comma l refl (object_sized o c (Want (Listed s v a)) (Listed s v a) None None _ _
        (want_takes form c (Listed s v a) (object_leaf o)) (commas_sized os c s v a rest hs g))

    more_sized : (ms : More) (c : Setting) (s : Topic) (v : Spelt) (a : Around) (k : Kind) (l : Leaf) (c' : Setting) (m' : Mode)
        (rest : List Event) (hs : List ℕ) →
        Ends form c s a k l c' m' → Sized c' m' rest hs →
        Sized c (After (Listed s v a)) (more_events c ms s.term (take k l rest))
        (more_held c.scope (around_over (out c.scope) a) s.size ms (mode_over (out c'.scope) m' ∷ hs))
    more_sized no_more c s v a k l c' m' rest hs e g = alone k l (e.after v) g
    more_sized (semicolon d ms) c s v a k l c' m' rest hs e g = alone Semicolon d refl (semicolon_sized ms c s a k l c' m' rest hs e g)
    more_sized (semicolon_objects d w os ms) c s v a k l c' m' rest hs e g =
        alone Semicolon d refl (verb_sized w c (AfterSemicolon s a) s a _ _ (semicolon_verb form c s a)
        (objects_sized os c s (verb_in c.scope w) a _ _ (more_sized ms c s (verb_in c.scope w) a k l c' m' rest hs e g)))

    semicolon_sized : (ms : More) (c : Setting) (s : Topic) (a : Around) (k : Kind) (l : Leaf) (c' : Setting) (m' : Mode) (rest : List Event) (hs : List ℕ) →
        Ends form c s a k l c' m' → Sized c' m' rest hs →
        Sized c (AfterSemicolon s a) (more_events c ms s.term (take k l rest))
        (more_held c.scope (around_over (out c.scope) a) s.size ms (mode_over (out c'.scope) m' ∷ hs))
    semicolon_sized no_more c s a k l c' m' rest hs e g = alone k l e.after_semicolon g
    semicolon_sized (semicolon d ms) c s a k l c' m' rest hs e g = alone Semicolon d refl (semicolon_sized ms c s a k l c' m' rest hs e g)
    semicolon_sized (semicolon_objects d w os ms) c s a k l c' m' rest hs e g =
        alone Semicolon d refl (verb_sized w c (AfterSemicolon s a) s a _ _ (semicolon_verb form c s a)
        (objects_sized os c s (verb_in c.scope w) a _ _ (more_sized ms c s (verb_in c.scope w) a k l c' m' rest hs e g)))

  maybe_sized : (ps : Option PredicateObjectList) (c : Setting) (s : Topic) (v : Level) (k : Kind) (l : Leaf) (c' : Setting) (m' : Mode)
      (rest : List Event) (hs : List ℕ) →
      s.size ≡ 0 → EndsTriples form c v k l c' m' → Sized c' m' rest hs →
      Sized c (AfterPropertyList s v) (maybe_events c s.term ps (take k l rest)) (maybe_held c.scope (out c.scope) ps (mode_over (out c'.scope) m' ∷ hs))
  maybe_sized None c s v k l c' m' rest hs z e g = alone k l (e.property_list_start s) g
  maybe_sized (Some ps) c s v k l c' m' rest hs z e g =
      subst (λ n. Sized c (AfterPropertyList s v) (predicates_events c ps s.term (take k l rest))
      (predicates_held c.scope (out c.scope) n ps (mode_over (out c'.scope) m' ∷ hs))) z
      (predicates_sized ps c (AfterPropertyList s v) s (Statement v) k l c' m' rest hs (brackets_then_verb form c s v) (e.list s) g)

  list_sized : (p : BlankNodePropertyList) (c0 : Setting) (m : Mode) (c : Setting) (v : Level) (rest : List Event) (hs : List ℕ) → TakesSubject form c0 m c v →
      Sized c (AfterPropertyList (sized (Some (list_of p))) v) rest hs → Sized c0 m (list_events c p None None rest) (list_held c.scope (out c.scope) p hs)
  list_sized (property_list l ps r) c0 m c v rest hs h g =
      alone OpenBracket l (h.property_list_start l).1
      (predicates_sized ps c (PropertyListStart l.at.offset (Subject v)) (sized (node (anon_at l)))
      (InPropertyList (Subject v)) CloseBracket r c (AfterPropertyList (sized (node (anon_at l))) v) rest hs
      (brackets_verb form c l.at.offset (Subject v)) record { after = λ x. refl; after_semicolon = refl } g)

  collection_sized : (x : Collection) (c0 : Setting) (m : Mode) (c : Setting) (v : Level) (rest : List Event) (hs : List ℕ) → TakesSubject form c0 m c v →
      Sized c (WantVerb (unsized (Some (collection_of x))) (Statement v)) rest hs →
      Sized c0 m (collection_events c x None None rest) (collection_held c.scope (out c.scope) x hs)
  collection_sized (collection l os r) c0 m c v rest hs h g = alone OpenParen l (h.list l).1 (items_sized os c (Subject v) r rest hs g)

  blank_sized : (b : BlankNode) (c0 : Setting) (m : Mode) (c : Setting) (v : Level) (rest : List Event) (hs : List ℕ) → TakesSubject form c0 m c v →
      Sized c (after_subject form v (sized (node (blank_of b)))) rest hs →
      Sized c0 m (blank_object_events b None None rest) (blank_held (out c.scope) b hs)
  blank_sized (label l) c0 m c v rest hs h g = by_size (subject_none form (out c.scope) v _) (alone LabelNode l (h.label l).1 g)
  blank_sized (anon l r) c0 m c v rest hs h g =
      alone OpenBracket l (h.property_list_start l).1 (by_size (subject_none form (out c.scope) v _) (alone CloseBracket r refl g))

  triples_sized : (t : Triples) (c0 : Setting) (m : Mode) (c : Setting) (v : Level) (k : Kind) (l : Leaf) (c' : Setting) (m' : Mode)
      (rest : List Event) (hs : List ℕ) →
      TakesSubject form c0 m c v → EndsTriples form c v k l c' m' →
      Sized c' m' rest hs → Sized c0 m (triples_events c t (take k l rest)) (triples_held c.scope (out c.scope) t (mode_over (out c'.scope) m' ∷ hs))
  triples_sized (subject_triples (iri_subject i) ps) c0 m c v k l c' m' rest hs h e g =
      let s = sized (named (iri_in c.scope i)) in
      by_size (subject_none form (out c.scope) v s)
      (iri_sized i c0 m c.scope None None (λ j. None) c (λ j. after_subject form v (sized (named j))) _ _ (h.iri (iri_leaf i))
      (predicates_sized ps c (after_subject form v s) s (Statement v) k l c' m' rest hs (subject_verb form v c s) (e.list s) g))
  triples_sized (subject_triples (blank_subject b) ps) c0 m c v k l c' m' rest hs h e g =
      let s = sized (node (blank_of b)) in
      blank_sized b c0 m c v _ _ h (predicates_sized ps c (after_subject form v s) s (Statement v) k l c' m' rest hs (subject_verb form v c s) (e.list s) g)
  triples_sized (subject_triples (collection_subject x) ps) c0 m c v k l c' m' rest hs h e g =
      let s = unsized (Some (collection_of x)) in
      collection_sized x c0 m c v _ _ h (predicates_sized ps c (WantVerb s (Statement v)) s (Statement v) k l c' m' rest hs
      (want_verb form c s (Statement v)) (e.list s) g)
  triples_sized (list_triples p ps) c0 m c v k l c' m' rest hs h e g =
      list_sized p c0 m c v _ _ h (maybe_sized ps c (sized (Some (list_of p))) v k l c' m' rest hs (node_none p) e g)
    where
      node_none : (p : BlankNodePropertyList) → (sized (Some (list_of p))).size ≡ 0
      node_none (property_list l ps r) = refl

  block_sized : (b : TriplesBlock) (c : Setting) (r : Leaf) (rest : List Event) (hs : List ℕ) → Sized (in_default c.scope) Start rest hs →
      Sized c Inside (block_events c b (take CloseBrace r rest)) (block_held c.scope (out c.scope) b (out c.scope ∷ hs))
  block_sized (last t) c r rest hs g =
      triples_sized t c Inside c InBlock CloseBrace r (in_default c.scope) Start rest hs (inside_takes form c) (brace_ends form c r) g
  block_sized (last_dot t d) c r rest hs g =
      triples_sized t c Inside c InBlock Dot d c Inside _ _ (inside_takes form c) (dot_ends form c d) (alone CloseBrace r refl g)
  block_sized (dot t d b) c r rest hs g =
      triples_sized t c Inside c InBlock Dot d c Inside _ _ (inside_takes form c) (dot_ends form c d) (block_sized b c r rest hs g)

  wrapped_sized : (w : WrappedGraph) (c0 : Setting) (m : Mode) (c : Setting) (rest : List Event) (hs : List ℕ) →
      ((l : Leaf) → step form c0 m OpenBrace l ≡ goes c Inside) →
      Sized (in_default c.scope) Start rest hs → Sized c0 m (wrapped_events c w rest) (wrapped_held c.scope (out c.scope) w hs)
  wrapped_sized (wrapped l None r) c0 m c rest hs h g = alone OpenBrace l (h l) (alone CloseBrace r refl g)
  wrapped_sized (wrapped l (Some b) r) c0 m c rest hs h g = alone OpenBrace l (h l) (block_sized b c r rest hs g)

-- a label that begins a block
label_sized : (out : InForce → ℕ) (x : LabelOrSubject) (c : Setting) (rest : List Event) (hs : List ℕ) →
    Sized out TriG (in_default c.scope) (AfterLabel (sized (label_of c.scope x))) rest hs →
    Sized out TriG c Start (label_events c.scope x rest) (label_held (out c.scope) x hs)
label_sized out (iri_label i) c rest hs g =
    iri_sized out TriG i c Start c.scope None None (λ j. None) (in_default c.scope) (λ j. AfterLabel (sized (named j))) rest hs
    ((start_takes TriG c).iri (iri_leaf i)) g
label_sized out (blank_label b) c rest hs g = blank_sized out TriG b c Start (in_default c.scope) Top rest hs (start_takes TriG c) g

-- a label after GRAPH
graph_sized : (out : InForce → ℕ) (x : LabelOrSubject) (c : Setting) (rest : List Event) (hs : List ℕ) →
    Sized out TriG c (WantBrace (label_of c.scope x)) rest hs →
    Sized out TriG c GraphWord (label_events c.scope x rest) (label_held (out c.scope) x hs)
graph_sized out (iri_label i) c rest hs g = iri_sized out TriG i c GraphWord c.scope None None (λ j. None) c
    (λ j. WantBrace (named j)) rest hs record { waits = (refl, refl, refl); ref = refl; ln = refl; ns = refl } g
graph_sized out (blank_label (label l)) c rest hs g = alone out TriG LabelNode l refl g
graph_sized out (blank_label (anon l r)) c rest hs g = alone out TriG OpenBracket l refl (alone out TriG CloseBracket r refl g)

-- a statement or a block
body_sized : (out : InForce → ℕ) (form : DocForm) (b : Body form) (c : Setting) (rest : List Event) (hs : List ℕ) →
    Sized out form (in_default c.scope) Start rest hs →
    Sized out form c Start (body_events form c.scope b rest) (body_held form c.scope (out c.scope) b hs)
body_sized out Turtle b c rest hs g =
    triples_sized out Turtle b.triples c Start (in_default c.scope) Top Dot b.dot (in_default c.scope) Start rest hs (start_takes Turtle c)
    (top_ends Turtle (in_default c.scope) b.dot) g
body_sized out TriG (triples_or_graph (named_graph x w)) c rest hs g =
    label_sized out x c _ _ (wrapped_sized out TriG w (in_default c.scope) (AfterLabel (sized (label_of c.scope x)))
    (in_graph c.scope (label_of c.scope x)) rest hs (λ l. refl) g)
body_sized out TriG (triples_or_graph (label_triples x ps d)) c rest hs g =
    let s = sized (label_of c.scope x) in
    label_sized out x c _ _
    (predicates_sized out TriG ps (in_default c.scope) (AfterLabel s) s (Statement Top) Dot d (in_default c.scope) Start rest hs
    (label_verb TriG (in_default c.scope) s)
    ((top_ends TriG (in_default c.scope) d).list s) g)
body_sized out TriG (default_graph w) c rest hs g = wrapped_sized out TriG w c Start (in_default c.scope) rest hs (λ l. refl) g
body_sized out TriG (triples2 (list_triples2 p ps d)) c rest hs g =
    triples_sized out TriG (list_triples p ps) c Start (in_default c.scope) Top Dot d (in_default c.scope) Start rest hs
    (start_takes TriG c) (top_ends TriG (in_default c.scope) d) g
body_sized out TriG (triples2 (collection_triples2 x ps d)) c rest hs g =
    triples_sized out TriG (subject_triples (collection_subject x) ps) c Start (in_default c.scope) Top Dot d
    (in_default c.scope) Start rest hs (start_takes TriG c) (top_ends TriG (in_default c.scope) d) g
body_sized out TriG (tree.graph_word l x w) c rest hs g =
    alone out TriG Graph l refl (graph_sized out x c _ _
    (wrapped_sized out TriG w c (WantBrace (label_of c.scope x)) (in_graph c.scope (label_of c.scope x)) rest hs (λ r. refl) g))

-- the machine reads a document with these sizes
document_sized : (out : InForce → ℕ) {form : DocForm} (d : Document form) (c : Setting) →
    Sized out form c Start (document_events c.scope d) (document_held out c.scope d)
document_sized out {form} (end l) c = alone out form End l refl record { has = refl }
document_sized out {form} (with_directive (prefix_id w p i d) rest) c =
    alone out form AtPrefix w refl (alone out form PnameNs p refl (one out form IriRef i None _ None None refl
    (alone out form Dot d refl (document_sized out rest (in_default (scope_after c.scope (prefix_id w p i d)))))))
document_sized out {form} (with_directive (base w i d) rest) c =
    alone out form AtBase w refl (one out form IriRef i None _ None None refl
    (alone out form Dot d refl (document_sized out rest (in_default (scope_after c.scope (base w i d))))))
document_sized out {form} (with_directive (sparql_prefix w p i) rest) c =
    alone out form Prefix w refl (alone out form PnameNs p refl
    (one out form IriRef i None _ None None refl (document_sized out rest (in_default (scope_after c.scope (sparql_prefix w p i))))))
document_sized out {form} (with_directive (sparql_base w i) rest) c =
    alone out form Base w refl (one out form IriRef i None _ None None refl (document_sized out rest (in_default (scope_after c.scope (sparql_base w i)))))
document_sized out {form} (with_body b rest) c =
    body_sized out form b c (document_events c.scope rest) (document_held out c.scope rest) (document_sized out rest (in_default c.scope))

-- what is held where the machine stands
abbrev stood : (InForce → ℕ) → Stand → ℕ
stood out n = mode_over (out n.setting.scope) n.mode

-- the size after the last of some tokens is that of the mode that they lead to
walk : (out : InForce → ℕ) (form : DocForm) (ts us : List Token) (c : Setting) (m : Mode) (n : Stand) (hs : List ℕ) → reach true form c m ts ≡ Some n →
    sizes out form c m (ts ++ us) ≡ Some hs → held_after (mode_over (out c.scope) m) ts hs ≡ stood out n
walk out form [] us c m n hs r e = let z : stand c m ≡ n = cc in ap (stood out) z
walk out form (t ∷ ts) us c m n hs r e = by (λ c' k gs f h. walk out form ts us c' k n gs f h) (step form c m t.kind (leaf_of t)) hs r e
  where
    later : ((c' : Setting) (k : Mode) (gs : List ℕ) → reach true form c' k ts ≡ Some n → sizes out form c' k (ts ++ us) ≡ Some gs →
        held_after (mode_over (out c'.scope) k) ts gs ≡ stood out n) →
        (c' : Setting) (k : Mode) (o : Option (List ℕ)) (hs : List ℕ) → sizes out form c' k (ts ++ us) ≡ o →
        with_size (mode_over (out c'.scope) k) o ≡ Some hs →
        reach true form c' k ts ≡ Some n → held_after (mode_over (out c.scope) m) (t ∷ ts) hs ≡ stood out n
    later ih c' k None hs h e r = absurd (let z : None ≡ Some hs = e in cc)
    later ih c' k (Some gs) hs h e r =
        let z : mode_over (out c'.scope) k ∷ gs ≡ hs = cc in
        subst (λ x. held_after (mode_over (out c.scope) m) (t ∷ ts) x ≡ stood out n) z (ih c' k gs r h)

    by : ((c' : Setting) (k : Mode) (gs : List ℕ) → reach true form c' k ts ≡ Some n → sizes out form c' k (ts ++ us) ≡ Some gs →
        held_after (mode_over (out c'.scope) k) ts gs ≡ stood out n) →
        (x : Reply) (hs : List ℕ) → on_reply true x (λ c' m'. reach true form c' m' ts) ≡ Some n →
        sized_reply out x (λ c' m'. sizes out form c' m' (ts ++ us)) ≡ Some hs → held_after (mode_over (out c.scope) m) (t ∷ ts) hs ≡ stood out n
    by ih No hs r e = absurd (let z : None ≡ Some hs = e in cc)
    by ih (Go u early now c' k) hs r e =
        later ih c' k (sizes out form c' k (ts ++ us)) hs refl e (lax_true (admits true u) (reach true form c' k ts) n r)

-- what has to be held after tokens is what is held in the mode that they lead to
held_in_mode : (out : InForce → ℕ) (form : DocForm) (start : InForce) (ts : List Token) (n : Stand) (size : ℕ) →
    reach true form (in_default start) Start ts ≡ Some n →
    HasToHold out form start ts size → size ≡ stood out n
held_in_mode out form start ts n size r o =
    let all : sizes out form (in_default start) Start (ts ++ o.more) ≡ Some (document_held out start o.tree) =
    ap (sizes out form (in_default start) Start) o.tokens ∙ (document_sized out o.tree (in_default start)).has in
    sym o.held ∙ walk out form ts o.more (in_default start) Start n (document_held out start o.tree) r all

-- What has to be held after tokens that the machine accepts is what its open predicate lists hold, and what is counted of its scope.
pub held_is_open : (out : InForce → ℕ) (form : DocForm) (start : InForce) (ts : List Token) (n : State) (qs : List Quad) (size : ℕ) →
    accept_all form (at_start start) ts ≡ ran n qs → HasToHold out form start ts size → size ≡ out n.setting.scope + mode_size n.mode
held_is_open out form start ts n qs size e o =
    held_in_mode out form start ts (stand n.setting n.mode) size (ran_tokens form ts (at_start start) n qs e).reached o ∙ mode_sum (out n.setting.scope) n.mode

-- Something has to be held after tokens that begin a document, and it is the same in each document that begins with them.
pub held_is_settled : (out : InForce → ℕ) (form : DocForm) (start : InForce) (ts : List Token) → Viable (documents form start) ts →
    (size : ℕ) × HasToHold out form start ts size × ((other : ℕ) → HasToHold out form start ts other → other ≡ size)
held_is_settled out form start ts v =
    let s = viable_reached form start ts v in
    let d = v.2 in
    let size = held_after (out start) ts (document_held out start d.0) in
    let o : HasToHold out form start ts size = record { tree = d.0; more = v.0; tokens = d.1; bound = d.2; held = refl } in
    (size, o, λ other p. held_in_mode out form start ts s.0 other s.1 p ∙ sym (held_in_mode out form start ts s.0 size s.1 o))

-- Each step of the machine gives quads that can be written within the limits, and keeps parts of quads that can.
use Rattle.rdf_read_back.proofs.Prelude.{◌≡◌, ◌≢◌, ℕ, ◌+◌, ◌^◌, ◌<◌, true, List, [], ◌∷◌, Option, Some, None, sym, subst, refl, codes, IfSome, AllByRecursion, Kind, IriRef, LabelNode, ShortString, LongString, LangTag, Carets, Dot, Integer, Decimal, Double, True, False, A, AtPrefix, AtBase, Prefix, Base, Graph, PnameNs, PnameLn, Semicolon, Comma, OpenBracket, CloseBracket, OpenParen, CloseParen, OpenBrace, CloseBrace, End, Anon, Cell, Blank, Term, Quad, IsIri, Token, unmarked, InForce, Leaf, leaf_of, DocForm, Turtle, TriG, prefix_of, reference_in, name_in, Setting, in_default, named, node, resource, anon_at, labelled, tag_of, plain_literal, tagged_literal, typed_literal, cell_at, rest_quad, itself, Event, Took, Gave, give, event_quads, document_events, Topic, sized, unsized, Level, Top, InBlock, Listed, InCollection, Around, Statement, InPropertyList, Up, At, Spelling, Dotted, Sparql, Mode, Start, Over, WantPrefix, WantPrefixIri, WantBaseIri, WantDot, AfterLabel, GraphWord, GraphBracket, WantBrace, Inside, Want, After, AfterText, WantType, PropertyListStart, CollectionStart, WantVerb, AfterSemicolon, AfterPropertyList, Reply, No, Go, subject_at, verb_at, quad_at, quad_up, nil, iri_object_at, literal_at, object_start, type_at, want_type, verb_is, verb_start, after_subject, node_closed, property_list_closed, collection_closed, predicate_list_end, after_semicolon, tag_at, after_text, property_list_start, collection_start, after_property_list, subject_is, subject_start, start, want_brace, after_label, graph_is, graph_word, graph_bracket, directive_end, want_prefix, want_prefix_iri, want_base_iri, want_dot, waiting, stop, fronted, go_on, run, HasIris}
use Rattle.rdf_terms.specs.Known.{known_chars}
use Rattle.rdf_terms.specs.declared.constants.Known.{Known}
use Rattle.rdf_terms.specs.declared.constants.Known.TheVariants.{RdfType, RdfFirst, RdfRest, RdfNil, XsdString, XsdInteger, XsdDecimal, XsdDouble, XsdBoolean}
use Rattle.rdf_terms.specs.Terms as term
use Rattle.rdf_trig.specs.Trees.{Document}
use Rattle.rdf_trig.specs.Quads.{in_graph}
use Rattle.rdf_trig.specs.Events.{tokens}
use Rattle.rdf_trig.specs.Machine.{Place, Subject, after, inside, step}
use Rattle.rdf_trig.specs.Spelled.{SpellsTag}
use Rattle.rdf_trig.proofs.machine.Soundness.{unput}
use Rattle.rdf_trig.proofs.machine.ViableTokens.{run_tree}
use Rattle.rdf_read_back.proofs.WrittenParts.{Room, FitIri, FitSubject, FitWord, FitTerm, FitQuad, Good, GoodToken, Within, known_fits, named_fits, subject_named, resource_fits, typed_fits, stated_fits, anon_fits, cell_fits, label_fits, short_fits, long_fits, integer_fits, decimal_fits, double_fits, true_fits, false_fits, tag_fits, reference_iri, name_iri, base_iris, binding_iris}

module _ (r : Room) where
  -- what is there can be written
  abbrev IsSubject : Option term.Subject → Type 0
  IsSubject s = IfSome s (FitSubject r)

  abbrev IsQuad : Option Quad → Type 0
  IsQuad q = IfSome q (FitQuad r)

  -- the scope has IRIs, and the graph's label can be written
  abbrev FitSetting : Setting → Type 0
  FitSetting c = HasIris c.scope × IfSome c.graph IsSubject

  -- what a mode holds can be written
  abbrev mutual
    FitPlace : Place → Type 0
    FitPlace (Listed s p a) = IsSubject s.term × IfSome p.iri (FitIri r) × FitAround a
    FitPlace (InCollection f n u) = (f < 2 ^ 64) × (n < 2 ^ 64) × FitUp u

    FitAround : Around → Type 0
    FitAround (Statement v) = Unit {0}
    FitAround (InPropertyList u) = FitUp u

    FitUp : Up → Type 0
    FitUp (Subject v) = Unit {0}
    FitUp (At p) = FitPlace p

  abbrev FitMode : Mode → Type 0
  FitMode (AfterLabel g) = IsSubject g.term
  FitMode (GraphBracket n) = n < 2 ^ 64
  FitMode (WantBrace g) = IsSubject g
  FitMode (Want p) = FitPlace p
  FitMode (After p) = FitPlace p
  FitMode (AfterText w p) = FitWord r w × FitPlace p
  FitMode (WantType w p) = FitWord r w × FitPlace p
  FitMode (PropertyListStart n u) = (n < 2 ^ 64) × FitUp u
  FitMode (CollectionStart u) = FitUp u
  FitMode (WantVerb s a) = IsSubject s.term × FitAround a
  FitMode (AfterSemicolon s a) = IsSubject s.term × FitAround a
  FitMode (AfterPropertyList s v) = IsSubject s.term
  FitMode m = Unit {0}

  -- where the IRI of the token is within the limit, the quads can be written, and what is ready after it
  abbrev FitReply : Reply → Type 0
  FitReply No = Unit {0}
  FitReply (Go u early now c m) = Within r u → IsQuad early × IsQuad now × FitSetting c × FitMode m

  -- the settings outside of a block, and in one
  default_fits : (c : Setting) → FitSetting c → FitSetting (in_default c.scope)
  default_fits c f = (f.0, tt)

  graph_fits : (c : Setting) (g : Option term.Subject) → FitSetting c → IsSubject g → FitSetting (in_graph c.scope g)
  graph_fits c None f h = (f.0, tt)
  graph_fits c (Some g) f h = (f.0, h)

  -- The quads of an object at a place, of a bracket's object, and of a cell.
  subject_fits : (p : Place) → FitPlace p → IsSubject (subject_at p)
  subject_fits (Listed s p a) f = f.0
  subject_fits (InCollection i n u) f = cell_fits r n f.1

  verb_fits : (p : Place) → FitPlace p → IfSome (verb_at p) (FitIri r)
  verb_fits (Listed s p a) f = f.1
  verb_fits (InCollection i n u) f = known_fits r RdfFirst

  quad_fits : (c : Setting) (p : Place) (o : Option Term) → FitSetting c → FitPlace p → IfSome o (FitTerm r) → IsQuad (quad_at c p o)
  quad_fits c p o f g h = stated_fits r c.graph (subject_at p) (verb_at p) o f.1 (subject_fits p g) (verb_fits p g) h

  up_fits : (c : Setting) (u : Up) (s : term.Subject) → FitSetting c → FitUp u → FitSubject r s → IsQuad (quad_up c u s)
  up_fits c (Subject v) s f g h = tt
  up_fits c (At p) s f g h = quad_fits c p (resource (Some s)) f g h

  rest_fits : (c : Setting) (n : ℕ) (s : term.Subject) → FitSetting c → n < 2 ^ 64 → FitSubject r s → IsQuad (rest_quad c (Cell n) s)
  rest_fits c n s f h g = stated_fits r c.graph (node (Cell n)) (Some (known_chars RdfRest)) (resource (Some s)) f.1 (cell_fits r n h) (known_fits r RdfRest) g

  -- The first token of an object, and the type of a string.
  iri_fits : (c : Setting) (p : Place) (early : Option Quad) (i : Option (List ℕ)) → FitSetting c → FitPlace p → IsQuad early → IfSome i IsIri →
      FitReply (iri_object_at c p early i)
  iri_fits c p early i f g q h = λ w. (q, quad_fits c p (resource (named i)) f g (resource_fits r (named i) (subject_named r i (named_fits r i h w))), f, g)

  literal_fits : (c : Setting) (p : Place) (early : Option Quad) (o : Option Term) → FitSetting c → FitPlace p → IsQuad early → IfSome o (FitTerm r) →
      FitReply (literal_at c p early o)
  literal_fits c p early o f g q h = λ w. (q, quad_fits c p o f g h, f, g)

  -- a literal of a number or a Boolean
  known_type_fits : (c : Setting) (p : Place) (early : Option Quad) (w : List ℕ) (k : Known) → FitSetting c → FitPlace p → IsQuad early → FitWord r w →
      FitReply (literal_at c p early (typed_literal w (Some (known_chars k))))
  known_type_fits c p early w k f g q h = literal_fits c p early (typed_literal w (Some (known_chars k))) f g q (h, known_fits r k)

  object_fits : (c : Setting) (p : Place) (early : Option Quad) (k : Kind) (l : Leaf) → FitSetting c → FitPlace p → IsQuad early → Good r k l →
      FitReply (object_start c p early k l)
  object_fits c p early IriRef l f g q h = iri_fits c p early (reference_in c.scope l) f g q (reference_iri c.scope l f.0)
  object_fits c p early PnameLn l f g q h = iri_fits c p early (name_in c.scope l) f g q (name_iri c.scope l f.0)
  object_fits c p early PnameNs l f g q h = iri_fits c p early (name_in c.scope l) f g q (name_iri c.scope l f.0)
  object_fits c p early LabelNode l f g q h = literal_fits c p early (resource (node (labelled l))) f g q (label_fits r l h)
  object_fits c p early ShortString l f g q h = λ w. (q, tt, f, (short_fits r l h, g))
  object_fits c p early LongString l f g q h = λ w. (q, tt, f, (long_fits r l h, g))
  object_fits c p early Integer l f g q h = known_type_fits c p early l.text XsdInteger f g q (integer_fits r l h)
  object_fits c p early Decimal l f g q h = known_type_fits c p early l.text XsdDecimal f g q (decimal_fits r l h)
  object_fits c p early Double l f g q h = known_type_fits c p early l.text XsdDouble f g q (double_fits r l h)
  object_fits c p early True l f g q h = known_type_fits c p early (codes "true") XsdBoolean f g q (true_fits r)
  object_fits c p early False l f g q h = known_type_fits c p early (codes "false") XsdBoolean f g q (false_fits r)
  object_fits c p early OpenBracket l f g q h = λ w. (q, quad_fits c p (resource (node (anon_at l))) f g (anon_fits r l.at.offset h.2), f, (h.2, g))
  object_fits c p early OpenParen l f g q h = λ w. (q, tt, f, g)
  object_fits c p early k l f g q h = tt

  type_fits : (c : Setting) (v : List ℕ) (p : Place) (i : Option (List ℕ)) → FitSetting c → FitWord r v → FitPlace p → IfSome i IsIri →
      FitReply (type_at c v p i)
  type_fits c v p i f h g n = λ w. (tt, quad_fits c p (typed_literal v i) f g (typed_fits r v i h (named_fits r i n w)), f, g)

  want_type_fits : (c : Setting) (v : List ℕ) (p : Place) (k : Kind) (l : Leaf) → FitSetting c → FitWord r v → FitPlace p → FitReply (want_type c v p k l)
  want_type_fits c v p IriRef l f h g = type_fits c v p (reference_in c.scope l) f h g (reference_iri c.scope l f.0)
  want_type_fits c v p PnameLn l f h g = type_fits c v p (name_in c.scope l) f h g (name_iri c.scope l f.0)
  want_type_fits c v p PnameNs l f h g = type_fits c v p (name_in c.scope l) f h g (name_iri c.scope l f.0)
  want_type_fits c v p k l f h g = tt

  -- Verbs.
  verb_is_fits : (c : Setting) (s : Topic) (a : Around) (i : Option (List ℕ)) → FitSetting c → IsSubject s.term → FitAround a →
      IfSome i IsIri → FitReply (verb_is c s a i)
  verb_is_fits c s a i f h g n = λ w. (tt, tt, f, (h, named_fits r i n w, g))

  verb_start_fits : (c : Setting) (s : Topic) (a : Around) (k : Kind) (l : Leaf) → FitSetting c → IsSubject s.term → FitAround a →
      FitReply (verb_start c s a k l)
  verb_start_fits c s a IriRef l f h g = verb_is_fits c s a (reference_in c.scope l) f h g (reference_iri c.scope l f.0)
  verb_start_fits c s a PnameLn l f h g = verb_is_fits c s a (name_in c.scope l) f h g (name_iri c.scope l f.0)
  verb_start_fits c s a PnameNs l f h g = verb_is_fits c s a (name_in c.scope l) f h g (name_iri c.scope l f.0)
  verb_start_fits c s a A l f h g = λ w. (tt, tt, f, (h, known_fits r RdfType, g))
  verb_start_fits c s a k l f h g = tt

  -- Where the machine stands after a subject, and after brackets.
  subject_mode : (form : DocForm) (v : Level) (s : Topic) → IsSubject s.term → FitMode (after_subject form v s)
  subject_mode form InBlock s h = (h, tt)
  subject_mode Turtle Top s h = (h, tt)
  subject_mode TriG Top s h = h

  node_mode : (form : DocForm) (u : Up) (s : Topic) → FitUp u → IsSubject s.term → FitMode (node_closed form u s)
  node_mode form (Subject v) s g h = subject_mode form v s h
  node_mode form (At p) s g h = g

  brackets_mode : (u : Up) (s : Topic) → FitUp u → IsSubject s.term → FitMode (property_list_closed u s)
  brackets_mode (Subject v) s g h = h
  brackets_mode (At p) s g h = g

  list_mode : (u : Up) (s : Topic) → FitUp u → IsSubject s.term → FitMode (collection_closed u s)
  list_mode (Subject v) s g h = (h, tt)
  list_mode (At p) s g h = g

  -- a token that changes the mode alone
  goes_fits : (c : Setting) (m : Mode) → FitSetting c → FitMode m → FitReply (Go itself None None c m)
  goes_fits c m f g = λ w. (tt, tt, f, g)

  list_end_fits : (c : Setting) (s : Topic) (a : Around) (k : Kind) (l : Leaf) → FitSetting c → IsSubject s.term → FitAround a →
      FitReply (predicate_list_end c s a k l)
  list_end_fits c s (Statement Top) Dot l f h g = goes_fits c Start f tt
  list_end_fits c s (Statement InBlock) Dot l f h g = goes_fits c Inside f tt
  list_end_fits c s (Statement InBlock) CloseBrace l f h g = goes_fits (in_default c.scope) Start (default_fits c f) tt
  list_end_fits c s (InPropertyList u) CloseBracket l f h g = goes_fits c (property_list_closed u s) f (brackets_mode u s g h)
  list_end_fits c s (Statement Top) k l f h g = tt
  list_end_fits c s (Statement InBlock) k l f h g = tt
  list_end_fits c s (InPropertyList u) k l f h g = tt

  semicolon_fits : (c : Setting) (s : Topic) (a : Around) (k : Kind) (l : Leaf) → FitSetting c → IsSubject s.term → FitAround a →
      FitReply (after_semicolon c s a k l)
  semicolon_fits c s a Semicolon l f h g = goes_fits c (AfterSemicolon s a) f (h, g)
  semicolon_fits c s a IriRef l f h g = verb_start_fits c s a IriRef l f h g
  semicolon_fits c s a PnameLn l f h g = verb_start_fits c s a PnameLn l f h g
  semicolon_fits c s a PnameNs l f h g = verb_start_fits c s a PnameNs l f h g
  semicolon_fits c s a A l f h g = verb_start_fits c s a A l f h g
  semicolon_fits c s a k l f h g = list_end_fits c s a k l f h g

  after_fits : (c : Setting) (p : Place) (k : Kind) (l : Leaf) → FitSetting c → FitPlace p → Good r k l → FitReply (after c p k l)
  after_fits c (Listed s p a) Comma l f g h = goes_fits c (Want (Listed s p a)) f g
  after_fits c (Listed s p a) Semicolon l f g h = goes_fits c (AfterSemicolon s a) f (g.0, g.2)
  after_fits c (Listed s p a) k l f g h = list_end_fits c s a k l f g.0 g.2
  after_fits c (InCollection i n u) CloseParen l f g h =
      λ w. (tt, rest_fits c n nil f g.1 (known_fits r RdfNil), f, list_mode u (unsized (node (Cell i))) g.2 (cell_fits r i g.0))
  after_fits c (InCollection i n u) k l f g h =
      let q = rest_fits c n (Blank (cell_at l)) f g.1 (cell_fits r l.at.offset h.2) in
      object_fits c (InCollection i l.at.offset u) (rest_quad c (Cell n) (Blank (cell_at l))) k l f (g.0, h.2, g.2) q h

  -- after a string
  tag_at_fits : (c : Setting) (v : List ℕ) (p : Place) (k : Kind) (l : Leaf) → FitSetting c → FitWord r v → FitPlace p → SpellsTag k → k ≢ End →
      Good r k l → FitReply (tag_at c v p l)
  tag_at_fits c v p k l f g i t n h = λ w. (tt, quad_fits c p (tagged_literal v (tag_of l)) f i (g, tag_fits r k l t n h), f, i)

  text_fits : (c : Setting) (v : List ℕ) (p : Place) (k : Kind) (l : Leaf) → FitSetting c → FitWord r v → FitPlace p → Good r k l →
      FitReply (after_text c v p k l)
  text_fits c v p LangTag l f g i h = tag_at_fits c v p LangTag l f g i tt (λ x. let z : LangTag ≡ End = x in cc) h
  text_fits c v p AtBase l f g i h = tag_at_fits c v p AtBase l f g i tt (λ x. let z : AtBase ≡ End = x in cc) h
  text_fits c v p AtPrefix l f g i h = tag_at_fits c v p AtPrefix l f g i tt (λ x. let z : AtPrefix ≡ End = x in cc) h
  text_fits c v p Carets l f g i h = goes_fits c (WantType v p) f (g, i)
  text_fits c v p k l f g i h = after_fits c p k l f i h

  -- Brackets.
  brackets_fits : (form : DocForm) (c : Setting) (n : ℕ) (u : Up) (k : Kind) (l : Leaf) → FitSetting c → n < 2 ^ 64 → FitUp u →
      FitReply (property_list_start form c n u k l)
  brackets_fits form c n u CloseBracket l f h g =
      goes_fits c (node_closed form u (sized (node (Anon n)))) f (node_mode form u (sized (node (Anon n))) g (anon_fits r n h))
  brackets_fits form c n u k l f h g = verb_start_fits c (sized (node (Anon n))) (InPropertyList u) k l f (anon_fits r n h) g

  collection_start_fits : (c : Setting) (u : Up) (k : Kind) (l : Leaf) → FitSetting c → FitUp u → Good r k l → FitReply (collection_start c u k l)
  collection_start_fits c u CloseParen l f g h =
      goes_fits c (collection_closed u (unsized (Some nil))) f (list_mode u (unsized (Some nil)) g (known_fits r RdfNil))
  collection_start_fits c u k l f g h = object_fits c (InCollection l.at.offset l.at.offset u) None k l f (h.2, h.2, g) tt h

  after_brackets_fits : (c : Setting) (s : Topic) (v : Level) (k : Kind) (l : Leaf) → FitSetting c → IsSubject s.term → FitReply (after_property_list c s v k l)
  after_brackets_fits c s v IriRef l f h = verb_start_fits c s (Statement v) IriRef l f h tt
  after_brackets_fits c s v PnameLn l f h = verb_start_fits c s (Statement v) PnameLn l f h tt
  after_brackets_fits c s v PnameNs l f h = verb_start_fits c s (Statement v) PnameNs l f h tt
  after_brackets_fits c s v A l f h = verb_start_fits c s (Statement v) A l f h tt
  after_brackets_fits c s v k l f h = list_end_fits c s (Statement v) k l f h tt

  -- Subjects, labels and blocks.
  subject_is_fits : (form : DocForm) (c : Setting) (v : Level) (i : Option (List ℕ)) → FitSetting c → IfSome i IsIri → FitReply (subject_is form c v i)
  subject_is_fits form c v i f n = λ w. (tt, tt, f, subject_mode form v (sized (named i)) (subject_named r i (named_fits r i n w)))

  subject_start_fits : (form : DocForm) (c : Setting) (v : Level) (k : Kind) (l : Leaf) → FitSetting c → Good r k l → FitReply (subject_start form c v k l)
  subject_start_fits form c v IriRef l f h = subject_is_fits form c v (reference_in c.scope l) f (reference_iri c.scope l f.0)
  subject_start_fits form c v PnameLn l f h = subject_is_fits form c v (name_in c.scope l) f (name_iri c.scope l f.0)
  subject_start_fits form c v PnameNs l f h = subject_is_fits form c v (name_in c.scope l) f (name_iri c.scope l f.0)
  subject_start_fits form c v LabelNode l f h =
      goes_fits c (after_subject form v (sized (node (labelled l)))) f (subject_mode form v (sized (node (labelled l))) (label_fits r l h))
  subject_start_fits form c v OpenBracket l f h = goes_fits c (PropertyListStart l.at.offset (Subject v)) f (h.2, tt)
  subject_start_fits form c v OpenParen l f h = goes_fits c (CollectionStart (Subject v)) f tt
  subject_start_fits form c v k l f h = tt

  start_fits : (form : DocForm) (c : Setting) (k : Kind) (l : Leaf) → FitSetting c → Good r k l → FitReply (start form c k l)
  start_fits form c End l f h = goes_fits c Over f tt
  start_fits form c AtPrefix l f h = goes_fits c (WantPrefix Dotted) f tt
  start_fits form c Prefix l f h = goes_fits c (WantPrefix Sparql) f tt
  start_fits form c AtBase l f h = goes_fits c (WantBaseIri Dotted) f tt
  start_fits form c Base l f h = goes_fits c (WantBaseIri Sparql) f tt
  start_fits TriG c Graph l f h = goes_fits c GraphWord f tt
  start_fits TriG c OpenBrace l f h = goes_fits (in_default c.scope) Inside (default_fits c f) tt
  start_fits form c k l f h = subject_start_fits form (in_default c.scope) Top k l (default_fits c f) h

  inside_fits : (form : DocForm) (c : Setting) (k : Kind) (l : Leaf) → FitSetting c → Good r k l → FitReply (inside form c k l)
  inside_fits form c CloseBrace l f h = goes_fits (in_default c.scope) Start (default_fits c f) tt
  inside_fits form c k l f h = subject_start_fits form c InBlock k l f h

  brace_fits : (c : Setting) (g : Option term.Subject) (k : Kind) (l : Leaf) → FitSetting c → IsSubject g → FitReply (want_brace c g k l)
  brace_fits c g OpenBrace l f h = goes_fits (in_graph c.scope g) Inside (graph_fits c g f h) tt
  brace_fits c g k l f h = tt

  after_label_fits : (c : Setting) (g : Topic) (k : Kind) (l : Leaf) → FitSetting c → IsSubject g.term → FitReply (after_label c g k l)
  after_label_fits c g OpenBrace l f h = goes_fits (in_graph c.scope g.term) Inside (graph_fits c g.term f h) tt
  after_label_fits c g k l f h = verb_start_fits c g (Statement Top) k l f h tt

  graph_is_fits : (c : Setting) (i : Option (List ℕ)) → FitSetting c → IfSome i IsIri → FitReply (graph_is c i)
  graph_is_fits c i f n = λ w. (tt, tt, f, subject_named r i (named_fits r i n w))

  graph_word_fits : (c : Setting) (k : Kind) (l : Leaf) → FitSetting c → Good r k l → FitReply (graph_word c k l)
  graph_word_fits c IriRef l f h = graph_is_fits c (reference_in c.scope l) f (reference_iri c.scope l f.0)
  graph_word_fits c PnameLn l f h = graph_is_fits c (name_in c.scope l) f (name_iri c.scope l f.0)
  graph_word_fits c PnameNs l f h = graph_is_fits c (name_in c.scope l) f (name_iri c.scope l f.0)
  graph_word_fits c LabelNode l f h = goes_fits c (WantBrace (node (labelled l))) f (label_fits r l h)
  graph_word_fits c OpenBracket l f h = goes_fits c (GraphBracket l.at.offset) f h.2
  graph_word_fits c k l f h = tt

  graph_brackets_fits : (c : Setting) (n : ℕ) (k : Kind) (l : Leaf) → FitSetting c → n < 2 ^ 64 → FitReply (graph_bracket c n k l)
  graph_brackets_fits c n CloseBracket l f h = goes_fits c (WantBrace (node (Anon n))) f (anon_fits r n h)
  graph_brackets_fits c n k l f h = tt

  -- Directives.
  prefix_fits : (c : Setting) (w : Spelling) (k : Kind) (l : Leaf) → FitSetting c → FitReply (want_prefix c w k l)
  prefix_fits c w PnameNs l f = goes_fits c (WantPrefixIri w (prefix_of l)) f tt
  prefix_fits c w k l f = tt

  end_mode : (w : Spelling) → FitMode (directive_end w)
  end_mode Dotted = tt
  end_mode Sparql = tt

  prefix_iri_fits : (c : Setting) (w : Spelling) (p : List ℕ) (k : Kind) (l : Leaf) → FitSetting c → FitReply (want_prefix_iri c w p k l)
  prefix_iri_fits c w p IriRef l f =
      let i = reference_in c.scope l in
      let h = reference_iri c.scope l f.0 in
      λ x. (tt, tt, (binding_iris c.scope p i f.0 h, tt), end_mode w)
  prefix_iri_fits c w p k l f = tt

  base_iri_fits : (c : Setting) (w : Spelling) (k : Kind) (l : Leaf) → FitSetting c → FitReply (want_base_iri c w k l)
  base_iri_fits c w IriRef l f =
      let i = reference_in c.scope l in
      let h = reference_iri c.scope l f.0 in
      λ x. (tt, tt, (base_iris c.scope i f.0 h, tt), end_mode w)
  base_iri_fits c w k l f = tt

  dot_fits : (c : Setting) (k : Kind) (l : Leaf) → FitSetting c → FitReply (want_dot c k l)
  dot_fits c Dot l f = goes_fits c Start f tt
  dot_fits c k l f = tt

  step_fits : (form : DocForm) (c : Setting) (m : Mode) (k : Kind) (l : Leaf) → FitSetting c → FitMode m → Good r k l → FitReply (step form c m k l)
  step_fits form c Start k l f g h = start_fits form c k l f h
  step_fits form c Over k l f g h = tt
  step_fits form c (WantPrefix w) k l f g h = prefix_fits c w k l f
  step_fits form c (WantPrefixIri w p) k l f g h = prefix_iri_fits c w p k l f
  step_fits form c (WantBaseIri w) k l f g h = base_iri_fits c w k l f
  step_fits form c WantDot k l f g h = dot_fits c k l f
  step_fits form c (AfterLabel s) k l f g h = after_label_fits c s k l f g
  step_fits form c GraphWord k l f g h = graph_word_fits c k l f h
  step_fits form c (GraphBracket n) k l f g h = graph_brackets_fits c n k l f g
  step_fits form c (WantBrace s) k l f g h = brace_fits c s k l f g
  step_fits form c Inside k l f g h = inside_fits form c k l f h
  step_fits form c (Want p) k l f g h = object_fits c p None k l f g tt h
  step_fits form c (After p) k l f g h = after_fits c p k l f g h
  step_fits form c (AfterText w p) k l f g h = text_fits c w p k l f g.0 g.1 h
  step_fits form c (WantType w p) k l f g h = want_type_fits c w p k l f g.0 g.1
  step_fits form c (PropertyListStart n u) k l f g h = brackets_fits form c n u k l f g.0 g.1
  step_fits form c (CollectionStart u) k l f g h = collection_start_fits c u k l f g h
  step_fits form c (WantVerb s a) k l f g h = verb_start_fits c s a k l f g.0 g.1
  step_fits form c (AfterSemicolon s a) k l f g h = semicolon_fits c s a k l f g.0 g.1
  step_fits form c (AfterPropertyList s v) k l f g h = after_brackets_fits c s v k l f g

  -- the quad whose object is known only by the token after it
  waiting_fits : (c : Setting) (m : Mode) (k : Kind) (l : Leaf) → FitSetting c → FitMode m → Good r k l → IsQuad (waiting c m k l)
  waiting_fits c (AfterText w p) LangTag l f g h = tt
  waiting_fits c (AfterText w p) AtBase l f g h = tt
  waiting_fits c (AfterText w p) AtPrefix l f g h = tt
  waiting_fits c (AfterText w p) Carets l f g h = tt
  waiting_fits c (AfterText w p) k l f g h = quad_fits c p (plain_literal w) f g.1 (g.0, known_fits r XsdString)
  waiting_fits c (CollectionStart u) CloseParen l f g h = up_fits c u nil f g (known_fits r RdfNil)
  waiting_fits c (CollectionStart u) k l f g h = up_fits c u (Blank (cell_at l)) f g (cell_fits r l.at.offset h.2)
  waiting_fits c m k l f g h = tt

  -- The events of whole runs: each IRI that a token stands for is within the limit, and each quad can be written.
  abbrev pub AllWithin : List Event → Type 0
  AllWithin [] = Unit {0}
  AllWithin (Took t u ∷ es) = Within r u × AllWithin es
  AllWithin (Gave q ∷ es) = AllWithin es

  abbrev pub AllGiven : List Event → Type 0
  AllGiven [] = Unit {0}
  AllGiven (Took t u ∷ es) = AllGiven es
  AllGiven (Gave q ∷ es) = FitQuad r q × AllGiven es

  give_within : (q : Option Quad) (es : List Event) → AllWithin (give q es) → AllWithin es
  give_within None es w = w
  give_within (Some q) es w = w

  give_fits : (q : Option Quad) (es : List Event) → IsQuad q → AllGiven es → AllGiven (give q es)
  give_fits None es f g = g
  give_fits (Some q) es f g = (f, g)

  -- nothing comes after the end
  end_fits : (m : Mode) (es : List Event) → stop m ≡ Some es → AllGiven es
  end_fits Over es e = let z : [] ≡ es = cc in subst AllGiven z tt
  end_fits m es e = absurd (let z : None ≡ Some es = e in cc)

  -- a run over good tokens gives quads that can be written
  run_fits : (form : DocForm) (ts : List Token) (c : Setting) (m : Mode) (es : List Event) → run form c m ts ≡ Some es → AllByRecursion (GoodToken r) ts →
      AllWithin es → FitSetting c → FitMode m → AllGiven es
  run_fits form [] c m es x g w f h = end_fits m es x
  run_fits form (t ∷ ts) c m es x g w f h =
      by (step form c m t.kind (leaf_of t)) (step_fits form c m t.kind (leaf_of t) f h g.0) x (λ c' m' fs z v i j. run_fits form ts c' m' fs z g.1 v i j)
    where
      by : (y : Reply) → FitReply y → fronted (waiting c m t.kind (leaf_of t)) (go_on t y (λ c' m'. run form c' m' ts)) ≡ Some es →
          ((c' : Setting) (m' : Mode) (fs : List Event) → run form c' m' ts ≡ Some fs → AllWithin fs → FitSetting c' → FitMode m' → AllGiven fs) → AllGiven es
      by No y z ih = absurd (let v : None ≡ Some es = z in cc)
      by (Go u early now c' m') y z ih =
          let q = waiting c m t.kind (leaf_of t) in
          let p = unput q t u early now (run form c' m' ts) es z in
          let v = give_within q (Took t u ∷ give early (give now p.0)) (subst AllWithin p.2 w) in
          let k = y v.0 in
          let i = ih c' m' p.0 p.1 (give_within now p.0 (give_within early (give now p.0) v.1)) k.2 k.3 in
          let n = waiting_fits c m t.kind (leaf_of t) f h g.0 in
          subst AllGiven (sym p.2) (give_fits q (Took t u ∷ give early (give now p.0)) n (give_fits early (give now p.0) k.0 (give_fits now p.0 k.1 i)))

  -- the quads of events, with their marks taken off
  abbrev pub AllFit : List Quad → Type 0
  AllFit qs = AllByRecursion (FitQuad r) qs

  marks_fit : (n : ℕ) (es : List Event) → AllGiven es → AllFit (unmarked (event_quads n es))
  marks_fit n [] f = tt
  marks_fit n (Took t u ∷ es) f = marks_fit (n + 1) es f
  marks_fit n (Gave q ∷ es) f = (f.0, marks_fit n es f.1)

  -- those of a tree whose scope at the start has IRIs
  pub tree_fits : (form : DocForm) (scope : InForce) (d : Document form) → HasIris scope → AllByRecursion (GoodToken r) (tokens (document_events scope d)) →
      AllWithin (document_events scope d) → AllFit (unmarked (event_quads 0 (document_events scope d)))
  tree_fits form scope d h g w =
      let ran = run_tree true form d scope (tokens (document_events scope d)) refl in
      marks_fit 0 (document_events scope d)
      (run_fits form (tokens (document_events scope d)) (in_default scope) Start (document_events scope d) ran g w (h, tt) tt)

-- What is written reads back as the same quads.
use Rattle.rdf_lines.proofs.Prelude.{◌≡◌, ℕ, ◌+◌, ◌≤◌, Bool, true, false, List, [], ◌∷◌, ◌++◌, refl, sym, ap, ◌∙◌, subst, ⊎_elim, append_assoc, Option, Some, None, length, nat_lt, arith, length-append, zero-add, flat_map, option_map, unwrap_or, bytes_eq, AllByRecursion, cond-false, cases_Bool, le-ltb, and_left, append-nil, bytes_eq-Decides, Lines, Matches, Kind, kinds, any_shape, shape, kind_of, is_live, IriRef, LabelNode, ShortString, LangTag, Carets, Dot, LineEnd, End, is_fit, iri_value, string_value, Place, past, Token, tokens, step, over, with_tokens, ended, complete, stop, Label, Anon, Cell, Lang, Typed, Subject, Blank, Term, Resource, Literal, Quad, xsd_string, has_scheme, all_have, IsIri, IsLabel, IsTag, IsSubject, IsTerm, IsGraph, IsQuad, Leaf, iri_of, Name, Ref, Lab, Object, Named, WithType, WithTag, Statement, Document, last, next, name_tokens, object_tokens, graph_tokens, statement_tokens, document_tokens, string_of, subject_of, term_of, name_bound, object_bound, graph_bound, GoodStatement, GoodDocument, NQuads, Escapes, Kept, CanWrite, written, escaped, iri_text, node_text, subject_text, string_text, type_text, term_text, space, graph_text, quad_text, CanWriteSubject, CanWriteTerm, CanWriteGraph, TermShort, GraphShort, TokensWithin, at_stop, uses, live-matches}
use Rattle.rdf_terms.specs.Classes.{has, scalar}
use Rattle.rdf_tokens.specs.Tokens.{Tail as Behind, blank, is_space}
use Rattle.rdf_terms.specs.Terms.{Iri}
use Rattle.rdf_lines.specs.Lines as L
use Rattle.rdf_tokens.specs.Leaves.{token}
use Rattle.rdf_lines.specs.Lines.{Plain, quad_of}
use Rattle.rdf_lines.proofs.PlainQuads.{plain_quads, IsPlain}
use Rattle.rdf_lines.proofs.NextToken.{Cut, cut_dead, shape_at, kind_at, cut_by_other, cut_by_shape, cut_by_dead, next_token, skip_blanks, of_blank}
use Rattle.rdf_lines.proofs.WritingLemmas.{begins_iri, begins_label, begins_string, begins_tag, iri_shape, iri_fit, iri_meant, string_shape, string_ends, string_fit, string_meant, inside_one}
use Rattle.rdf_lines.proofs.LineEnds.{past-append}

-- no token of the list has more characters
abbrev pub AllShort : ℕ → List Token → Type 0
AllShort limit ts = AllByRecursion (λ t. length t.text ≤ limit) ts

-- how many characters the tokens have
abbrev pub total : List Token → ℕ
total [] = 0
total (t ∷ ts) = length t.text + total ts

-- A text spells tokens, if these are read from it, whatever comes after it, where none is too long; they depend on its place alone.
pub record Spells (limit : ℕ) (w : List ℕ) (f : Place → List Token) : Type 0 where
  pub size : (p : Place) → total (f p) ≤ length w
  pub reads : (tail : Behind) (p : Place) (v : List ℕ) → AllShort limit (f p) →
      tokens Lines limit tail false p (w ++ v) ≡ with_tokens (f p) (tokens Lines limit tail false (past p w) v)

-- two lists of tokens have the characters of both
total-append : (ts us : List Token) → total (ts ++ us) ≡ total ts + total us
total-append [] us = sym (zero-add (total us))
total-append (t ∷ ts) us = let h = total-append ts us in omega arith

-- tokens that keep a limit do so in a front of the list
short_front : (limit : ℕ) (ts us : List Token) → AllShort limit (ts ++ us) → AllShort limit ts
short_front limit [] us h = tt
short_front limit (t ∷ ts) us h = (h.0, short_front limit ts us h.1)

-- tokens that keep a limit do so in the rest of the list
short_rest : (limit : ℕ) (ts us : List Token) → AllShort limit (ts ++ us) → AllShort limit us
short_rest limit [] us h = h
short_rest limit (t ∷ ts) us h = short_rest limit ts us h.1

-- where all of them have no more, each has none
pub total_short : (limit : ℕ) (ts : List Token) → total ts ≤ limit → AllShort limit ts
total_short limit [] l = tt
total_short limit (t ∷ ts) l = (omega arith, total_short limit ts (omega arith))

-- a token of a text at a place
abbrev pub leaf : List ℕ → Place → Leaf
leaf w p = record { text = w; at = p }

-- a text that is one token
abbrev pub alone : Kind → List ℕ → Place → List Token
alone k w p = token k (leaf w p) ∷ []

-- the empty text has no tokens
pub spells_nothing : (limit : ℕ) → Spells limit [] (λ p. [])
spells_nothing limit = record { size = λ p. omega arith; reads = λ tail p v h. refl }

-- texts in a row have their tokens in a row
pub spells_then : (limit : ℕ) (u w : List ℕ) (f g : Place → List Token) → Spells limit u f → Spells limit w g → Spells limit (u ++ w) (λ p. f p ++ g (past p u))
spells_then limit u w f g a b = record { size = size; reads = reads }
  where
    size : (p : Place) → total (f p ++ g (past p u)) ≤ length (u ++ w)
    size p = omega (arith, total-append (f p) (g (past p u)), length-append u w, a.size p, b.size (past p u))

    reads : (tail : Behind) (p : Place) (v : List ℕ) → AllShort limit (f p ++ g (past p u)) →
        tokens Lines limit tail false p ((u ++ w) ++ v) ≡ with_tokens (f p ++ g (past p u)) (tokens Lines limit tail false (past p (u ++ w)) v)
    reads tail p v h =
        let r = tokens Lines limit tail false (past (past p u) w) v in
        ap (tokens Lines limit tail false p) (append_assoc u w v)
        ∙ (a.reads tail p (w ++ v) (short_front limit (f p) (g (past p u)) h)
        ∙ (ap (with_tokens (f p)) (b.reads tail (past p u) v (short_rest limit (f p) (g (past p u)) h))
        ∙ (ap (λ (x : List Token). record { tokens = x; outcome = r.outcome; at = r.at }) (sym (append_assoc (f p) (g (past p u)) r.tokens))
        ∙ ap (λ q. with_tokens (f p ++ g (past p u)) (tokens Lines limit tail false q v)) (sym (past-append u w p)))))

-- a text is one token, if what follows cuts it
pub spells_alone : (limit c : ℕ) (w : List ℕ) (k : Kind) → ((v : List ℕ) → blank Lines false (c ∷ v) ≡ 0) → kind_of Lines (c ∷ w) ≡ Some k →
    is_fit k (c ∷ w) ≡ true →
    ((v : List ℕ) → Cut (c ∷ w) v) → is_live Lines (c ∷ w) ≡ false → Spells limit (c ∷ w) (alone k (c ∷ w))
spells_alone limit c w k z e f t dead = record {
  size = λ p. omega arith;
  reads = λ tail p v h. next_token tail limit p c w v k (z (w ++ v)) e f (t v) (cut_dead (c ∷ w) v (t v) (λ x. dead)) h.0;
}

-- a space or a tab cuts it, after which there may be more
pub spells_before_blanks : (limit c : ℕ) (w : List ℕ) (k : Kind) (b : ℕ) (bs : List ℕ) → all_have (is_space Lines) (b ∷ bs) ≡ true →
    ((v : List ℕ) → blank Lines false (c ∷ v) ≡ 0) → kind_of Lines (c ∷ w) ≡ Some k → is_fit k (c ∷ w) ≡ true →
    ((v : List ℕ) → Cut (c ∷ w) (b ∷ v)) → Spells limit (c ∷ w ++ b ∷ bs) (alone k (c ∷ w))
spells_before_blanks limit c w k b bs a z e f t = record {
  size = λ p. let s = length-append (c ∷ w) (b ∷ bs) in omega (arith, s);
  reads = λ tail p v h.
      ap (tokens Lines limit tail false p) (append_assoc (c ∷ w) (b ∷ bs) v)
      ∙ (next_token tail limit p c w (b ∷ bs ++ v) k (z (w ++ (b ∷ bs ++ v))) e f (t (bs ++ v))
      (cut_dead (c ∷ w) (b ∷ bs ++ v) (t (bs ++ v)) (λ x. absurd (let y : b ∷ bs ++ v ≡ [] = x in cc))) h.0
      ∙ ap (with_tokens (alone k (c ∷ w) p)) (skip_blanks tail limit (past p (c ∷ w)) (b ∷ bs) v a
      ∙ ap (λ q. tokens Lines limit tail false q v) (sym (past-append (c ∷ w) (b ∷ bs) p))));
}

-- so does one space
spells_before_space : (limit c : ℕ) (w : List ℕ) (k : Kind) → ((v : List ℕ) → blank Lines false (c ∷ v) ≡ 0) →
    kind_of Lines (c ∷ w) ≡ Some k → is_fit k (c ∷ w) ≡ true →
    ((v : List ℕ) → Cut (c ∷ w) (32 ∷ v)) → Spells limit (c ∷ w ++ space) (alone k (c ∷ w))
spells_before_space limit c w k = spells_before_blanks limit c w k 32 [] refl

-- spaces and tabs are no tokens
pub spells_blanks : (limit : ℕ) (bs : List ℕ) → all_have (is_space Lines) bs ≡ true → Spells limit bs (λ p. [])
spells_blanks limit bs a = record { size = λ p. omega arith; reads = λ tail p v h. skip_blanks tail limit p bs v a }

-- neither stands in an IRI, a label or a tag
pub iri_blank : (c : ℕ) → is_space Lines c ≡ true → uses (shape Lines IriRef) c ≡ false
unfolding shape has
iri_blank = of_blank (λ c. uses (shape Lines IriRef) c ≡ false) refl refl

pub label_blank : (c : ℕ) → is_space Lines c ≡ true → uses (shape Lines LabelNode) c ≡ false
unfolding shape has
label_blank = of_blank (λ c. uses (shape Lines LabelNode) c ≡ false) refl refl

pub tag_blank : (c : ℕ) → is_space Lines c ≡ true → uses (shape Lines LangTag) c ≡ false
unfolding shape has
tag_blank = of_blank (λ c. uses (shape Lines LangTag) c ≡ false) refl refl

abbrev pub Written : List Quad → Type 0
Written qs = AllByRecursion (λ q. IsQuad q × CanWrite Kept q) qs

-- the tokens of two texts are short where those of each are
pub short_both : (limit : ℕ) (ts us : List Token) → AllShort limit ts → AllShort limit us → AllShort limit (ts ++ us)
short_both limit [] us h k = k
short_both limit (t ∷ ts) us h k = (h.0, short_both limit ts us h.1 k)

module _ (form : Escapes) where
  -- an IRI in its brackets, as the scanner finds it
  spells_iri : (limit : ℕ) (i : List ℕ) → IsIri i → Spells limit (iri_text form i ++ space) (alone IriRef (iri_text form i))
  spells_iri limit i h =
      spells_before_space limit 60 (flat_map (written form) i ++ 62 ∷ []) IriRef (λ v. refl) (kind_at 60 IriRef begins_iri
      (flat_map (written form) i ++ 62 ∷ []) (iri_shape form i h.characters)) (iri_fit form i h.characters)
      (λ v. cut_by_other 60 IriRef begins_iri (flat_map (written form) i ++ 62 ∷ []) 32 v (iri_blank 32 refl))

  -- a label has the shape of its token
  pub label_shape : (x : List ℕ) → IsLabel x → Matches (shape Lines LabelNode) (95 ∷ 58 ∷ x)
  unfolding shape has
  label_shape x h = (95 ∷ 58 ∷ [], x, (95 ∷ [], 58 ∷ [], (95, refl, refl), (58 ∷ [], [], (58, refl, refl), refl, refl), refl), h, refl)

  -- and no escape that could be wrong
  pub label_fit : (w : List ℕ) → is_fit LabelNode w ≡ true
  unfolding is_fit
  label_fit w = refl

  -- so it is one token
  spells_label : (limit : ℕ) (x : List ℕ) → IsLabel x → Spells limit (95 ∷ 58 ∷ x ++ space) (alone LabelNode (95 ∷ 58 ∷ x))
  spells_label limit x h =
      spells_before_space limit 95 (58 ∷ x) LabelNode (λ v. refl) (kind_at 95 LabelNode begins_label (58 ∷ x) (label_shape x h)) (label_fit (95 ∷ 58 ∷ x))
      (λ v. cut_by_other 95 LabelNode begins_label (58 ∷ x) 32 v (label_blank 32 refl))

  -- a language tag has the shape of its token
  pub tag_shape : (t : List ℕ) → IsTag t → Matches (shape Lines LangTag) (64 ∷ t)
  unfolding shape has
  tag_shape t h = (64 ∷ [], t, (64, refl, refl), h, refl)

  -- and no escape that could be wrong
  pub tag_fit : (w : List ℕ) → is_fit LangTag w ≡ true
  unfolding is_fit
  tag_fit w = refl

  -- so it is one token
  spells_tag : (limit : ℕ) (t : List ℕ) → IsTag t → Spells limit (64 ∷ t ++ space) (alone LangTag (64 ∷ t))
  spells_tag limit t h =
      spells_before_space limit 64 t LangTag (λ v. refl) (kind_at 64 LangTag begins_tag t (tag_shape t h)) (tag_fit (64 ∷ t))
      (λ v. cut_by_other 64 LangTag begins_tag t 32 v (tag_blank 32 refl))

  -- a written string begins nothing longer
  string_dead : (w : List ℕ) → all_have scalar w ≡ true → is_live Lines (string_text form w) ≡ false
  string_dead w a = ⊎_elim (λ e. absurd (longer (live-matches Lines (string_text form w) e))) (λ e. e) (cases_Bool (is_live Lines (string_text form w)))
    where
      longer : (x : ℕ) × (u : List ℕ) × Matches (any_shape Lines kinds) (string_text form w ++ x ∷ u) → ⊥
      longer m = string_ends form w a m.0 m.1 (shape_at 34 ShortString begins_string _ m.2)

  -- so a string is one token whatever comes after it
  spells_string : (limit : ℕ) (w : List ℕ) → all_have scalar w ≡ true → Spells limit (string_text form w) (alone ShortString (string_text form w))
  spells_string limit w a =
      spells_alone limit 34 (flat_map (escaped form) w ++ 34 ∷ []) ShortString (λ v. refl)
      (kind_at 34 ShortString begins_string _ (string_shape form w a)) (string_fit form w a)
      (λ v. cut_by_shape 34 ShortString begins_string _ v (string_ends form w a)) (string_dead w a)

  -- two carets are a token, which nothing makes longer
  pub spells_carets : (limit : ℕ) → Spells limit (94 ∷ 94 ∷ []) (alone Carets (94 ∷ 94 ∷ []))
  unfolding kind_of is_live shape has is_fit
  spells_carets limit = spells_alone limit 94 (94 ∷ []) Carets (λ v. refl) refl refl (λ v. cut_by_dead (94 ∷ 94 ∷ []) v refl) refl

  -- so is the dot
  pub spells_dot : (limit : ℕ) → Spells limit (46 ∷ []) (alone Dot (46 ∷ []))
  unfolding kind_of is_live shape has is_fit
  spells_dot limit = spells_alone limit 46 [] Dot (λ v. refl) refl refl (λ v. cut_by_dead (46 ∷ []) v refl) refl

  -- so is a line feed
  pub spells_line_end : (limit : ℕ) → Spells limit (10 ∷ []) (alone LineEnd (10 ∷ []))
  unfolding kind_of is_live shape has is_fit
  spells_line_end limit = spells_alone limit 10 [] LineEnd (λ v. refl) refl refl (λ v. cut_by_dead (10 ∷ []) v refl) refl

  -- so is a CR, which stands before it in lines that end in both
  pub spells_cr : (limit : ℕ) → Spells limit (13 ∷ []) (alone LineEnd (13 ∷ []))
  unfolding kind_of is_live shape has is_fit
  spells_cr limit = spells_alone limit 13 [] LineEnd (λ v. refl) refl refl (λ v. cut_by_dead (13 ∷ []) v refl) refl

  abbrev pub name_tree : Place → Subject → Name
  name_tree p (Iri i) = Ref (leaf (iri_text form i) p)
  name_tree p (Blank n) = Lab (leaf (node_text n) p)

  abbrev pub typed_tree : Bool → Place → List ℕ → List ℕ → Object
  typed_tree true p w i = Plain (leaf (string_text form w) p)
  typed_tree false p w i =
      WithType (leaf (string_text form w) p) (leaf (94 ∷ 94 ∷ []) (past p (string_text form w)))
      (leaf (iri_text form i) (past (past p (string_text form w)) (94 ∷ 94 ∷ [])))

  abbrev pub object_tree : Place → Term → Object
  object_tree p (Resource s) = Named (name_tree p s)
  object_tree p (Literal w (Lang t)) = WithTag (leaf (string_text form w) p) (leaf (64 ∷ t) (past p (string_text form w)))
  object_tree p (Literal w (Typed i)) = typed_tree (bytes_eq i xsd_string) p w i

  abbrev pub graph_tree : Place → Option Subject → Option Name
  graph_tree p None = None
  graph_tree p (Some g) = Some (name_tree p g)

  abbrev pub upto_subject : Quad → List ℕ
  upto_subject q = subject_text form q.subject ++ space

  abbrev pub upto_predicate : Quad → List ℕ
  upto_predicate q = upto_subject q ++ (iri_text form q.predicate ++ space)

  abbrev pub upto_object : Quad → List ℕ
  upto_object q = upto_predicate q ++ (term_text form q.object ++ space)

  abbrev pub upto_graph : Quad → List ℕ
  upto_graph q = upto_object q ++ graph_text form q.graph

  abbrev pub statement_tree : Place → Quad → Statement
  statement_tree p q = record {
    subject = name_tree p q.subject;
    predicate = leaf (iri_text form q.predicate) (past p (upto_subject q));
    object = object_tree (past p (upto_predicate q)) q.object;
    graph = graph_tree (past p (upto_object q)) q.graph;
    dot = leaf (46 ∷ []) (past p (upto_graph q));
  }

  abbrev pub document_tree : Place → List Quad → Document
  document_tree p [] = last L.empty (leaf [] p)
  document_tree p (q ∷ qs) =
      next (L.one (statement_tree p q)) (leaf (10 ∷ []) (past p (upto_graph q ++ 46 ∷ []))) (document_tree (past p (quad_text form q)) qs)

  -- a subject is one token
  spells_name : (limit : ℕ) (s : Subject) → IsSubject s → CanWriteSubject Kept s →
      Spells limit (subject_text form s ++ space) (λ p. name_tokens (name_tree p s))
  spells_name limit (Iri i) h c = spells_iri limit i h
  spells_name limit (Blank (Label x)) h c = spells_label limit x h
  spells_name limit (Blank (Anon n)) h c = absurd c
  spells_name limit (Blank (Cell n)) h c = absurd c

  -- a literal with a datatype is one token, or three where the type is written
  spells_typed : (limit : ℕ) (b : Bool) (w i : List ℕ) → all_have scalar w ≡ true → IsIri i →
      Spells limit (string_text form w ++ type_text form b i ++ space) (λ p. object_tokens (typed_tree b p w i))
  spells_typed limit true w i a h =
      subst (λ x. Spells limit x (λ p. object_tokens (typed_tree true p w i))) (ap (λ x. x ++ space) (sym (append-nil (string_text form w))))
      (spells_then limit (string_text form w) space (alone ShortString (string_text form w)) (λ p. []) (spells_string limit w a) (spells_blanks limit space refl))
  spells_typed limit false w i a h =
      subst (λ x. Spells limit x (λ p. object_tokens (typed_tree false p w i))) (sym (append_assoc (string_text form w) (94 ∷ 94 ∷ iri_text form i) space))
      (spells_then limit (string_text form w) (94 ∷ 94 ∷ iri_text form i ++ space) (alone ShortString (string_text form w))
      (λ p. alone Carets (94 ∷ 94 ∷ []) p ++ alone IriRef (iri_text form i) (past p (94 ∷ 94 ∷ [])))
      (spells_string limit w a)
      (spells_then limit (94 ∷ 94 ∷ []) (iri_text form i ++ space) (alone Carets (94 ∷ 94 ∷ [])) (alone IriRef (iri_text form i))
      (spells_carets limit) (spells_iri limit i h)))

  -- an object has the tokens of its tree
  spells_object : (limit : ℕ) (t : Term) → IsTerm t → CanWriteTerm Kept t → Spells limit (term_text form t ++ space) (λ p. object_tokens (object_tree p t))
  spells_object limit (Resource s) h c = spells_name limit s h c
  spells_object limit (Literal w (Lang t)) h c =
      subst (λ x. Spells limit x (λ p. object_tokens (object_tree p (Literal w (Lang t))))) (sym (append_assoc (string_text form w) (64 ∷ t) space))
      (spells_then limit (string_text form w) (64 ∷ t ++ space) (alone ShortString (string_text form w)) (alone LangTag (64 ∷ t))
      (spells_string limit w h.0) (spells_tag limit t h.1))
  spells_object limit (Literal w (Typed i)) h c = spells_typed limit (bytes_eq i xsd_string) w i h.0 h.1

  -- so has a graph label
  spells_graph : (limit : ℕ) (g : Option Subject) → IsGraph g → CanWriteGraph Kept g → Spells limit (graph_text form g) (λ p. graph_tokens (graph_tree p g))
  spells_graph limit None h c = spells_nothing limit
  spells_graph limit (Some g) h c = spells_name limit g h c

  -- so has a statement, up to its dot
  pub spells_statement : (limit : ℕ) (q : Quad) → IsQuad q → CanWrite Kept q →
      Spells limit (upto_graph q ++ 46 ∷ []) (λ p. statement_tokens (statement_tree p q))
  spells_statement limit q h c =
      spells_then limit (upto_graph q) (46 ∷ [])
      (λ p. name_tokens (name_tree p q.subject) ++ alone IriRef (iri_text form q.predicate) (past p (upto_subject q)) ++ object_tokens
      (object_tree (past p (upto_predicate q)) q.object) ++ graph_tokens (graph_tree (past p (upto_object q)) q.graph))
      (alone Dot (46 ∷ []))
      (spells_then limit (upto_object q) (graph_text form q.graph)
      (λ p. name_tokens (name_tree p q.subject) ++ alone IriRef (iri_text form q.predicate) (past p (upto_subject q)) ++ object_tokens
      (object_tree (past p (upto_predicate q)) q.object))
      (λ p. graph_tokens (graph_tree p q.graph))
      (spells_then limit (upto_predicate q) (term_text form q.object ++ space)
      (λ p. name_tokens (name_tree p q.subject) ++ alone IriRef (iri_text form q.predicate) (past p (upto_subject q)))
      (λ p. object_tokens (object_tree p q.object))
      (spells_then limit (upto_subject q) (iri_text form q.predicate ++ space) (λ p. name_tokens (name_tree p q.subject))
      (alone IriRef (iri_text form q.predicate))
      (spells_name limit q.subject h.subject c.subject)
      (spells_iri limit q.predicate h.predicate))
      (spells_object limit q.object h.object c.object))
      (spells_graph limit q.graph h.graph c.graph))
      (spells_dot limit)

  -- and a line, up to its end
  spells_line : (limit : ℕ) (q : Quad) → IsQuad q → CanWrite Kept q →
      Spells limit (quad_text form q) (λ p. statement_tokens (statement_tree p q) ++ alone LineEnd (10 ∷ []) (past p (upto_graph q ++ 46 ∷ [])))
  spells_line limit q h c =
      spells_then limit (upto_graph q ++ 46 ∷ []) (10 ∷ []) (λ p. statement_tokens (statement_tree p q)) (alone LineEnd (10 ∷ []))
      (spells_statement limit q h c) (spells_line_end limit)

  -- after the last line only the end is read
  reads_end : (limit : ℕ) (p : Place) → tokens Lines limit ended false p [] ≡ record { tokens = alone End [] p; outcome = complete; at = p }
  unfolding step
  reads_end limit p = at_stop Lines limit ended false p [] complete (ends limit)
    where
      ends : (limit : ℕ) → step Lines limit ended [] ≡ stop complete
      ends limit = cond-false (over Lines limit []) _ _ (and_left (nat_lt limit 0) _ (le-ltb limit 0 (omega arith)))

  -- the tokens have no more characters than the text, so a limit of its length suffices
  text_size : (limit : ℕ) (qs : List Quad) → Written qs → (p : Place) → total (document_tokens (document_tree p qs)) ≤ length (flat_map (quad_text form) qs)
  text_size limit [] h p = omega arith
  text_size limit (q ∷ qs) h p =
      let w = quad_text form q in
      let f = statement_tokens (statement_tree p q) in
      let e = alone LineEnd (10 ∷ []) (past p (upto_graph q ++ 46 ∷ [])) in
      let line = (spells_line limit q h.0.0 h.0.1).size p in
      let more = text_size limit qs h.1 (past p w) in
      let ts = document_tokens (document_tree (past p w) qs) in
      let parts : total (f ++ (e ++ ts)) ≡ total (f ++ e) + total ts = ap total (sym (append_assoc f e ts)) ∙ total-append (f ++ e) ts in
      omega (arith, line, more, parts, length-append w (flat_map (quad_text form) qs))

  -- the scanner finds the tokens of the tree in all lines, where none is too long
  reads_text : (limit : ℕ) (qs : List Quad) → Written qs → (p : Place) → AllShort limit (document_tokens (document_tree p qs)) →
      tokens Lines limit ended false p (flat_map (quad_text form) qs)
      ≡ record { tokens = document_tokens (document_tree p qs); outcome = complete; at = past p (flat_map (quad_text form) qs) }
  reads_text limit [] h p s = reads_end limit p
  reads_text limit (q ∷ qs) h p s =
      let w = quad_text form q in
      let rest = flat_map (quad_text form) qs in
      let f = statement_tokens (statement_tree p q) in
      let e = alone LineEnd (10 ∷ []) (past p (upto_graph q ++ 46 ∷ [])) in
      let ts = document_tokens (document_tree (past p w) qs) in
      let all : AllShort limit ((f ++ e) ++ ts) = subst (AllShort limit) (sym (append_assoc f e ts)) s in
      let m = reads_text limit qs h.1 (past p w) (short_rest limit (f ++ e) ts all) in
      (spells_line limit q h.0.0 h.0.1).reads ended p rest (short_front limit (f ++ e) ts all)
      ∙ (ap (with_tokens (f ++ e)) m
      ∙ (ap (λ (x : List Token). record { tokens = x; outcome = complete; at = past (past p w) rest })
      (append_assoc f e (document_tokens (document_tree (past p w) qs)))
      ∙ ap (λ (x : Place). record { tokens = document_tokens (document_tree p (q ∷ qs)); outcome = complete; at = x }) (sym (past-append w rest p))))

  -- the token of a subject is as long as its text
  pub name_short : (limit : ℕ) (p : Place) (s : Subject) → length (subject_text form s) ≤ limit → AllShort limit (name_tokens (name_tree p s))
  name_short limit p (Iri i) h = (h, tt)
  name_short limit p (Blank n) h = (h, tt)

  -- those of a literal with a datatype are its string, its IRI, and the two carets
  typed_short : (limit : ℕ) (p : Place) (b : Bool) (w i : List ℕ) → 2 ≤ limit → length (string_text form w) ≤ limit →
      length (iri_text form i) ≤ limit → AllShort limit (object_tokens (typed_tree b p w i))
  typed_short limit p true w i t h k = (h, tt)
  typed_short limit p false w i t h k = (h, (t, (k, tt)))

  -- those of an object keep the limit where its parts do
  object_short : (limit : ℕ) (p : Place) (t : Term) → 2 ≤ limit → TermShort form limit t → AllShort limit (object_tokens (object_tree p t))
  object_short limit p (Resource s) e h = name_short limit p s h
  object_short limit p (Literal w (Lang t)) e h = (h.0, (h.1, tt))
  object_short limit p (Literal w (Typed i)) e h = typed_short limit p (bytes_eq i xsd_string) w i e h.0 h.1

  -- that of a graph label is as long as its text
  graph_short : (limit : ℕ) (p : Place) (g : Option Subject) → GraphShort form limit g → AllShort limit (graph_tokens (graph_tree p g))
  graph_short limit p None h = tt
  graph_short limit p (Some g) h = name_short limit p g h

  -- so those of a statement and its dot keep the limit
  pub statement_short : (limit : ℕ) (p : Place) (q : Quad) → 2 ≤ limit → TokensWithin form limit q → AllShort limit (statement_tokens (statement_tree p q))
  statement_short limit p q e h =
      let s = statement_tree p q in
      let n = name_tokens s.subject in
      let i = token IriRef s.predicate ∷ [] in
      let o = object_tokens s.object in
      short_both limit (n ++ i ++ o ++ graph_tokens s.graph) (token Dot s.dot ∷ [])
      (short_both limit (n ++ i ++ o) (graph_tokens s.graph)
      (short_both limit (n ++ i) o
      (short_both limit n i (name_short limit p q.subject h.subject) (h.predicate, tt))
      (object_short limit (past p (upto_predicate q)) q.object e h.object))
      (graph_short limit (past p (upto_object q)) q.graph h.graph))
      (omega arith, tt)

  -- those of all lines: this is how the limit on tokens is met
  pub document_short : (limit : ℕ) (qs : List Quad) → 2 ≤ limit → AllByRecursion (TokensWithin form limit) qs → (p : Place) →
      AllShort limit (document_tokens (document_tree p qs))
  document_short limit [] e h p = (omega arith, tt)
  document_short limit (q ∷ qs) e h p =
      short_both limit (statement_tokens (statement_tree p q)) (token LineEnd
      (leaf (10 ∷ []) (past p (upto_graph q ++ 46 ∷ []))) ∷ document_tokens (document_tree (past p (quad_text form q)) qs))
      (statement_short limit p q e h.0)
      (omega arith, document_short limit qs e h.1 (past p (quad_text form q)))

  -- the token of a written IRI means the IRI
  iri_leaf : (i : List ℕ) → IsIri i → (p : Place) → iri_of (leaf (iri_text form i) p) ≡ i
  iri_leaf i h p = ap (λ x. unwrap_or (iri_value x) []) (inside_one 60 62 (flat_map (written form) i))
      ∙ ap (λ x. unwrap_or x []) (iri_meant form i h.characters)

  -- the token of a written string means its characters
  string_leaf : (w : List ℕ) → all_have scalar w ≡ true → (p : Place) → string_of (leaf (string_text form w) p) ≡ w
  string_leaf w a p = ap (λ x. unwrap_or (string_value x) []) (inside_one 34 34 (flat_map (escaped form) w)) ∙ ap (λ x. unwrap_or x []) (string_meant form w a)

  -- and the IRI has its scheme, so the reader takes it
  iri_bound : (i : List ℕ) → IsIri i → (p : Place) → has_scheme (iri_of (leaf (iri_text form i) p)) ≡ true
  iri_bound i h p = ap has_scheme (iri_leaf i h p) ∙ h.scheme

  -- the tree of a subject means the subject
  name_meant : (p : Place) (s : Subject) → IsSubject s → CanWriteSubject Kept s → (subject_of (name_tree p s) ≡ s) × name_bound has_scheme (name_tree p s)
  name_meant p (Iri i) h c = (ap Iri (iri_leaf i h p), iri_bound i h p)
  name_meant p (Blank (Label x)) h c = (refl, tt)
  name_meant p (Blank (Anon n)) h c = absurd c
  name_meant p (Blank (Cell n)) h c = absurd c

  -- that of a literal with a datatype means the literal, also where the datatype is left out
  typed_meant : (p : Place) (b : Bool) (w i : List ℕ) → (b ≡ true → i ≡ xsd_string) → all_have scalar w ≡ true → IsIri i →
      (term_of (typed_tree b p w i) ≡ Literal w (Typed i)) × object_bound has_scheme (typed_tree b p w i)
  typed_meant p true w i e a h = (ap (λ x. Literal x (Typed xsd_string)) (string_leaf w a p) ∙ ap (λ x. Literal w (Typed x)) (sym (e refl)), tt)
  typed_meant p false w i e a h = (
    ap (λ x. Literal x (Typed (iri_of (leaf (iri_text form i) (past (past p (string_text form w)) (94 ∷ 94 ∷ [])))))) (string_leaf w a p)
        ∙ ap (λ x. Literal w (Typed x)) (iri_leaf i h (past (past p (string_text form w)) (94 ∷ 94 ∷ []))),
    iri_bound i h (past (past p (string_text form w)) (94 ∷ 94 ∷ [])),
  )

  -- that of an object means the object
  object_meant : (p : Place) (t : Term) → IsTerm t → CanWriteTerm Kept t → (term_of (object_tree p t) ≡ t) × object_bound has_scheme (object_tree p t)
  object_meant p (Resource s) h c = let m = name_meant p s h c in (ap Resource m.0, m.1)
  object_meant p (Literal w (Lang t)) h c = (ap (λ x. Literal x (Lang t)) (string_leaf w h.0 p), tt)
  object_meant p (Literal w (Typed i)) h c = typed_meant p (bytes_eq i xsd_string) w i (bytes_eq-Decides i xsd_string).0 h.0 h.1

  -- that of a graph label means the label
  graph_meant : (p : Place) (g : Option Subject) → IsGraph g → CanWriteGraph Kept g →
      (option_map subject_of (graph_tree p g) ≡ g) × graph_bound has_scheme (graph_tree p g)
  graph_meant p None h c = (refl, tt)
  graph_meant p (Some g) h c = let m = name_meant p g h c in (ap (λ x. Some x) m.0, m.1)

  -- a quad is the same where its four parts are
  pub same_quad : (q : Quad) (s : Subject) (v : List ℕ) (o : Term) (g : Option Subject) → s ≡ q.subject → v ≡ q.predicate → o ≡ q.object → g ≡ q.graph →
      (let r : Quad = record { subject = s; predicate = v; object = o; graph = g } in r) ≡ q
  same_quad q s v o g a b c d =
      ap (λ (x : Subject). let r : Quad = record { subject = x; predicate = v; object = o; graph = g } in r) a
      ∙ (ap (λ (x : List ℕ). let r : Quad = record { subject = q.subject; predicate = x; object = o; graph = g } in r) b
      ∙ (ap (λ (x : Term). let r : Quad = record { subject = q.subject; predicate = q.predicate; object = x; graph = g } in r) c
      ∙ ap (λ (x : Option Subject). let r : Quad = record { subject = q.subject; predicate = q.predicate; object = q.object; graph = x } in r) d))

  -- so the tree of a line means its quad, and is a statement of N-Quads
  pub statement_meant : (p : Place) (q : Quad) → IsQuad q → CanWrite Kept q →
      (quad_of (statement_tree p q) ≡ q) × GoodStatement has_scheme NQuads (statement_tree p q)
  statement_meant p q h c =
      let s = name_meant p q.subject h.subject c.subject in
      let v = iri_leaf q.predicate h.predicate (past p (upto_subject q)) in
      let o = object_meant (past p (upto_predicate q)) q.object h.object c.object in
      let g = graph_meant (past p (upto_object q)) q.graph h.graph c.graph in (
        same_quad q _ _ _ _ s.0 v o.0 g.0,
        record { subject = s.1; predicate = iri_bound q.predicate h.predicate (past p (upto_subject q)); object = o.1; graph = g.1; labels = tt },
      )

  -- and that of the text means the quads
  document_meant : (p : Place) (qs : List Quad) → Written qs → (plain_quads (document_tree p qs) ≡ qs) × GoodDocument has_scheme NQuads (document_tree p qs)
  document_meant p [] h = (refl, tt)
  document_meant p (q ∷ qs) h =
      let s = statement_meant p q h.0.0 h.0.1 in
      let d = document_meant (past p (quad_text form q)) qs h.1 in
      (ap (λ x. x ∷ plain_quads (document_tree (past p (quad_text form q)) qs)) s.0 ∙ ap (λ x. q ∷ x) d.0, (s.1, d.1))

  -- so what is written is a document of those quads
  pub reads_back : (limit : ℕ) (qs : List Quad) → Written qs → (p : Place) → AllShort limit (document_tokens (document_tree p qs)) →
      ((tokens Lines limit ended false p (flat_map (quad_text form) qs)).outcome ≡ complete) × IsPlain has_scheme NQuads
      (tokens Lines limit ended false p (flat_map (quad_text form) qs)).tokens qs
  reads_back limit qs h p s =
      let r = reads_text limit qs h p s in
      let m = document_meant p qs h in
      (ap (λ x. x.outcome) r, (document_tree p qs, ap (λ x. x.tokens) r, m.1, m.0))

  -- with a limit of the text's length no token is too long
  pub text_short : (limit : ℕ) (qs : List Quad) → Written qs → length (flat_map (quad_text form) qs) ≤ limit → (p : Place) →
      AllShort limit (document_tokens (document_tree p qs))
  text_short limit qs h l p = total_short limit (document_tokens (document_tree p qs)) (let s = text_size limit qs h p in omega arith)

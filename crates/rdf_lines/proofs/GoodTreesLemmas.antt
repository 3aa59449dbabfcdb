-- A tree of the form is one whose tokens have IRIs that pass the test, and whose quads have graphs where the form has them.
use Rattle.rdf_lines.proofs.Prelude.{◌≡◌, ℕ, ◌+◌, Bool, List, [], ◌∷◌, ◌++◌, length, Option, Some, None, option_map, refl, ap, AllByRecursion, Kind, IriRef, LabelNode, ShortString, LangTag, Carets, Dot, LineEnd, End, Token, Marked, Leaf, LineForm, NTriples, NQuads, Name, Ref, Lab, Object, Named, WithType, WithTag, Statement, Document, last, next, name_tokens, object_tokens, graph_tokens, head_tokens, statement_tokens, line_tokens, document_tokens, document_quads, subject_of, iri_passes, graph_fits, name_bound, object_bound, graph_bound, GoodStatement, GoodDocument}
use Rattle.rdf_tokens.specs.Leaves.{token}
use Rattle.rdf_lines.specs.Lines.{Plain}
use Rattle.rdf_lines.specs.Lines as L

-- the elements of two lists, one after the other
pub split : (P : Token → Type 0) (ts us : List Token) → AllByRecursion P (ts ++ us) → AllByRecursion P ts × AllByRecursion P us
split P [] us h = (tt, h)
split P (t ∷ ts) us h = let r = split P ts us h.1 in ((h.0, r.0), r.1)

-- and all of both
join : (P : Token → Type 0) (ts us : List Token) → AllByRecursion P ts → AllByRecursion P us → AllByRecursion P (ts ++ us)
join P [] us a b = b
join P (t ∷ ts) us a b = (a.0, join P ts us a.1 b)

-- the graph of a statement's quad is that of its label
label_fits : (f : LineForm) (g : Option Name) → graph_fits f (option_map subject_of g) → graph_fits f g
label_fits NTriples None h = refl
label_fits NTriples (Some n) h = absurd (let z : Some (subject_of n) ≡ None = h in cc)
label_fits NQuads g h = tt

fits_label : (f : LineForm) (g : Option Name) → graph_fits f g → graph_fits f (option_map subject_of g)
fits_label NTriples g h = ap (option_map subject_of) h
fits_label NQuads g h = tt

module _ (test : List ℕ → Bool) where
  abbrev Pass : List Token → Type 0
  Pass ts = AllByRecursion (iri_passes test) ts

  -- From the tokens to the tree.
  name_good : (n : Name) → Pass (name_tokens n) → name_bound test n
  name_good (Ref l) h = h.0 refl
  name_good (Lab l) h = tt

  object_good : (o : Object) → Pass (object_tokens o) → object_bound test o
  object_good (Named n) h = name_good n h
  object_good (Plain s) h = tt
  object_good (WithType s c i) h = h.1.1.0 refl
  object_good (WithTag s t) h = tt

  graph_good : (g : Option Name) → Pass (graph_tokens g) → graph_bound test g
  graph_good None h = tt
  graph_good (Some n) h = name_good n h

  statement_good : (f : LineForm) (s : Statement) → Pass (statement_tokens s) → graph_fits f (option_map subject_of s.graph) → GoodStatement test f s
  statement_good f s h g =
      let P = iri_passes test in
      let n = name_tokens s.subject in
      let p = token IriRef s.predicate ∷ [] in
      let o = object_tokens s.object in
      let x = split P (n ++ p ++ o) (graph_tokens s.graph) (split P (head_tokens s) (token Dot s.dot ∷ []) h).0 in
      let y = split P (n ++ p) o x.0 in
      let z = split P n p y.0 in
      record {
        subject = name_good s.subject z.0;
        predicate = z.1.0 refl;
        object = object_good s.object y.1;
        graph = graph_good s.graph x.1;
        labels = label_fits f s.graph g;
      }

  pub tree_good : (f : LineForm) (d : Document) (n : ℕ) → Pass (document_tokens d) →
      AllByRecursion (λ (q : Marked). graph_fits f q.item.graph) (document_quads n d) →
      GoodDocument test f d
  tree_good f (last L.empty e) n h g = tt
  tree_good f (last (L.one s) e) n h g = statement_good f s (split (iri_passes test) (statement_tokens s) (token End e ∷ []) h).0 g.0
  tree_good f (next L.empty e d) n h g = (tt, tree_good f d (n + length (line_tokens L.empty) + 1) h.1 g)
  tree_good f (next (L.one s) e d) n h g =
      let x = split (iri_passes test) (statement_tokens s) (token LineEnd e ∷ document_tokens d) h in
      (statement_good f s x.0 g.0, tree_good f d (n + length (line_tokens (L.one s)) + 1) x.1.1 g.1)

  -- And back: a token of another kind passes.
  other : (k : Kind) (l : Leaf) → (k ≡ IriRef → ⊥) → iri_passes test (token k l)
  other k l n = λ e. absurd (n e)

  name_passes : (n : Name) → name_bound test n → Pass (name_tokens n)
  name_passes (Ref l) h = ((λ e. h), tt)
  name_passes (Lab l) h = (other LabelNode l (λ e. cc), tt)

  object_passes : (o : Object) → object_bound test o → Pass (object_tokens o)
  object_passes (Named n) h = name_passes n h
  object_passes (Plain s) h = (other ShortString s (λ e. cc), tt)
  object_passes (WithType s c i) h = (other ShortString s (λ e. cc), (other Carets c (λ e. cc), ((λ e. h), tt)))
  object_passes (WithTag s t) h = (other ShortString s (λ e. cc), (other LangTag t (λ e. cc), tt))

  graph_passes : (g : Option Name) → graph_bound test g → Pass (graph_tokens g)
  graph_passes None h = tt
  graph_passes (Some n) h = name_passes n h

  statement_passes : (f : LineForm) (s : Statement) → GoodStatement test f s → Pass (statement_tokens s)
  statement_passes f s h =
      let P = iri_passes test in
      let n = name_tokens s.subject in
      let p = token IriRef s.predicate ∷ [] in
      let o = object_tokens s.object in
      let x = join P n p (name_passes s.subject h.subject) ((λ e. h.predicate), tt) in
      let y = join P (n ++ p) o x (object_passes s.object h.object) in
      let z = join P (n ++ p ++ o) (graph_tokens s.graph) y (graph_passes s.graph h.graph) in
      join P (head_tokens s) (token Dot s.dot ∷ []) z (other Dot s.dot (λ e. cc), tt)

  pub tree_passes : (f : LineForm) (d : Document) → GoodDocument test f d → Pass (document_tokens d)
  tree_passes f (last L.empty e) h = (other End e (λ e. cc), tt)
  tree_passes f (last (L.one s) e) h = join (iri_passes test) (statement_tokens s) (token End e ∷ []) (statement_passes f s h) (other End e (λ e. cc), tt)
  tree_passes f (next L.empty e d) h = (other LineEnd e (λ e. cc), tree_passes f d h.1)
  tree_passes f (next (L.one s) e d) h =
      join (iri_passes test) (statement_tokens s) (token LineEnd e ∷ document_tokens d) (statement_passes f s h.0)
      (other LineEnd e (λ e. cc), tree_passes f d h.1)

  pub tree_labels : (f : LineForm) (d : Document) (n : ℕ) → GoodDocument test f d →
      AllByRecursion (λ (q : Marked). graph_fits f q.item.graph) (document_quads n d)
  tree_labels f (last L.empty e) n h = tt
  tree_labels f (last (L.one s) e) n h = (fits_label f s.graph h.labels, tt)
  tree_labels f (next L.empty e d) n h = tree_labels f d (n + length (line_tokens L.empty) + 1) h.1
  tree_labels f (next (L.one s) e d) n h = (fits_label f s.graph h.0.labels, tree_labels f d (n + length (line_tokens (L.one s)) + 1) h.1)

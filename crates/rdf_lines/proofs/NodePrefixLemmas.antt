-- Names with a word in front: they stay well formed and apart, and without a word they are as they were.
use Rattle.rdf_lines.proofs.Prelude.{◌≡◌, ℕ, ◌<◌, ◌⊎◌, true, List, [], ◌∷◌, ◌++◌, length, take, refl, sym, ap, ◌∙◌, subst, Option, Some, None, ⊎_elim, inl, inr, arith, decimal, map, option_map, AllByRecursion, chars, take-append_seam, and_parts, or_cases, nat_tests, append_cancel_left, chars-nil, Lines, is_letter, is_digit, digit, pn_u, Node, Label, Anon, Cell, Subject, Blank, Term, Resource, Literal, Quad, all_have, IsLabel, IsNode, Escapes, Style, Kept, Tagged, rename_node, map_subject, map_term, map_nodes, rename, quad_text, line, text, CanWriteNode, HasAsciiLabel, is_word_char, IsNodePrefix, prefix_node, put_prefix, Form, unprefixed, named, line_in, name_node, NamesStayApart, PrefixesKeepApart, NoPrefixIsNoChange}
use mathlib.Core.Bool.{Bool-set}
use Rattle.std.proofs.Math.Logic.{∥∥₁_elim}
use Rattle.rdf_terms.specs.Classes.{has}
use Rattle.rdf_terms.specs.Terms.{Iri}
use Rattle.rdf_lines.specs.NodePrefixes.{text_in}
use Rattle.rdf_lines.proofs.AsciiLemmas.{joined, number_low}
use Rattle.rdf_lines.proofs.Renamed.{label_front, renamed_node, rename_injective}

-- Where each node stays as it is, so does a quad.
module _ (f : Node → Node) (same : (n : Node) → f n ≡ n) where
  -- an IRI or a node
  subject_same : (s : Subject) → map_subject f s ≡ s
  subject_same (Iri i) = refl
  subject_same (Blank n) = ap Blank (same n)

  -- so does an object
  term_same : (t : Term) → map_term f t ≡ t
  term_same (Resource s) = ap Resource (subject_same s)
  term_same (Literal w t) = refl

  -- so does a graph label
  graph_same : (g : Option Subject) → option_map (map_subject f) g ≡ g
  graph_same None = refl
  graph_same (Some g) = ap Some (subject_same g)

  -- so do all parts
  pub quad_same : (q : Quad) → map_nodes f q ≡ q
  quad_same q =
      ap (λ s. record { subject = s; predicate = q.predicate; object = map_term f q.object; graph = option_map (map_subject f) q.graph })
      (subject_same q.subject)
      ∙ (ap (λ t. record { subject = q.subject; predicate = q.predicate; object = t; graph = option_map (map_subject f) q.graph }) (term_same q.object)
      ∙ ap (λ (g : Option Subject). record { subject = q.subject; predicate = q.predicate; object = q.object; graph = g }) (graph_same q.graph))

-- The empty word changes nothing.
put_nothing : (q : Quad) → put_prefix [] q ≡ q
put_nothing q = quad_same (prefix_node []) node_same q
  where
    node_same : (n : Node) → prefix_node [] n ≡ n
    node_same (Label x) = refl
    node_same (Anon n) = refl
    node_same (Cell n) = refl

-- so the line is that of the style and the escapes
pub line_unprefixed : (s : Style) (e : Escapes) (q : Quad) → line_in (unprefixed s e) q ≡ line s e q
line_unprefixed s e q = ap (quad_text e) (put_nothing (rename s q))

-- line by line
pub text_unprefixed : (s : Style) (e : Escapes) (qs : List Quad) → text_in (unprefixed s e) qs ≡ text s e qs
text_unprefixed s e [] = refl
text_unprefixed s e (q ∷ qs) = ap (λ x. x ++ text_in (unprefixed s e) qs) (line_unprefixed s e q) ∙ ap (λ x. line s e q ++ x) (text_unprefixed s e qs)

-- and the nodes are named as the style names them
pub no_change : NoPrefixIsNoChange
no_change s e qs = (text_unprefixed s e qs, names s e qs)
  where
    names : (s : Style) (e : Escapes) (qs : List Quad) → map (named (unprefixed s e)) qs ≡ map (rename s) qs
    names s e [] = refl
    names s e (q ∷ qs) = ap (λ x. x ∷ map (named (unprefixed s e)) qs) (put_nothing (rename s q)) ∙ ap (λ x. rename s q ∷ x) (names s e qs)

-- there is no character in the empty text, so it is a word
pub no_chars : chars [] ≡ []
no_chars = chars-nil

-- so the form without a word is one of the forms that the laws speak of
pub no_word : IsNodePrefix (chars [])
no_word = ap (all_have is_word_char) chars-nil

-- A word and a label are a label.
word_begins : (c : ℕ) → is_word_char c ≡ true → (has (pn_u Lines) c ≡ true) ⊎ (has digit c ≡ true)
unfolding has
word_begins c h = ⊎_elim (λ l. inl (grind (arith, nat_tests))) (λ d. inr (grind (arith, nat_tests))) (or_cases (is_letter c) (is_digit c) h)

-- a word in front of a label makes a label
prefixed_label : (p : List ℕ) → IsNodePrefix p → (x : List ℕ) → IsLabel x → IsLabel (p ++ x)
prefixed_label [] h x l = l
prefixed_label (c ∷ p) h x l =
    let a = and_parts (is_word_char c) (all_have is_word_char p) h in
    label_front c (p ++ x) (word_begins c a.0) (prefixed_label p a.1 x l)

-- so a node that a form names is one still
pub named_node : (f : Form) → IsNodePrefix f.prefix → (n : Node) → IsNode n → IsNode (name_node f n)
named_node f h n i = prefixed_node (rename_node f.style n) (renamed_node f.style n i)
  where
    prefixed_node : (n : Node) → IsNode n → IsNode (prefix_node f.prefix n)
    prefixed_node (Label x) i = prefixed_label f.prefix h x i
    prefixed_node (Anon n) i = i
    prefixed_node (Cell n) i = i

-- A word in front keeps names apart.
prefix_injective : (p : List ℕ) (m n : Node) → prefix_node p m ≡ prefix_node p n → m ≡ n
prefix_injective p (Label x) (Label y) e = let z : p ++ x ≡ p ++ y = cc in ap Label (append_cancel_left p x y z)
prefix_injective p (Label x) (Anon n) e = absurd (let z : Label (p ++ x) ≡ Anon n = e in cc)
prefix_injective p (Label x) (Cell n) e = absurd (let z : Label (p ++ x) ≡ Cell n = e in cc)
prefix_injective p (Anon n) (Label x) e = absurd (let z : Anon n ≡ Label (p ++ x) = e in cc)
prefix_injective p (Cell n) (Label x) e = absurd (let z : Cell n ≡ Label (p ++ x) = e in cc)
prefix_injective p (Anon m) (Anon n) e = e
prefix_injective p (Anon m) (Cell n) e = e
prefix_injective p (Cell m) (Anon n) e = e
prefix_injective p (Cell m) (Cell n) e = e

-- so in one form no two nodes have one name
pub names_apart : NamesStayApart
names_apart f m n g h e = rename_injective f.style m n g h (prefix_injective f.prefix (rename_node f.style m) (rename_node f.style n) e)

-- Labels with two words of one length in front are equal only where the words are.
words_equal : (p r x y : List ℕ) → length p ≡ length r → p ++ x ≡ r ++ y → p ≡ r
words_equal p r x y l e = sym (take-append_seam p x) ∙ (ap (λ n. take n (p ++ x)) l ∙ (ap (take (length r)) e ∙ take-append_seam r y))

-- a node that can be written has a label, and the word in front of it
labelled : (s : Style) (n : Node) → CanWriteNode s n → (x : List ℕ) × (rename_node s n ≡ Label x)
labelled Kept (Label x) c = (x, refl)
labelled Kept (Anon n) c = absurd c
labelled Kept (Cell n) c = absurd c
labelled Tagged (Label x) c = (110 ∷ x, refl)
labelled Tagged (Anon n) c = (97 ∷ decimal n, refl)
labelled Tagged (Cell n) c = (99 ∷ decimal n, refl)

-- so it can be written as the form names it
pub named_label : (f : Form) (n : Node) → CanWriteNode f.style n → CanWriteNode Kept (name_node f n)
named_label f n c = subst (λ m. CanWriteNode Kept (prefix_node f.prefix m)) (sym (labelled f.style n c).1) tt

-- so the names of two forms are apart
pub forms_apart : PrefixesKeepApart
forms_apart f g m n l d a b e =
    let (x, i) = labelled f.style m a in
    let (y, j) = labelled g.style n b in
    let same : Label (f.prefix ++ x) ≡ Label (g.prefix ++ y) = sym (ap (prefix_node f.prefix) i) ∙ (e ∙ ap (prefix_node g.prefix) j) in
    let text : f.prefix ++ x ≡ g.prefix ++ y = cc in
    d (words_equal f.prefix g.prefix x y l text)

-- Words are of ASCII, so the names stay so.
word_low : (p : List ℕ) → IsNodePrefix p → AllByRecursion (λ c. c < 128) p
word_low [] h = tt
word_low (c ∷ p) h = let a = and_parts (is_word_char c) (all_have is_word_char p) h in (char_low c a.0, word_low p a.1)
  where
    char_low : (c : ℕ) → is_word_char c ≡ true → c < 128
    char_low c h = grind (arith, nat_tests)

-- a word of ASCII keeps a name of ASCII
pub named_low : (f : Form) → IsNodePrefix f.prefix → (n : Node) → HasAsciiLabel n → HasAsciiLabel (name_node f n)
named_low f p n h = prefixed_low (rename_node f.style n) (renamed_low f.style n h)
  where
    renamed_low : (s : Style) (n : Node) → HasAsciiLabel n → HasAsciiLabel (rename_node s n)
    renamed_low Kept n h = h
    renamed_low Tagged (Label x) h = (omega arith, h)
    renamed_low Tagged (Anon n) h = (omega arith, number_low n)
    renamed_low Tagged (Cell n) h = (omega arith, number_low n)

    prefixed_low : (n : Node) → HasAsciiLabel n → HasAsciiLabel (prefix_node f.prefix n)
    prefixed_low (Label x) h = joined f.prefix x (word_low f.prefix p) h
    prefixed_low (Anon n) h = tt
    prefixed_low (Cell n) h = tt

-- that a text is a word may be used where it is only known to hold
pub IsNodePrefix-had : (w : List ℕ) → ∥ IsNodePrefix w ∥₁ → IsNodePrefix w
IsNodePrefix-had w h = ∥∥₁_elim h (Bool-set _ _) (λ i. i)

-- The quads of a line document are well formed, and each of their nodes has a label.
use Rattle.rdf_lines.proofs.Prelude.{◌≡◌, ℕ, zero, suc, ◌+◌, ◌-◌, ◌*◌, Bool, true, List, [], ◌∷◌, ◌++◌, ◌==◌, drop, take, length, Option, Some, None, option_map, unwrap_or, refl, subst, ⊎_elim, All, AllByRecursion, All-head, All-tail, and_parts, and_from, cond_both, false≢true, hex_digit, Regex, Matches, Lines, Kind, IriRef, LabelNode, ShortString, LangTag, Dot, LineEnd, End, shape, Shape, EscapeState, outside, slash, Move, leads, means, fails, of_string, letter_move, hex_value, digit_move, move, go, value, iri_value, string_value, inside, all_have, has_scheme, xsd_string, IsIri, IsSubject, IsTerm, IsGraph, IsQuad, uses, all_used, Token, tokens_of, IsToken, LineForm, Kept, Leaf, Name, Ref, Lab, Object, Named, WithType, WithTag, Statement, last, next, name_tokens, object_tokens, graph_tokens, statement_tokens, document_tokens, string_of, subject_of, term_of, name_bound, object_bound, graph_bound, GoodStatement, GoodDocument, CanWrite, Writable, CanWriteSubject, CanWriteTerm, CanWriteGraph, DocumentIsWritable, label_in, tag_in}
use Rattle.rdf_terms.specs.Classes.{has, scalar}
use Rattle.rdf_terms.specs.Values.{digits}
use Rattle.rdf_terms.specs.Known.{known_chars}
use Rattle.rdf_terms.specs.declared.constants.Known.TheVariants.{XsdString}
use Rattle.rdf_terms.proofs.KnownLemmas.{IsIri-known_chars}
use Rattle.rdf_tokens.proofs.LawLemmas.{have_shapes}
use Rattle.rdf_tokens.specs.Leaves.{token}
use Rattle.rdf_lines.specs.Lines.{Plain, Document as Tree, quad_of}
use Rattle.rdf_lines.proofs.GoodTreesLemmas.{split}
use Rattle.rdf_lines.proofs.PlainQuads.{plain_quads}
use Rattle.rdf_lines.specs.Lines as L
use Rattle.rdf_lines.proofs.LinesLemmas.{without_marks}
use Rattle.rdf_lines.proofs.SpelledLemmas.{is_iri}
use Rattle.rdf_lines.proofs.WrittenText.{uses_scalar}

-- each element of a list that a law speaks of
pub each : (P : Token → Type 0) (ts : List Token) → All P ts → AllByRecursion P ts
each P [] h = tt
each P (t ∷ ts) h = (All-head P t ts h, each P ts (All-tail P t ts h))

-- The characters of a text with a shape, and of parts of it.
all_from : (test : ℕ → Bool) (w : List ℕ) → AllByRecursion (λ c. test c ≡ true) w → all_have test w ≡ true
all_from test [] a = refl
all_from test (c ∷ w) a = and_from _ _ a.0 (all_from test w a.1)

-- a text of an expression consists of characters
pub matched_scalar : (r : Regex) (w : List ℕ) → Matches r w → all_have scalar w ≡ true
matched_scalar r w m = all_from scalar w (each_scalar w (all_used r w m))
  where
    each_scalar : (w : List ℕ) → AllByRecursion (λ c. uses r c ≡ true) w → AllByRecursion (λ c. scalar c ≡ true) w
    each_scalar [] a = tt
    each_scalar (c ∷ w) a = (uses_scalar r c a.0, each_scalar w a.1)

-- a part of a text passes the tests that the text passes
drop_have : (test : ℕ → Bool) (n : ℕ) (w : List ℕ) → all_have test w ≡ true → all_have test (drop n w) ≡ true
drop_have test zero w h = h
drop_have test (suc n) [] h = refl
drop_have test (suc n) (c ∷ w) h = drop_have test n w (and_parts (test c) (all_have test w) h).1

-- what holds of all characters holds of a front of them
take_have : (test : ℕ → Bool) (n : ℕ) (w : List ℕ) → all_have test w ≡ true → all_have test (take n w) ≡ true
take_have test zero w h = refl
take_have test (suc n) [] h = refl
take_have test (suc n) (c ∷ w) h = let p = and_parts (test c) (all_have test w) h in and_from _ _ p.0 (take_have test n w p.1)

-- what a move in a string completes is a character
abbrev Fits : Move → Type 0
Fits (leads s) = Unit
Fits (means c) = scalar c ≡ true
Fits fails = Unit

-- an ECHAR stands for a character
letter_fits : (c : ℕ) → Fits (letter_move c)
letter_fits c =
    cond_both (c == 116) _ _ Fits (λ h. refl) (λ h. cond_both (c == 98) _ _ Fits (λ h. refl)
    (λ h. cond_both (c == 110) _ _ Fits (λ h. refl) (λ h. cond_both (c == 114) _ _ Fits (λ h. refl)
    (λ h. cond_both (c == 102) _ _ Fits (λ h. refl) (λ h. cond_both (c == 34) _ _ Fits (λ h. refl)
    (λ h. cond_both (c == 39) _ _ Fits (λ h. refl) (λ h. cond_both (c == 92) _ _ Fits (λ h. refl) (λ h. tt))))))))

-- the digits of a UCHAR stand for a character
digit_fits : (k n : ℕ) → Fits (digit_move of_string k n)
digit_fits zero n = cond_both (scalar n) _ _ Fits (λ h. h) (λ h. tt)
digit_fits (suc k) n = tt

-- each piece of a string stands for a character
move_fits : (s : EscapeState) (c : ℕ) → scalar c ≡ true → Fits (move of_string s c)
move_fits outside c k = cond_both (c == 92) _ _ Fits (λ h. tt) (λ h. k)
move_fits slash c k = cond_both (c == 117) _ _ Fits (λ h. tt) (λ h. cond_both (c == 85) _ _ Fits (λ g. tt) (λ g. letter_fits c))
move_fits (digits zero n) c k = tt
move_fits (digits (suc i) n) c k = cond_both (has hex_digit c) _ _ Fits (λ h. digit_fits i (16 * n + hex_value c)) (λ h. tt)

-- the value, if there is one, consists of characters
abbrev AreScalars : Option (List ℕ) → Type 0
AreScalars None = Unit
AreScalars (Some w) = all_have scalar w ≡ true

-- so a string's value has characters alone
value_scalars : (s : EscapeState) (w : List ℕ) → all_have scalar w ≡ true → AreScalars (value of_string s w)
value_scalars outside [] h = refl
value_scalars slash [] h = tt
value_scalars (digits k n) [] h = tt
value_scalars s (c ∷ w) h =
    let p = and_parts (scalar c) (all_have scalar w) h in
    by_move (move of_string s c) (move_fits s c p.0) (λ t. value_scalars t w p.1)
  where
    head : (d : ℕ) (o : Option (List ℕ)) → scalar d ≡ true → AreScalars o → AreScalars (option_map (λ u. d ∷ u) o)
    head d None k h = tt
    head d (Some u) k h = and_from _ _ k h

    by_move : (m : Move) → Fits m → ((t : EscapeState) → AreScalars (value of_string t w)) → AreScalars (go m (λ t. value of_string t w))
    by_move (leads t) f h = h t
    by_move (means d) f h = head d (value of_string outside w) f (h outside)
    by_move fails f h = tt

-- the value of a string that has a shape, within n quotes at both ends
pub string_scalars : (r : Regex) (n : ℕ) (w : List ℕ) → Matches r w → all_have scalar (unwrap_or (string_value (inside n w)) []) ≡ true
string_scalars r n w m =
    let a = drop_have scalar n w (matched_scalar r w m) in
    by (string_value (inside n w)) (value_scalars outside (inside n w) (take_have scalar (length w - 2 * n) (drop n w) a))
  where
    by : (o : Option (List ℕ)) → AreScalars o → all_have scalar (unwrap_or o []) ≡ true
    by None h = refl
    by (Some v) h = h

-- an IRIREF with a scheme spells an IRI
pub absolute_iri : (w : List ℕ) → has_scheme (unwrap_or (iri_value (inside 1 w)) []) ≡ true → IsIri (unwrap_or (iri_value (inside 1 w)) [])
absolute_iri w s = by (iri_value (inside 1 w)) refl s
  where
    by : (o : Option (List ℕ)) → iri_value (inside 1 w) ≡ o → has_scheme (unwrap_or o []) ≡ true → IsIri (unwrap_or o [])
    by None e s = absurd (false≢true s)
    by (Some v) e s = is_iri (inside 1 w) v e s

-- the type of a plain string is an IRI
xsd_string_is : IsIri xsd_string
unfolding known_chars
xsd_string_is = IsIri-known_chars XsdString

-- Each production's part of a quad.
abbrev AllTokens : List Token → Type 0
AllTokens ts = AllByRecursion (IsToken Lines) ts

-- a token that is not the end has the shape of its kind
shaped : (k : Kind) (l : Leaf) → (k ≡ End → ⊥) → IsToken Lines (token k l) → Shape Lines k l.text
shaped k l n g = ⊎_elim (λ e. absurd (n e.0)) (λ h. h.0) g

-- so a string means a text
string_formed : (l : Leaf) → IsToken Lines (token ShortString l) → all_have scalar (string_of l) ≡ true
string_formed l g = string_scalars (shape Lines ShortString) 1 l.text (shaped ShortString l (λ e. let z : ShortString ≡ End = e in cc) g)

-- a subject means one that is well formed
name_formed : (x : Name) → name_bound has_scheme x → AllTokens (name_tokens x) → IsSubject (subject_of x) × CanWriteSubject Kept (subject_of x)
name_formed (Ref l) b g = (absolute_iri l.text b, tt)
name_formed (Lab l) b g = (label_in Lines l.text (shaped LabelNode l (λ e. let z : LabelNode ≡ End = e in cc) g.0), tt)

-- an object means one that is well formed
object_formed : (x : Object) → object_bound has_scheme x → AllTokens (object_tokens x) → IsTerm (term_of x) × CanWriteTerm Kept (term_of x)
object_formed (Named x) b g = name_formed x b g
object_formed (Plain l) b g = ((string_formed l g.0, xsd_string_is), tt)
object_formed (WithType l k i) b g = ((string_formed l g.0, absolute_iri i.text b), tt)
object_formed (WithTag l t) b g = ((string_formed l g.0, tag_in Lines t.text (shaped LangTag t (λ e. let z : LangTag ≡ End = e in cc) g.1.0)), tt)

-- a graph label means one that is well formed
graph_formed : (x : Option Name) → graph_bound has_scheme x → AllTokens (graph_tokens x) →
    IsGraph (option_map subject_of x) × CanWriteGraph Kept (option_map subject_of x)
graph_formed None b g = (tt, tt)
graph_formed (Some x) b g = name_formed x b g

-- so the quad of a statement is well formed
statement_formed : (f : LineForm) (s : Statement) → GoodStatement has_scheme f s → AllTokens (statement_tokens s) →
    IsQuad (quad_of s) × CanWrite Kept (quad_of s)
statement_formed f s b g =
    let n = name_tokens s.subject in
    let i = token IriRef s.predicate ∷ [] in
    let o = object_tokens s.object in
    let r = graph_tokens s.graph in
    let P = IsToken Lines in
    let h = (split P (n ++ i ++ o ++ r) (token Dot s.dot ∷ []) g).0 in
    let k = split P (n ++ i ++ o) r h in
    let j = split P (n ++ i) o k.0 in
    let x = name_formed s.subject b.subject (split P n i j.0).0 in
    let z = object_formed s.object b.object j.1 in
    let w = graph_formed s.graph b.graph k.1 in (
      record { subject = x.0; predicate = absolute_iri s.predicate.text b.predicate; object = z.0; graph = w.0 },
      record { subject = x.1; object = z.1; graph = w.1 },
    )

-- all quads of a document are well formed
tree_formed : (f : LineForm) (t : Tree) → GoodDocument has_scheme f t → AllTokens (document_tokens t) → Writable Kept (plain_quads t)
tree_formed f (last L.empty l) b g = tt
tree_formed f (last (L.one s) l) b g = (statement_formed f s b (split (IsToken Lines) (statement_tokens s) (token End l ∷ []) g).0, tt)
tree_formed f (next L.empty l t) b g = tree_formed f t b.1 g.1
tree_formed f (next (L.one s) l t) b g =
    let p = split (IsToken Lines) (statement_tokens s) (token LineEnd l ∷ document_tokens t) g in
    (statement_formed f s b.0 p.0, tree_formed f t b.1 p.1.1)

-- the law that they can be written
pub document_writable : DocumentIsWritable
document_writable form limit iri bytes qs document =
    let (tree, tokens, bound, same) = without_marks form (tokens_of Lines limit bytes true).tokens qs (document.1, document.2, document.3) in
    let g = each (IsToken Lines) _ (have_shapes Lines limit bytes true) in
    subst (Writable Kept) same (tree_formed form tree bound (subst AllTokens tokens g))

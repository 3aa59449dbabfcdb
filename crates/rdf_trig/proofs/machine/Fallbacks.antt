-- What is left of a production for the kinds that it does not name itself.
use Rattle.rdf_trig.proofs.Prelude.{◌≡◌, ℕ, List, None, refl, Kind, IriRef, PnameNs, PnameLn, A, CloseBracket, CloseParen, CloseBrace, OpenBrace, Semicolon, Comma, LangTag, AtBase, AtPrefix, Carets, Leaf, DocForm, Use, Setting, node, cell_at, rest_quad, Go}
use Rattle.rdf_terms.specs.Terms as term
use Rattle.rdf_trig.specs.Machine as M

-- after '[' what does not close it is a verb
pub property_list_start-else : (form : DocForm) (c : Setting) (n : ℕ) (u : M.Up) (k : Kind) (l : Leaf) → (k ≡ CloseBracket → ⊥) →
    M.property_list_start form c n u k l ≡ M.verb_start c (M.sized (node (term.Anon n))) (M.InPropertyList u) k l
property_list_start-else form c n u CloseBracket l h = absurd (h refl)
property_list_start-else form c n u k l h = refl

-- after a label what opens no block is a verb
pub label-else : (c : Setting) (g : M.Topic) (k : Kind) (l : Leaf) → (k ≡ OpenBrace → ⊥) →
    M.after_label c g k l ≡ M.verb_start c g (M.Statement M.Top) k l
label-else c g OpenBrace l h = absurd (h refl)
label-else c g k l h = refl

-- in a block what does not close it begins a subject
pub inside-else : (form : DocForm) (c : Setting) (k : Kind) (l : Leaf) → (k ≡ CloseBrace → ⊥) → M.inside form c k l ≡ M.subject_start form c M.InBlock k l
inside-else form c CloseBrace l h = absurd (h refl)
inside-else form c k l h = refl

-- after ';' a verb may come
pub after_semicolon-verb : (c : Setting) (s : M.Topic) (a : M.Around) (k : Kind) (l : Leaf) (u : Use) (d : Setting) (m : M.Mode) →
    M.verb_start c s a k l ≡ Go u None None d m → M.after_semicolon c s a k l ≡ Go u None None d m
after_semicolon-verb c s a IriRef l u d m h = h
after_semicolon-verb c s a PnameNs l u d m h = h
after_semicolon-verb c s a PnameLn l u d m h = h
after_semicolon-verb c s a A l u d m h = h
after_semicolon-verb c s a k l u d m h = absurd (cc)

-- after ';' what is no verb and no further ';' ends the predicate list
pub after_semicolon-else : (c : Setting) (s : M.Topic) (a : M.Around) (k : Kind) (l : Leaf) → M.verb_start c s a k l ≡ M.No → (k ≡ Semicolon → ⊥) →
    M.after_semicolon c s a k l ≡ M.predicate_list_end c s a k l
after_semicolon-else c s a IriRef l h n = absurd (cc)
after_semicolon-else c s a PnameNs l h n = absurd (cc)
after_semicolon-else c s a PnameLn l h n = absurd (cc)
after_semicolon-else c s a A l h n = absurd (cc)
after_semicolon-else c s a Semicolon l h n = absurd (n refl)
after_semicolon-else c s a k l h n = refl

-- after a property list that is a subject a verb may come
pub after_property_list-verb : (c : Setting) (s : M.Topic) (v : M.Level) (k : Kind) (l : Leaf) (u : Use) (d : Setting) (m : M.Mode) →
    M.verb_start c s (M.Statement v) k l ≡ Go u None None d m → M.after_property_list c s v k l ≡ Go u None None d m
after_property_list-verb c s v IriRef l u d m h = h
after_property_list-verb c s v PnameNs l u d m h = h
after_property_list-verb c s v PnameLn l u d m h = h
after_property_list-verb c s v A l u d m h = h
after_property_list-verb c s v k l u d m h = absurd (cc)

-- after a property list that is a subject what is no verb ends the statement
pub after_property_list-else : (c : Setting) (s : M.Topic) (v : M.Level) (k : Kind) (l : Leaf) → M.verb_start c s (M.Statement v) k l ≡ M.No →
    M.after_property_list c s v k l ≡ M.predicate_list_end c s (M.Statement v) k l
after_property_list-else c s v IriRef l h = absurd (cc)
after_property_list-else c s v PnameNs l h = absurd (cc)
after_property_list-else c s v PnameLn l h = absurd (cc)
after_property_list-else c s v A l h = absurd (cc)
after_property_list-else c s v k l h = refl

-- in a collection what does not close it begins the next item
pub cells-else : (c : Setting) (f n : ℕ) (u : M.Up) (k : Kind) (l : Leaf) → (k ≡ CloseParen → ⊥) →
    M.after c (M.InCollection f n u) k l ≡ M.object_start c (M.InCollection f l.at.offset u) (rest_quad c (term.Cell n) (term.Blank (cell_at l))) k l
cells-else c f n u CloseParen l h = absurd (h refl)
cells-else c f n u k l h = refl

pub listed-else : (c : Setting) (s : M.Topic) (p : M.Spelt) (a : M.Around) (k : Kind) (l : Leaf) → (k ≡ Comma → ⊥) → (k ≡ Semicolon → ⊥) →
    M.after c (M.Listed s p a) k l ≡ M.predicate_list_end c s a k l
listed-else c s p a Comma l h i = absurd (h refl)
listed-else c s p a Semicolon l h i = absurd (i refl)
listed-else c s p a k l h i = refl

-- after '(' what does not close it begins the first item
pub collection_start-else : (c : Setting) (u : M.Up) (k : Kind) (l : Leaf) → (k ≡ CloseParen → ⊥) →
    M.collection_start c u k l ≡ M.object_start c (M.InCollection l.at.offset l.at.offset u) None k l
collection_start-else c u CloseParen l h = absurd (h refl)
collection_start-else c u k l h = refl

-- after a string what is no tag and no '^^' is what may follow an object
pub text-else : (c : Setting) (w : List ℕ) (p : M.Place) (k : Kind) (l : Leaf) → (k ≡ LangTag → ⊥) → (k ≡ AtBase → ⊥) → (k ≡ AtPrefix → ⊥) → (k ≡ Carets → ⊥) →
    M.after_text c w p k l ≡ M.after c p k l
text-else c w p LangTag l h i j n = absurd (h refl)
text-else c w p AtBase l h i j n = absurd (i refl)
text-else c w p AtPrefix l h i j n = absurd (j refl)
text-else c w p Carets l h i j n = absurd (n refl)
text-else c w p k l h i j n = refl

pub ruleset fallbacks = (property_list_start-else, cells-else, collection_start-else)

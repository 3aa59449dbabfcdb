-- What the shape of a token says of what it spells.
use Rattle.rdf_trig.proofs.Prelude.{◌≡◌, ℕ, true, List, [], ◌∷◌, ◌++◌, ◌==◌, length, drop, refl, sym, ap, ◌∙◌, subst, ⊎_elim, codes, eqb-true, and_parts, the, Kind, IriRef, LangTag, AtPrefix, AtBase, True, False, End, shape, Shape, tag_name, word, IsTag, is_fit, IsReference, leaf, IsTurtleToken}
use Rattle.rdf_terms.specs.Classes.{has, scalar}
use Rattle.rdf_terms.specs.Regex.{Matches}
use Rattle.rdf_terms.specs.declared.kind.Dialect.TheVariants.{Turtle}
use Rattle.rdf_tokens.specs.declared.token.Token.{Token as Given}
use Rattle.rdf_trig.specs.Spelled.{SpellsTag}
use Rattle.rdf_terms.proofs.ShapesLemmas.{form-matches}
use Rattle.rdf_terms.proofs.SpelledLemmas.{tag_in}

-- the class of one character has that character alone
pub the_one : (x c : ℕ) → has (the x) c ≡ true → c ≡ x
unfolding has
the_one x c h = eqb-true c x (and_parts (scalar c) (c == x) h).1

-- the expression of a word has that word alone
spelled_word : (cs w : List ℕ) → Matches (word cs) w → w ≡ cs
spelled_word [] w m = m
spelled_word (x ∷ cs) w m =
    m.4 ∙ (ap (λ u. u ++ m.1) m.2.2 ∙ (ap (λ (c : ℕ). c ∷ m.1) (the_one x m.2.0 m.2.1) ∙ ap (λ u. x ∷ u) (spelled_word cs m.1 m.3)))

-- `base` has the form of a language tag
base_tag : IsTag (codes "base")
unfolding has
base_tag = form-matches tag_name (codes "base") refl

-- `prefix` has the form of a language tag
prefix_tag : IsTag (codes "prefix")
unfolding has
prefix_tag = form-matches tag_name (codes "prefix") refl

-- `@base` after a string is a well-formed tag
base_in : (w : List ℕ) → Shape Turtle AtBase w → IsTag (drop 1 w)
unfolding shape
base_in w m = subst (λ x. IsTag (drop 1 x)) (sym (spelled_word (codes "@base") w m)) base_tag

-- `@prefix` after a string is a well-formed tag
prefix_in : (w : List ℕ) → Shape Turtle AtPrefix w → IsTag (drop 1 w)
unfolding shape
prefix_in w m = subst (λ x. IsTag (drop 1 x)) (sym (spelled_word (codes "@prefix") w m)) prefix_tag

-- what may stand as a tag after a string is a well-formed one
pub spelled_tag : (k : Kind) (w : List ℕ) → SpellsTag k → Shape Turtle k w → IsTag (drop 1 w)
spelled_tag LangTag w t m = tag_in Turtle w m
spelled_tag AtBase w t m = base_in w m
spelled_tag AtPrefix w t m = prefix_in w m
spelled_tag k w t m = absurd t

-- what the scanner gave as a tag after a string is a well-formed tag
pub token_tag : (t : Given) → SpellsTag t.kind → IsTurtleToken t → IsTag (drop 1 (leaf t).text)
token_tag t s k = ⊎_elim (λ e. absurd (subst SpellsTag e.0 s)) (λ h. spelled_tag t.kind (leaf t).text s h.0) k

-- a reference is fit
pub fit_reference : (t : Given) → IsReference t.kind → IsTurtleToken t → is_fit IriRef (leaf t).text ≡ true
fit_reference t r k =
    ⊎_elim
    (λ e. absurd (subst IsReference e.0 r))
    (λ h. subst (λ k. is_fit k (leaf t).text ≡ true) (reference_kind t.kind r) h.1)
    k
  where
    reference_kind : (k : Kind) → IsReference k → k ≡ IriRef
    reference_kind IriRef r = refl
    reference_kind k r = absurd r

-- a token `true` has four characters
pub true_length : (t : Given) → t.kind ≡ True → IsTurtleToken t → length (leaf t).text ≡ 4
unfolding shape
true_length t e k =
    ⊎_elim
    (λ x. absurd (let z : End ≡ True = sym x.0 ∙ e in cc))
    (λ h. let m : Shape Turtle True (leaf t).text = subst (λ k. Shape Turtle k (leaf t).text) e h.0 in ap length (spelled_word (codes "true") (leaf t).text m))
    k

-- and one `false` five
pub false_length : (t : Given) → t.kind ≡ False → IsTurtleToken t → length (leaf t).text ≡ 5
unfolding shape
false_length t e k =
    ⊎_elim
    (λ x. absurd (let z : End ≡ False = sym x.0 ∙ e in cc))
    (λ h. let m : Shape Turtle False (leaf t).text = subst (λ k. Shape Turtle k (leaf t).text) e h.0 in
    ap length (spelled_word (codes "false") (leaf t).text m))
    k

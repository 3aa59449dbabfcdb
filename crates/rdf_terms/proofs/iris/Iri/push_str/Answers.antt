-- The text is the old one with the new characters, or the old one.
use Rattle.rdf_terms.proofs.Prelude.{◌≡◌, ◌++◌, ◌∙◌, ℕ, List, cond, ap, sym, subst, Result, Ok, Err, OnOk, is_ok, chars, IsUtf8, string_bytes, chars-append, IsUtf8-string_bytes, IsIri}
use Rattle.rdf_terms.proofs.iris.Iri.push_str.Goals as goal

-- what a push leaves is an IRI
kept : {T E : Type 0} (r : Result T E) (now was text iri : List ℕ) → IsUtf8 was → chars was ≡ iri → now ≡ cond (is_ok r) (was ++ text) was →
    IsIri (iri ++ chars text) → ∥ IsIri (chars was) ∥₁ → ∥ IsIri (chars now) ∥₁
kept (Ok t) now was text iri u e n i h = ∣ subst IsIri (sym (ap chars n ∙ (chars-append was text u ∙ ap (λ x. x ++ chars text) e))) i ∣₁
kept (Err f) now was text iri u e n i h = subst (λ x. ∥ IsIri (chars x) ∥₁) (sym n) h

-- and where it succeeds, it is the longer one
grown : {T E : Type 0} (r : Result T E) (now was text iri : List ℕ) → IsUtf8 was → chars was ≡ iri → now ≡ cond (is_ok r) (was ++ text) was →
    OnOk r (chars now ≡ iri ++ chars text)
grown (Ok t) now was text iri u e n = ap chars n ∙ (chars-append was text u ∙ ap (λ x. x ++ chars text) e)
grown (Err f) now was text iri u e n = tt

pub invariant_of-self : goal.invariant_of-self
invariant_of-self g c =
    kept c.push_str.result _ (string_bytes c.self.inside.text) c.args.text.now c.args.self.now
    (IsUtf8-string_bytes c.self.inside.text) c.self.view_is c.push_str.ensures.bytes
    c.requires c.self.invariant

pub returns-clause-appended : goal.returns-clause-appended
returns-clause-appended g c =
    grown c.push_str.result _ (string_bytes c.self.inside.text) c.args.text.now c.args.self.now
    (IsUtf8-string_bytes c.self.inside.text) c.self.view_is c.push_str.ensures.bytes

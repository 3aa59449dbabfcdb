-- A text that is used again: where it is empty there is none, and an IRI and a tag are not empty.
use Rattle.rdf_trig.proofs.Prelude.{◌≡◌, ◌<◌, ◌≤◌, ℕ, List, [], ◌∷◌, Option, Some, None, refl, sym, ap, ◌∙◌, subst, arith, is_some, IfSome, true, false≢true, chars, chars-nil, length-le-encodes, IsIri, iri_size, text_at}

-- an IRI is a text that is there
pub iri_there : (w : List ℕ) → IsIri w → Some w ≡ text_at w
iri_there [] i = absurd (false≢true i.scheme)
iri_there (c ∷ w) i = refl

-- an emptied text is not there, and holds to whatever a text that is there holds to
pub emptied : (t : List ℕ) → t ≡ [] → text_at (chars t) ≡ None
emptied t e = ap (λ b. text_at (chars b)) e ∙ ap text_at chars-nil

pub emptied_holds : (P : List ℕ → Type 0) (t : List ℕ) → t ≡ [] → IfSome (text_at (chars t)) P
emptied_holds P t e = subst (λ o. IfSome o P) (sym (emptied t e)) tt

-- where something is named a text is there
pub named_there : (w : List ℕ) → is_some (text_at w) ≡ true → Some w ≡ text_at w
named_there [] e = absurd (false≢true e)
named_there (c ∷ w) e = refl

-- where there are bytes a text is there
bytes_there : (w : List ℕ) → 0 < iri_size (text_at w) → Some w ≡ text_at w
bytes_there [] h = absurd (omega (arith, h))
bytes_there (c ∷ w) h = refl

-- where there are none none is
none_there : (w : List ℕ) → iri_size (text_at w) ≡ 0 → None ≡ text_at w
none_there [] h = refl
none_there (c ∷ w) h = absurd (let l = length-le-encodes (c ∷ w) in omega (arith, h, l))

-- so too of what is there by an equation
pub some_named : (w : List ℕ) (x : Option (List ℕ)) → text_at w ≡ x → 0 < iri_size x → Some w ≡ text_at w
some_named w x e h = bytes_there w (let s = ap iri_size e in omega (arith, h, s))

pub none_named : (w : List ℕ) (x : Option (List ℕ)) → text_at w ≡ x → iri_size x ≤ 0 → None ≡ x
none_named w x e h = none_there w (let s = ap iri_size e in omega (arith, h, s)) ∙ e

-- what holds of a text that is there
pub held_there : (P : List ℕ → Type 0) (w : List ℕ) → IfSome (text_at w) P → Some w ≡ text_at w → P w
held_there P w h e = subst (λ o. IfSome o P) (sym e) h

-- The laws at short texts: a dot, the beginning of a number, and texts with escapes.
use Rattle.rdf_terms.proofs.Prelude.{◌≡◌, ℕ, true, List, [], ◌∷◌, refl, Some, None, codes, Turtle, Dot, Decimal, ShortString, has, Shape, Live, shape, kind_of, is_live, of_string, of_iri, IsPiece, IsLocalPiece, Means, is_fit}
use Rattle.rdf_terms.proofs.PiecesLemmas.{string_means, iri_means, local_part_means, fit_means}
use Rattle.rdf_terms.proofs.KindsLemmas.{one_kind, kind-shape, shape-kind, live-shape, shape-live}

-- `.` is a dot, which is found, and no decimal
dot_is_dot : Shape Turtle Dot (46 ∷ [])
unfolding kind_of shape has
dot_is_dot = kind-shape Turtle (46 ∷ []) Dot refl

-- so the kind that is computed is the dot
dot_is_found : kind_of Turtle (46 ∷ []) ≡ Some Dot
dot_is_found = shape-kind Turtle (46 ∷ []) Dot dot_is_dot

-- the dot has not the shape of a number too
dot_is_no_decimal : Shape Turtle Decimal (46 ∷ []) → ⊥
dot_is_no_decimal m = let e : Dot ≡ Decimal = one_kind Turtle Dot Decimal (46 ∷ []) dot_is_dot m in cc

-- a longer token begins with `1`
one_is_live : Live Turtle (49 ∷ [])
unfolding is_live shape has
one_is_live = live-shape Turtle (49 ∷ []) refl

-- so the test finds it live
one_is_tested : is_live Turtle (49 ∷ []) ≡ true
one_is_tested = shape-live Turtle (49 ∷ []) one_is_live

-- a string with a tab and an escaped letter: `a\tb\u0063`
tab_and_c : Means (IsPiece of_string) (codes "a\\tb\\u0063") (97 ∷ 9 ∷ 98 ∷ 99 ∷ [])
unfolding has
tab_and_c = (string_means (codes "a\\tb\\u0063") (97 ∷ 9 ∷ 98 ∷ 99 ∷ [])).0 refl

-- so the token of this string is fit
string_is_fit : is_fit ShortString (codes "\"a\\tb\\u0063\"") ≡ true
string_is_fit = (fit_means ShortString (codes "\"a\\tb\\u0063\"")).1 (97 ∷ 9 ∷ 98 ∷ 99 ∷ [], tab_and_c)

-- an IRI has no escape of one letter
no_tab_in_an_iri : (v : List ℕ) → Means (IsPiece of_iri) (codes "a:\\t") v → ⊥
unfolding has
no_tab_in_an_iri v m = let e : None ≡ Some v = (iri_means (codes "a:\\t") v).1 m in cc

-- a local part with an escaped tilde
tilde : Means IsLocalPiece (codes "a\\~") (codes "a~")
unfolding has
tilde = (local_part_means (codes "a\\~") (codes "a~")).0 refl

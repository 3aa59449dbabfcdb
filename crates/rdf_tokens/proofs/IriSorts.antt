-- The table of sorts against their definition: a test of each byte.
use Rattle.rdf_tokens.proofs.Prelude.{◌≡◌, ℕ, ◌<◌, true, List, [], ◌∷◌, ◌==◌, refl, sym, ap, ◌∙◌, get_or, agree_below_at, eqb-true}
use Rattle.rdf_tokens.specs.declared.states.iri.Sort.{Sort}
use Rattle.rdf_tokens.specs.declared.states.iri.Sort.TheVariants as sort
use Rattle.rdf_tokens.specs.declared.states.iri.TheConstants.{SORTS}
use Rattle.rdf_tokens.specs.Iri.{ascii}

abbrev all : List Sort
all = sort.OpenAngle ∷ sort.CloseAngle ∷ sort.Backslash ∷ sort.SmallU ∷ sort.BigU ∷ sort.HexDigit ∷ sort.Plain ∷ sort.Excluded ∷ []

abbrev place : Sort → ℕ
place sort.OpenAngle = 0
place sort.CloseAngle = 1
place sort.Backslash = 2
place sort.SmallU = 3
place sort.BigU = 4
place sort.HexDigit = 5
place sort.Plain = 6
place sort.Excluded = 7

at_place : (x : Sort) → get_or all (place x) sort.OpenAngle ≡ x
at_place sort.OpenAngle = refl
at_place x = refl

same_place : (x y : Sort) → place x ≡ place y → x ≡ y
same_place x y e = sym (at_place x) ∙ (ap (λ n. get_or all n sort.OpenAngle) e ∙ at_place y)

pub table-ascii : (c : ℕ) → c < 128 → get_or SORTS c sort.OpenAngle ≡ ascii c
table-ascii c l =
    same_place _ _ (eqb-true _ _ (agree_below_at (λ c. place (get_or SORTS c sort.OpenAngle) == place (ascii c)) (λ c. true) 128 c refl l))

-- The table of sorts against their definition: a test of each byte.
use Rattle.rdf_tokens.proofs.Prelude.{◌≡◌, ℕ, ◌<◌, true, List, [], ◌∷◌, ◌==◌, refl, sym, ap, ◌∙◌, get_or, agree_below_at, eqb-true}
use Rattle.rdf_tokens.specs.declared.states.name.Sort.{Sort}
use Rattle.rdf_tokens.specs.declared.states.name.Sort.TheVariants as sort
use Rattle.rdf_tokens.specs.declared.states.name.TheConstants.{SORTS}
use Rattle.rdf_tokens.specs.Name.{ascii}

abbrev all : List Sort
all = sort.Colon ∷ sort.Dot ∷ sort.Digit ∷ sort.HexLetter ∷ sort.Letter ∷ sort.Underscore ∷ sort.Hyphen ∷ sort.Mark ∷ sort.Percent
    ∷ sort.Backslash ∷ sort.Escapable ∷ sort.Other ∷ []

abbrev place : Sort → ℕ
place sort.Colon = 0
place sort.Dot = 1
place sort.Digit = 2
place sort.HexLetter = 3
place sort.Letter = 4
place sort.Underscore = 5
place sort.Hyphen = 6
place sort.Mark = 7
place sort.Percent = 8
place sort.Backslash = 9
place sort.Escapable = 10
place sort.Other = 11

at_place : (x : Sort) → get_or all (place x) sort.Colon ≡ x
at_place sort.Colon = refl
at_place x = refl

same_place : (x y : Sort) → place x ≡ place y → x ≡ y
same_place x y e = sym (at_place x) ∙ (ap (λ n. get_or all n sort.Colon) e ∙ at_place y)

pub table-ascii : (c : ℕ) → c < 128 → get_or SORTS c sort.Colon ≡ ascii c
table-ascii c l =
    same_place _ _ (eqb-true _ _ (agree_below_at (λ c. place (get_or SORTS c sort.Colon) == place (ascii c)) (λ c. true) 128 c refl l))

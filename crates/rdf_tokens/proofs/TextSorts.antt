-- The table of sorts against their definition: a test of each byte.
use Rattle.rdf_tokens.proofs.Prelude.{◌≡◌, ℕ, ◌<◌, true, List, [], ◌∷◌, ◌==◌, refl, sym, ap, ◌∙◌, get_or, agree_below_at, eqb-true}
use Rattle.rdf_tokens.specs.declared.states.text.Sort.{Sort}
use Rattle.rdf_tokens.specs.declared.states.text.Sort.TheVariants as sort
use Rattle.rdf_tokens.specs.declared.states.text.TheConstants.{SORTS}
use Rattle.rdf_tokens.specs.Text.{ascii}

abbrev all : List Sort
all = sort.Quotation ∷ sort.Apostrophe ∷ sort.Backslash ∷ sort.LineBreak ∷ sort.SmallU ∷ sort.BigU ∷ sort.Letter ∷ sort.HexLetter
    ∷ sort.HexDigit ∷ sort.Plain ∷ []

abbrev place : Sort → ℕ
place sort.Quotation = 0
place sort.Apostrophe = 1
place sort.Backslash = 2
place sort.LineBreak = 3
place sort.SmallU = 4
place sort.BigU = 5
place sort.Letter = 6
place sort.HexLetter = 7
place sort.HexDigit = 8
place sort.Plain = 9

at_place : (x : Sort) → get_or all (place x) sort.Quotation ≡ x
at_place sort.Quotation = refl
at_place x = refl

same_place : (x y : Sort) → place x ≡ place y → x ≡ y
same_place x y e = sym (at_place x) ∙ (ap (λ n. get_or all n sort.Quotation) e ∙ at_place y)

pub table-ascii : (c : ℕ) → c < 128 → get_or SORTS c sort.Quotation ≡ ascii c
table-ascii c l =
    same_place _ _ (eqb-true _ _ (agree_below_at (λ c. place (get_or SORTS c sort.Quotation) == place (ascii c)) (λ c. true) 128 c refl l))

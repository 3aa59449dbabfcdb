-- The table of families against their definition: a test of each byte.
use Rattle.rdf_tokens.proofs.Prelude.{◌≡◌, ℕ, ◌<◌, true, List, [], ◌∷◌, ◌==◌, refl, sym, ap, ◌∙◌, get_or, agree_below_at, eqb-true}
use Rattle.rdf_tokens.specs.declared.states.family.Family.{Family}
use Rattle.rdf_tokens.specs.declared.states.family.Family.TheVariants as family
use Rattle.rdf_tokens.specs.declared.states.family.TheConstants.{FAMILIES}
use Rattle.rdf_tokens.specs.Machine.{ascii}

-- the families in the order of their numbers
abbrev all : List Family
all = family.Iri ∷ family.Label ∷ family.Text ∷ family.Tag ∷ family.Number ∷ family.Name ∷ family.Other ∷ []

-- the number of a family
abbrev pub place : Family → ℕ
place family.Iri = 0
place family.Label = 1
place family.Text = 2
place family.Tag = 3
place family.Number = 4
place family.Name = 5
place family.Other = 6

-- the numbers are right
at_place : (x : Family) → get_or all (place x) family.Iri ≡ x
at_place family.Iri = refl
at_place x = refl

-- no two families have the same number, so a table may be compared by numbers
pub same_place : (x y : Family) → place x ≡ place y → x ≡ y
same_place x y e = sym (at_place x) ∙ (ap (λ n. get_or all n family.Iri) e ∙ at_place y)

-- the code's table gives each ASCII character the family that the definition gives it
pub table-ascii : (c : ℕ) → c < 128 → get_or FAMILIES c family.Iri ≡ ascii c
table-ascii c l =
    same_place _ _ (eqb-true _ _ (agree_below_at (λ c. place (get_or FAMILIES c family.Iri) == place (ascii c)) (λ c. true) 128 c refl l))

use Rattle.rdf_trig.proofs.Prelude.{◌≡◌, ◌≤◌, ◌*◌, ℕ, List, [], ap, sym, subst, length, true, is_some, unwrap_or, ◌∙◌, arith, chars, string_bytes, string_value, is_fit}
use Rattle.rdf_terms.specs.Values.{inside}
use Rattle.rdf_terms.proofs.InsideLemmas.{inside-inside}
use Rattle.rdf_terms.proofs.SpelledLemmas.{inside_short}
use Rattle.rdf_trig.proofs.code.TurnsLemmas.{on_ok}
use Rattle.rdf_trig.proofs.spelled.set_long_string.Goals as goal

-- two of the three quotes at each end
two : (a b t : List ℕ) → chars a ≡ inside 1 t → chars b ≡ inside 1 (chars a) → chars b ≡ inside 2 t
two a b t f g = g ∙ ap (inside 1) f ∙ inside-inside 1 1 t

-- and the third
third : (b t : List ℕ) → chars b ≡ inside 2 t → inside 1 (chars b) ≡ inside 3 t
third b t e = ap (inside 1) e ∙ inside-inside 1 2 t

pub put_string-requires : goal.put_string-requires
unfolding is_fit
put_string-requires g c =
    let at = third _ _ (two _ _ (chars c.args.text.now) c.without_ends.ensures c.without_ends-2.ensures) in
    subst (λ w. is_some (string_value w) ≡ true) (sym at) c.requires

pub returns-clause-value : goal.returns-clause-value
returns-clause-value g c =
    let at = third _ _ (two _ _ (chars c.args.text.now) c.without_ends.ensures c.without_ends-2.ensures) in
    on_ok c.put_string.result _ _ (λ e. e ∙ ap (λ w. unwrap_or (string_value w) []) at) c.put_string.ensures.value

pub returns-clause-short : goal.returns-clause-short
returns-clause-short g c =
    let size = ap length (two _ _ (chars c.args.text.now) c.without_ends.ensures c.without_ends-2.ensures) in
    on_ok c.put_string.result _ _ (λ (h : length (string_bytes c.put_string.new.out) ≤ 4 * length (chars c.without_ends-2.result.now)).
    omega (arith, h, size, inside_short 2 (chars c.args.text.now))) c.put_string.ensures.short

use Rattle.rdf_terms.proofs.Prelude.{◌≡◌, true, [], Result, Ok, Err, OnOk, Some, unwrap_or, ap, sym, subst, ◌∙◌, chars, IsUtf8, has, iri_char, is_unescaped, all_have, iri_value}
use Rattle.rdf_terms.proofs.EscapesLemmas.{unescaped_iri}
use Rattle.rdf_terms.proofs.SpelledLemmas.{fit_iri}
use Rattle.rdf_terms.proofs.ValuesLemmas.{iri_value_characters}
use Rattle.rdf_terms.proofs.buffers.put_iri.Goals as goal

-- what follows of an answer
on_ok : {T E : Type 0} {P Q : Type 0} (r : Result T E) → (P → Q) → OnOk r P → OnOk r Q
on_ok (Ok x) f h = f h
on_ok (Err e) f h = tt

pub unreachable-requires : goal.unreachable-requires
unreachable-requires g c =
    let none = c.set_iri_value.ensures.bad.0 (c.in-Err-BadEscape.is ∙ ap Err c.in-Err-BadEscape.field-0-is) in
    fit_iri _ c.requires (sym (ap iri_value c.without_ends-inside.ensures) ∙ none)

pub returns-then-is_run-clause-value : goal.returns-then-is_run-clause-value
returns-then-is_run-clause-value g c =
    let w = c.without_ends-inside.result.now in
    let whole = c.as_bytes.ensures.value in
    let ends = c.without_ends-inside.ensures in
    let run : all_have is_unescaped w ≡ true = ap (all_have is_unescaped) (sym whole) ∙ (sym c.is_run.ensures ∙ c.if-is_run.true) in
    let meant : iri_value (chars w) ≡ Some (chars w) =
    unescaped_iri w (subst IsUtf8 whole c.as_bytes.ensures.utf8) run (λ none. fit_iri _ c.requires (sym (ap iri_value ends) ∙ none)) in
    on_ok c.put_text.result (λ e. ap chars e ∙ sym (ap (λ x. unwrap_or x []) (sym (ap iri_value ends) ∙ meant))) c.put_text.ensures

pub returns-then-is_run-clause-characters : goal.returns-then-is_run-clause-characters
returns-then-is_run-clause-characters g c =
    let w = c.without_ends-inside.result.now in
    let whole = c.as_bytes.ensures.value in
    let ends = c.without_ends-inside.ensures in
    let run : all_have is_unescaped w ≡ true = ap (all_have is_unescaped) (sym whole) ∙ (sym c.is_run.ensures ∙ c.if-is_run.true) in
    let meant : iri_value (chars w) ≡ Some (chars w) =
    unescaped_iri w (subst IsUtf8 whole c.as_bytes.ensures.utf8) run (λ none. fit_iri _ c.requires (sym (ap iri_value ends) ∙ none)) in
    on_ok c.put_text.result (λ e. ap (λ x. all_have (has iri_char) (chars x)) e ∙ iri_value_characters (chars w) (chars w) meant) c.put_text.ensures

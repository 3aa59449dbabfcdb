use Rattle.rdf_terms.proofs.Prelude.{◌≡◌, true, [], Result, Ok, Err, OnOk, Some, unwrap_or, ap, sym, subst, ◌∙◌, chars, IsUtf8, is_unescaped, all_have, string_value}
use Rattle.rdf_terms.proofs.EscapesLemmas.{unescaped_string}
use Rattle.rdf_terms.proofs.SpelledLemmas.{fit_string, string_fits}
use Rattle.rdf_terms.proofs.buffers.put_string.Goals as goal

-- what follows of an answer
on_ok : {T E : Type 0} {P Q : Type 0} (r : Result T E) → (P → Q) → OnOk r P → OnOk r Q
on_ok (Ok x) f h = f h
on_ok (Err e) f h = tt

pub unreachable-requires : goal.unreachable-requires
unreachable-requires g c =
    let none = c.set_string_value.ensures.bad.0 (c.in-Err-BadEscape.is ∙ ap Err c.in-Err-BadEscape.field-0-is) in
    fit_string _ c.requires (sym (ap string_value c.without_ends-quoted.ensures) ∙ none)

pub returns-in-Ok-clause-short : goal.returns-in-Ok-clause-short
returns-in-Ok-clause-short g c =
    string_fits c.set_string_value.new.out _ (sym (ap (λ o. unwrap_or o []) (sym (ap string_value c.without_ends-quoted.ensures) ∙ c.in-Ok.ensures.ok)))

pub returns-then-is_run-clause-value : goal.returns-then-is_run-clause-value
returns-then-is_run-clause-value g c =
    let w = c.without_ends-quoted.result.now in
    let whole = c.as_bytes.ensures.value in
    let run : all_have is_unescaped w ≡ true = ap (all_have is_unescaped) (sym whole) ∙ (sym c.is_run.ensures ∙ c.if-is_run.true) in
    let meant : string_value (chars w) ≡ Some (chars w) = unescaped_string w (subst IsUtf8 whole c.as_bytes.ensures.utf8) run in
    on_ok c.put_text.result (λ e. ap chars e ∙ sym (ap (λ x. unwrap_or x []) (sym (ap string_value c.without_ends-quoted.ensures) ∙ meant))) c.put_text.ensures

pub returns-then-is_run-clause-short : goal.returns-then-is_run-clause-short
returns-then-is_run-clause-short g c =
    let w = c.without_ends-quoted.result.now in
    let whole = c.as_bytes.ensures.value in
    let run : all_have is_unescaped w ≡ true = ap (all_have is_unescaped) (sym whole) ∙ (sym c.is_run.ensures ∙ c.if-is_run.true) in
    let meant : string_value (chars w) ≡ Some (chars w) = unescaped_string w (subst IsUtf8 whole c.as_bytes.ensures.utf8) run in
    on_ok c.put_text.result (λ e. string_fits c.put_text.new.out _
    (ap chars e ∙ sym (ap (λ x. unwrap_or x []) (sym (ap string_value c.without_ends-quoted.ensures) ∙ meant)))) c.put_text.ensures

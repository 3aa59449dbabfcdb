use Rattle.rdf_tokens.proofs.Prelude.{◌≡◌, ◌-◌, true, length, get_or, sym, ap, ◌∙◌, subst, Some, arith, chars, IsRun, is_prefix_byte, BeginsNoName, HasNoNames, Ends}
use Rattle.rdf_terms.specs.Classes.{is_letter}
use Rattle.rdf_tokens.proofs.NoNamesLemmas.{none_in}
use Rattle.rdf_tokens.proofs.front.no_names_of.Goals as goal

pub returns-in-Turtle : goal.returns-in-Turtle
returns-in-Turtle c =
    let bs = c.args.text.now in
    let s = c.args.state in
    let same = c.as_bytes-bytes.ensures.value in
    let letter : is_letter (get_or bs 0 0) ≡ true =
    ap (λ x. is_letter (get_or x 0 0)) (sym same) ∙ (sym c.begins_in_letter.ensures ∙ c.if-begins_in_letter.true) in
    let run : IsRun is_prefix_byte bs 0 c.prefix_end.result = subst (λ x. IsRun is_prefix_byte x 0 c.prefix_end.result) same c.prefix_end.ensures in
    let few = c.states_end.ensures.few in
    let no_names : BeginsNoName _ (chars bs) s = subst (λ d. BeginsNoName d (chars bs) s) c.in-Turtle.is c.requires in
    subst (λ d. HasNoNames d bs
    (Some (record {
      left = length c.as_bytes-bytes.result.now - c.prefix_end.result;
      state = s;
      out = length c.as_bytes-bytes.result.now - c.states_end.result;
    }))) (sym c.in-Turtle.is)
    (none_in bs c.prefix_end.result (length c.as_bytes-bytes.result.now - c.prefix_end.result) c.states_end.result
    (length c.as_bytes-bytes.result.now - c.states_end.result) s c.utf8.text letter run no_names
    (subst (λ d. Ends d (chars bs) c.states_end.result) c.in-Turtle.is c.states_end.ensures.end)
    (ap (λ x. length x - c.prefix_end.result) same) (omega (arith, few, ap length same)))

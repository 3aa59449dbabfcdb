use Rattle.rdf_lines.proofs.Prelude.{◌≡◌, true, is_some, ap, sym, ◌∙◌, false≢true, chars, string_bytes, all_have, is_word_char}
use Rattle.rdf_lines.proofs.prefix.NodePrefix.new.Goals as goal

pub returns-clause-none : goal.returns-clause-none
returns-clause-none g c =
    let word : all_have is_word_char (chars (string_bytes c.args.word)) ≡ true =
    ap (λ x. all_have is_word_char (chars x)) (sym c.as_str.ensures.value) ∙ (sym c.is_word.ensures ∙ c.if-not-is_word.false) in
    (λ e. absurd (false≢true (sym (ap is_some e))), λ n. absurd (n word))

use Rattle.rdf_stream.proofs.Prelude.{◌≡◌, ◌∙◌, ◌++◌, OnOk, ap, codes, length, subst, sym, listed, only_said, words_for, texts_of}
use Rattle.rdf_stream.proofs.ExplainsLemmas.{none_told, some_told}
use Rattle.rdf_stream.proofs.explains.put_expected.Goals as goal

pub returns-then-count-eq0 : goal.returns-then-count-eq0
returns-then-count-eq0 g c =
    let words = only_said (words_for c.args.expected) in
    let same : only_said (texts_of c.as_slice.result.now) ≡ words = ap only_said (ap texts_of c.as_slice.ensures ∙ c.words_for-words.ensures) in
    none_told c.args.line.now.items words (ap length (sym same) ∙ (sym c.count_said-count.ensures ∙ c.if-count-eq0.true))

pub returns : goal.returns
returns g c =
    let old = c.args.line.now.items in
    let words = only_said (words_for c.args.expected) in
    let first : only_said (texts_of c.as_slice.result.now) ≡ words = ap only_said (ap texts_of c.as_slice.ensures ∙ c.words_for-words.ensures) in
    let same : only_said (texts_of c.as_slice-2.result.now) ≡ words = ap only_said (ap texts_of c.as_slice-2.ensures ∙ c.words_for-words.ensures) in
    let before : c.extend_from_slice.new.self.items ≡ old ++ codes "; expected " = c.in_ok-extend_from_slice.ensures.items in
    let told : c.extend_from_slice.new.self.items ++ listed (only_said (texts_of c.as_slice-2.result.now)) ≡ (old ++ codes "; expected ") ++ listed words =
    ap (λ b. b ++ listed (only_said (texts_of c.as_slice-2.result.now))) before ∙ ap (λ ws. (old ++ codes "; expected ") ++ listed ws) same in
    let some : length words ≡ 0 → ⊥ = λ none. c.if-count-eq0.false (c.count_said-count.ensures ∙ (ap length first ∙ none)) in
    subst (λ text. OnOk c.put_listed.result (c.put_listed.new.line.items ≡ text)) (told ∙ some_told old words some) c.put_listed.ensures

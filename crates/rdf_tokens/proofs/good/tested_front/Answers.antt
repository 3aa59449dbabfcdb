use Rattle.rdf_tokens.proofs.Prelude.{◌≡◌, [], drop, take, sym, ap, ◌∙◌, is_some, drop-length, take-length, utf8_valid_len-IsUtf8, utf8_valid_len, utf8_error_len}
use Rattle.rdf_tokens.proofs.GoodLemmas.{utf8_error_len-nil}
use Rattle.rdf_tokens.proofs.good.tested_front.Goals as goal

pub returns-in-Ok-clause-text : goal.returns-in-Ok-clause-text
returns-in-Ok-clause-text c =
    let bytes = c.args.bytes.now in
    c.in-Ok.ensures.cases.0 ∙ (sym (take-length bytes) ∙ ap (λ n. take n bytes) (sym (utf8_valid_len-IsUtf8 bytes c.in-Ok.ensures.cases.1)))

pub returns-in-Ok-clause-broken : goal.returns-in-Ok-clause-broken
returns-in-Ok-clause-broken c =
    let bytes = c.args.bytes.now in
    let rest : drop (utf8_valid_len bytes) bytes ≡ [] = ap (λ n. drop n bytes) (utf8_valid_len-IsUtf8 bytes c.in-Ok.ensures.cases.1) ∙ drop-length bytes in
    sym (ap (λ r. is_some (utf8_error_len r)) rest ∙ ap is_some utf8_error_len-nil)

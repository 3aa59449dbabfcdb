use Rattle.rdf_terms.proofs.Prelude.{IsUtf8, ap, sym, subst, take, ◌++◌, ◌∙◌, IsUtf8-append}
use Rattle.rdf_terms.proofs.text.place_after.Goals as goal

pub returns-clause-utf8 : goal.returns-clause-utf8
returns-clause-utf8 c =
    subst IsUtf8 (sym (c.place_text.ensures.bytes ∙ ap (λ t. take c.args.at c.args.slot.now ++ t) c.as_bytes.ensures.value))
    (IsUtf8-append (take c.args.at c.args.slot.now) c.args.text.now c.requires.utf8 c.utf8.text)

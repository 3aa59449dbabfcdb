use Rattle.rdf_terms.proofs.Prelude.{◌++◌, ◌∙◌, ap, take, without_backslashes}
use Rattle.rdf_terms.proofs.LocalLemmas.{unescaped_after}
use Rattle.rdf_terms.proofs.text.place_unescaped.Goals as goal

pub returns-clause-text : goal.returns-clause-text
returns-clause-text c =
    (unescaped_after (take c.args.at c.args.slot.now) c.args.text.now _ c.requires.utf8 c.utf8.text
    (c.place_without_backslashes.ensures.bytes ∙ ap (λ t. take c.args.at c.args.slot.now ++ without_backslashes t) c.as_bytes.ensures.value)).0

pub returns-clause-utf8 : goal.returns-clause-utf8
returns-clause-utf8 c =
    (unescaped_after (take c.args.at c.args.slot.now) c.args.text.now _ c.requires.utf8 c.utf8.text
    (c.place_without_backslashes.ensures.bytes ∙ ap (λ t. take c.args.at c.args.slot.now ++ without_backslashes t) c.as_bytes.ensures.value)).1

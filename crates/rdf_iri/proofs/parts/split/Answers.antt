use Rattle.rdf_iri.proofs.Prelude.{◌∙◌, ap, sym, subst, Splits, parts_chars}
use Rattle.rdf_iri.proofs.PartsLemmas.{only_parts, parts_split}
use Rattle.rdf_iri.proofs.Slices.{parts-chars}
use Rattle.rdf_iri.proofs.parts.split.Goals as goal

pub returns-clause-splits : goal.returns-clause-splits
returns-clause-splits c =
    subst (Splits _) (sym (ap parts_chars c.cut_parts.ensures ∙ parts-chars c.args.text.now c.utf8.text)) (parts_split _)

pub returns-clause-only : goal.returns-clause-only
returns-clause-only c = λ p s. only_parts _ p s ∙ sym (ap parts_chars c.cut_parts.ensures ∙ parts-chars c.args.text.now c.utf8.text)
